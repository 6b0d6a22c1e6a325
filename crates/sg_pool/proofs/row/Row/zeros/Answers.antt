use Rattle.std.proofs.Common.{◌∙◌, ◌++◌, ◌∷◌, [], ap, pos, List}
use Rattle.std.specs.Prelude.{ℤ}
use Rattle.std.proofs.lemmas.List.{replicate_more}
use Rattle.sg_pool.proofs.row.Row.zeros.Goals as goal

pub loop-preserved : goal.loop-preserved
loop-preserved c = c.in_ok-push.ensures.items ∙ ap (λ (xs : List ℤ). xs ++ (pos 0 ∷ [])) c.loop.invariant ∙ replicate_more c.loop.counter (pos 0)
