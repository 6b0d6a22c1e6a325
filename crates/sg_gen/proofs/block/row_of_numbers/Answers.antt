use Rattle.std.proofs.Common.{◌∙◌, ℕ, ◌+◌, ◌∷◌, [], ◌++◌, List, ap, sym}
use Rattle.sg_gen.proofs.Lists.{numbers_from-more}
use Rattle.sg_gen.proofs.block.row_of_numbers.Goals as goal

pub loop-i-preserved : goal.loop-i-preserved
loop-i-preserved c =
    c.in_ok-push.ensures.items ∙ (ap (λ (xs : List ℕ). xs ++ (c.args.a + c.loop-i.i) ∷ []) c.loop-i.invariant ∙ sym (numbers_from-more c.args.a c.loop-i.i))
