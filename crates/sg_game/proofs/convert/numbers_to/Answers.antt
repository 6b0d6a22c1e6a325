use Rattle.std.proofs.Common.{◌++◌, ◌∷◌, [], List, ℕ, ◌+◌, ◌∙◌, sym, ap}
use Rattle.sg_game.proofs.Patrols.{numbers-more}
use Rattle.sg_game.proofs.convert.numbers_to.Goals as goal

pub loop-k-preserved : goal.loop-k-preserved
loop-k-preserved c =
    c.in_ok-push.ensures.ok ∙ (ap (λ (xs : List ℕ). xs ++ (c.loop-k.k + 1) ∷ []) c.loop-k.invariant ∙ sym (numbers-more c.loop-k.k))
