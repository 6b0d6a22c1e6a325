use Rattle.std.proofs.Common.{◌≡◌, map}
use Rattle.sg_model.specs.Sums.{numbers}
use Rattle.sg_bounds.specs.Coverage.{covering}
use Rattle.sg_eraser.specs.Amounts.{amount_in}
use Rattle.sg_eraser.proofs.amounts.target_amounts.Given as goal

-- those of the targets so far
abbrev pub invariant-loop-k : goal.invariant-loop-k
invariant-loop-k l = l.amounts ≡ map (λ u. amount_in l.game l.parts (covering u)) (numbers l.k)
