use Rattle.std.proofs.Common.{◌≡◌, length}
use Rattle.sg_solve.specs.UnderWay.{AreTold}
use Rattle.sg_solve.proofs.searching.told.Given as goal

abbrev pub invariant-loop-place : goal.invariant-loop-place
invariant-loop-place l = AreTold l.lanes l.place l.ready × (length l.ready ≡ 8)
