use Rattle.std.proofs.Common.{◌≡◌, map}
use Rattle.sg_model.specs.Sums.{greatest, numbers}
use Rattle.sg_bounds.specs.Sizes.{attacker_span}
use Rattle.sg_desk.proofs.measures.attacker_most.Given as goal

-- the greatest so far
abbrev pub invariant-loop-l : goal.invariant-loop-l
invariant-loop-l l = l.most ≡ greatest (map (attacker_span l.game) (numbers l.l))
