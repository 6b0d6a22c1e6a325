use Rattle.std.proofs.Common.{◌≡◌, ◌^◌, ◌≤ℤ◌, map, pos}
use Rattle.std.specs.Int.{int_max}
use Rattle.sg_model.specs.Sums.{greatest, numbers}
use Rattle.sg_bounds.specs.Sizes.{attacker_span}
use Rattle.sg_plays_fact.proofs.measures.attacker_most.Given as goal

-- the greatest difference of the types so far
abbrev pub invariant-loop-l : goal.invariant-loop-l
invariant-loop-l l = (l.most ≡ int_max (pos 1) (greatest (map (attacker_span l.game) (numbers l.l)))) × (pos 1 ≤ℤ l.most) × (l.most ≤ℤ pos (2 ^ 31))
