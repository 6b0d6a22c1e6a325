use Rattle.std.proofs.Common.{◌≡◌, flat_map}
use Rattle.sg_model.specs.Limits.{IsPay}
use Rattle.sg_model.specs.Payoffs.{payoffs_of}
use Rattle.sg_model.specs.Sums.{greatest, numbers}
use Rattle.sg_plays_fact.proofs.measures.defender_greatest.Given as goal

-- the greatest payoff against the types so far
abbrev pub invariant-loop-l : goal.invariant-loop-l
invariant-loop-l l = (l.most ≡ greatest (flat_map (payoffs_of l.game) (numbers l.l))) × IsPay l.most
