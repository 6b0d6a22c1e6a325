use Rattle.std.proofs.Common.{◌≡◌}
use Rattle.std.specs.List.{flat_map}
use Rattle.sg_model.specs.Limits.{IsPay}
use Rattle.sg_model.specs.Payoffs.{payoffs_of}
use Rattle.sg_model.specs.Sums.{greatest, numbers}
use Rattle.sg_desk.proofs.measures.greatest_payoff.Given as goal

-- the greatest so far
abbrev pub invariant-loop-l : goal.invariant-loop-l
invariant-loop-l l = record {
  most : l.most ≡ greatest (flat_map (payoffs_of l.game) (numbers l.l));
  within : IsPay l.most;
}
