use Rattle.std.proofs.Common.{◌≡◌, ◌+◌, ◌-◌, ◌++◌, [], map}
use Rattle.sg_model.specs.Sums.{numbers_from}
use Rattle.sg_model.specs.Payoffs.{greatest_of}
use Rattle.sg_lanes.proofs.start.plain_caps.Given as goal

-- the caps so far, and those to come, are all
abbrev pub invariant-loop-l : goal.invariant-loop-l
invariant-loop-l l =
    l.caps.items ++ map (λ t. record { l = t; v = greatest_of l.game t; proof = [] }) (numbers_from (l.l + 1) (l.count - l.l))
    ≡ map (λ t. record { l = t; v = greatest_of l.game t; proof = [] }) (numbers_from 2 (l.count - 1))
