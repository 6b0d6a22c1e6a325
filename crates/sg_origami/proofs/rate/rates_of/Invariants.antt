use Rattle.std.proofs.Common.{◌≡◌, ◌++◌, ◌-◌, ◌+◌, length, map}
use Rattle.sg_model.specs.Sums.{numbers, numbers_from}
use Rattle.sg_origami.specs.Rates.{rate_at}
use Rattle.sg_origami.proofs.rate.rates_of.Given as goal

-- what is read, and the rates of what is left
abbrev pub invariant-loop-t : goal.invariant-loop-t
invariant-loop-t l = map (rate_at l.game) (numbers (length l.game.goals)) ≡ l.rates ++ map (rate_at l.game) (numbers_from (l.t + 1) (length l.game.goals - l.t))
