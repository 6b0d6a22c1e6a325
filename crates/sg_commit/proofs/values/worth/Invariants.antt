use Rattle.std.proofs.Common.{◌≡◌, ◌+◌, ◌-◌, length}
use Rattle.sg_model.specs.Sums.{numbers_from}
use Rattle.sg_commit.specs.ExactSums.{exact_worth, worth_from}
use Rattle.sg_commit.proofs.values.worth.Given as goal

-- the types that are left are added to the sum so far
abbrev pub invariant-loop-i : goal.invariant-loop-i
invariant-loop-i l = exact_worth l.game l.k.tickets ≡ worth_from l.game l.k.tickets l.acc (numbers_from (l.i + 1) (length l.game.types - l.i))
