use Rattle.std.proofs.Common.{◌+◌, ◌-◌, length}
use Rattle.sg_check.proofs.Valued.{IsWorthSoFar}
use Rattle.sg_check.proofs.value.table_worth.Given as goal

-- the sum so far, and the types that are left
abbrev pub invariant-loop-l : goal.invariant-loop-l
invariant-loop-l l = IsWorthSoFar l.game l.tickets l.sum (l.l + 1) (length l.game.types - l.l)
