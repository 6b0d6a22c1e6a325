use Rattle.std.proofs.Common.{List, ℕ, drop}
use Rattle.sg_model.specs.Plays.{pay_a}
use Rattle.sg_check.proofs.Valued.{IsSummed}
use Rattle.sg_check.proofs.sums.total_a.Given as goal

-- the sum so far, and the tickets that are left
abbrev pub invariant-loop-ticket : goal.invariant-loop-ticket
invariant-loop-ticket l = IsSummed (λ (play : List ℕ). pay_a l.game l.l play l.a) l.tickets l.sum (drop l.ticket-index l.tickets)
