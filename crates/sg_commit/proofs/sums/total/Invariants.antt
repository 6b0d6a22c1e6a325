use Rattle.std.proofs.Common.{◌≡◌, drop}
use Rattle.sg_model.specs.declared.ticket.Ticket.{Ticket}
use Rattle.sg_commit.specs.ExactSums.{exact_dot}
use Rattle.sg_commit.specs.Sides.{exact_sum_to, pay_to}
use Rattle.sg_commit.proofs.sums.total.Given as goal

-- the rest is added to the sum so far
abbrev pub invariant-loop-ticket : goal.invariant-loop-ticket
invariant-loop-ticket l =
    exact_sum_to l.side l.game l.tickets l.l l.a ≡ exact_dot (λ (x : Ticket). pay_to l.side l.game l.l x.play.code l.a) l.acc (drop l.ticket-index l.tickets)
