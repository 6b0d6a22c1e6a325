use Rattle.std.proofs.Common.{map, drop}
use Rattle.sg_model.specs.declared.ticket.Ticket.{Ticket}
use Rattle.sg_check.proofs.Running.{IsRunning}
use Rattle.sg_check.proofs.tickets.weight_total.Given as goal

-- the sum so far, and the weights that are left
abbrev pub invariant-loop-ticket : goal.invariant-loop-ticket
invariant-loop-ticket l = IsRunning (map (λ (x : Ticket). x.weight) l.tickets) l.total (map (λ (x : Ticket). x.weight) (drop l.ticket-index l.tickets))
