use Rattle.std.proofs.Common.{◌≡◌, ◌<◌, pos, ◌≤ℤ◌, All}
use Rattle.sg_model.specs.declared.ticket.Ticket.{Ticket}
use Rattle.sg_model.specs.Commitments.{weight_total}
use Rattle.sg_commit.specs.Joining.{joined, outcome, standing}
use Rattle.sg_commit.proofs.joining.join.Given as goal

-- the same comes of what stands there, and its weights have the same sum
abbrev pub invariant-loop-next : goal.invariant-loop-next
invariant-loop-next l = record {
  order : l.last < l.next;
  same : outcome l.tickets l.last l.next ≡ joined l.initial.tickets;
  positive : All (λ (x : Ticket). pos 1 ≤ℤ x.weight) (standing l.tickets l.last l.next);
  sum : weight_total (standing l.tickets l.last l.next) ≡ weight_total l.initial.tickets;
}
