use Rattle.std.proofs.Common.{◌≡◌, true, subst, sym, List}
use Rattle.sg_model.specs.declared.ticket.Ticket.{Ticket}
use Rattle.sg_tree.specs.Claims.{is_claim}
use Rattle.sg_tree.proofs.Committing.{claim_of}
use Rattle.sg_tree.proofs.claim.Claim.of.Goals as goal

pub invariant_of-result : goal.invariant_of-result
invariant_of-result c =
    subst (λ (k : List Ticket). is_claim k ≡ true) (sym c.into_tickets-tickets.ensures.value) (claim_of c.args.k c.into_tickets-tickets.ensures.rules c.requires)
