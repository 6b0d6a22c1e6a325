use Rattle.sg_model.proofs.Tickets.{tickets-value, tickets-optimal}
use Rattle.sg_model.proofs.origami_laws.level_tickets_are_optimal.Goals as goal

pub returns : goal.returns
returns c = λ g o num den why w k is_k tickets.
    (tickets-value g o num den w.positive k is_k tickets why w, tickets-optimal g o num den w.positive k is_k tickets why w)
