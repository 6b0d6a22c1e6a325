use Rattle.sg_tickets.proofs.Facts as facts
use Rattle.sg_tickets.proofs.laws.days_cover_as_tickets.Goals as goal

pub returns : goal.returns
returns c = facts.days_cover_as_tickets
