use Rattle.sg_tickets.proofs.Facts as facts
use Rattle.sg_tickets.proofs.laws.places_are_listed.Goals as goal

pub returns : goal.returns
returns c = facts.places_are_listed
