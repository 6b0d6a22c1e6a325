use Rattle.sg_selection.proofs.Named.{event_is_named, named_once, none_at_the_end}
use Rattle.sg_selection.proofs.laws.order_names_one.Goals as goal

pub returns-clause-there : goal.returns-clause-there
returns-clause-there c = event_is_named

pub returns-clause-once : goal.returns-clause-once
returns-clause-once c = named_once

pub returns-clause-none : goal.returns-clause-none
returns-clause-none c = none_at_the_end
