use Rattle.sg_search.proofs.Opened.{open_where_prefix_waits}
use Rattle.sg_search.proofs.choice_laws.open_where_prefix_waits.Goals as goal

pub returns : goal.returns
returns c = open_where_prefix_waits
