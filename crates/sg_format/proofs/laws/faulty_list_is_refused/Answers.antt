use Rattle.sg_format.proofs.FaultyLists.{faulty_list}
use Rattle.sg_format.proofs.laws.faulty_list_is_refused.Goals as goal

pub returns : goal.returns
returns c = faulty_list
