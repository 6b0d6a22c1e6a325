use Rattle.sg_document_laws.proofs.Ascending.{ascending}
use Rattle.sg_document_laws.proofs.keys_ascend.Goals as goal

pub returns : goal.returns
returns c = ascending
