use Rattle.sg_document_laws.proofs.Written.{accepted_files}
use Rattle.sg_document_laws.proofs.accepted_files.Goals as goal

pub returns : goal.returns
returns c = accepted_files
