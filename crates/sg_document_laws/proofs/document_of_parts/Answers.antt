use Rattle.sg_document_laws.proofs.Parted.{document_of_parts}
use Rattle.sg_document_laws.proofs.document_of_parts.Goals as goal

pub returns : goal.returns
returns c = document_of_parts
