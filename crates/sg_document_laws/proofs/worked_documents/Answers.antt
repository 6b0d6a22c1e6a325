use Rattle.std.proofs.Common.{refl}
use Rattle.sg_document_laws.proofs.worked_documents.Goals as goal

pub returns : goal.returns
returns c = record { scaled = refl; block = refl; matrix = refl; stray = refl }
