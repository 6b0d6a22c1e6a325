use Rattle.std.proofs.Common.{refl}
use Rattle.std.proofs.lemmas.Bool.{iff_false}
use Rattle.std.proofs.lemmas.Str.{is_utf8-from_IsUtf8}
use Rattle.sg_format.specs.Documents.{document_of}
use Rattle.sg_file.proofs.Steps.{document_of-refused}
use Rattle.sg_file.proofs.document.document.Goals as goal

pub returns-in-Ok : goal.returns-in-Ok
unfolding document_of
returns-in-Ok c = rw (is_utf8-from_IsUtf8 c.args.bytes.now c.in-Ok.ensures.ok.0, c.in-Ok.ensures.ok.1) refl

pub returns-else-is_memory : goal.returns-else-is_memory
returns-else-is_memory c = rw c.fault.ensures (document_of-refused c.args.bytes.now (c.in-Err.ensures.refused (iff_false c.is_memory.ensures c.if-is_memory.false)))
