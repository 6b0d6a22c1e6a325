use Rattle.std.proofs.Common.{take, map}
use Rattle.sg_cert.specs.Text.{text_of, mark_row}
use Rattle.sg_cert_writer.specs.Writing.{Adds}
use Rattle.sg_cert_writer.proofs.writing.put_marks.Given as goal

abbrev pub invariant-loop-mark : goal.invariant-loop-mark
invariant-loop-mark g l = Adds (g.O.Sink.state l.initial.out) l.initial.block (g.O.Sink.state l.out) l.block (text_of (map mark_row (take l.mark-index l.marks)))
