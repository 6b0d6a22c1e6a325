use Rattle.std.proofs.Common.{take, map}
use Rattle.sg_cert.specs.Text.{text_of, line_row}
use Rattle.sg_cert_writer.specs.Writing.{Adds}
use Rattle.sg_cert_writer.proofs.writing.put_rows.Given as goal

abbrev pub invariant-loop-row : goal.invariant-loop-row
invariant-loop-row g l = Adds (g.O.Sink.state l.initial.out) l.initial.block (g.O.Sink.state l.out) l.block (text_of (map line_row (take l.row-index l.rows)))
