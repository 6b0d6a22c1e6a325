use Rattle.std.proofs.Common.{take}
use Rattle.std.specs.List.{flat_map}
use Rattle.sg_cert.specs.Text.{text_of, cap_rows}
use Rattle.sg_cert_writer.specs.Writing.{Adds}
use Rattle.sg_cert_writer.proofs.writing.put_caps.Given as goal

abbrev pub invariant-loop-cap : goal.invariant-loop-cap
invariant-loop-cap g l = Adds (g.O.Sink.state l.initial.out) l.initial.block (g.O.Sink.state l.out) l.block (text_of (flat_map cap_rows (take l.cap-index l.caps)))
