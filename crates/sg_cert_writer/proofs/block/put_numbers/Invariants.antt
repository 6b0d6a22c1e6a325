use Rattle.std.proofs.Common.{take, map}
use Rattle.std.specs.Fmt.{signed_decimal}
use Rattle.sg_cert.specs.Text.{spaced}
use Rattle.sg_cert_writer.specs.Writing.{Adds}
use Rattle.sg_cert_writer.proofs.block.put_numbers.Given as goal

abbrev pub invariant-loop-number : goal.invariant-loop-number
invariant-loop-number g l = Adds (g.O.Sink.state l.initial.out) l.initial.block (g.O.Sink.state l.out) l.block (spaced (map signed_decimal (take l.number-index l.numbers)))
