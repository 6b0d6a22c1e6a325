use Rattle.std.proofs.Common.{take, map}
use Rattle.std.specs.Prelude.{decimal}
use Rattle.sg_cert.specs.Text.{spaced}
use Rattle.sg_cert_writer.specs.Writing.{Adds}
use Rattle.sg_cert_writer.proofs.block.put_choices.Given as goal

abbrev pub invariant-loop-choice : goal.invariant-loop-choice
invariant-loop-choice g l = Adds (g.O.Sink.state l.initial.out) l.initial.block (g.O.Sink.state l.out) l.block (spaced (map decimal (take l.choice-index l.choices)))
