use Rattle.std.proofs.Common.{take}
use Rattle.std.specs.List.{flat_map}
use Rattle.sg_cert.specs.Text.{text_of, fact_rows}
use Rattle.sg_cert_writer.specs.Writing.{Adds}
use Rattle.sg_cert_writer.proofs.writing.put_facts.Given as goal

abbrev pub invariant-loop-fact : goal.invariant-loop-fact
invariant-loop-fact g l = Adds (g.O.Sink.state l.initial.out) l.initial.block (g.O.Sink.state l.out) l.block (text_of (flat_map fact_rows (take l.fact-index l.facts)))
