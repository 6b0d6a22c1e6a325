use Rattle.sg_cert_writer.proofs.Splits.{SplitSoFar}
use Rattle.sg_cert_writer.proofs.writing.+put_node.Given as goal

abbrev pub invariant-loop-part : goal.invariant-loop-part
invariant-loop-part g l = SplitSoFar (g.O.Sink.state l.fn.out) l.fn.block (g.O.Sink.state l.out) l.block l.tree l.part-items l.part-index
