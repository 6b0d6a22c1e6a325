use Rattle.sg_desk.proofs.Marked.{AreMarked}
use Rattle.sg_desk.proofs.marking.put_type.Given as goal

-- the actions so far
abbrev pub invariant-loop-i : goal.invariant-loop-i
invariant-loop-i l = AreMarked l.initial.marks l.marks l.l l.act l.i l.row l.next l.y
