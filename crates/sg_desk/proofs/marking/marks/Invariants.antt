use Rattle.std.proofs.Common.{◌+◌, ◌*◌, ◌^◌, ◌≤◌}
use Rattle.sg_desk.proofs.Marked.{AreAllMarked}
use Rattle.sg_desk.proofs.marking.marks.Given as goal

-- the types so far
abbrev pub invariant-loop-i : goal.invariant-loop-i
invariant-loop-i l = record {
  marked : AreAllMarked l.game l.fix l.marks l.i l.row l.y;
  near : l.row ≤ 1 + l.i * 2 ^ 16;
}
