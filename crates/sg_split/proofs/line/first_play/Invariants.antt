use Rattle.std.proofs.Common.{◌≡◌, pos, ◌+ℤ◌, ◌*ℤ◌}
use Rattle.sg_split.specs.Laying.{play_at}
use Rattle.sg_split.specs.Lines.{IsBehind, spots}
use Rattle.sg_split.proofs.line.first_play.Given as goal

-- the choices of the patrols before, and none left out for the next
abbrev pub invariant-loop-patrol : goal.invariant-loop-patrol
invariant-loop-patrol l = record {
  so_far : l.code ≡ play_at (spots l.line) l.patrol l.line.moments (pos 0);
  behind : IsBehind (spots l.line) l.target ((pos l.patrol *ℤ l.line.moments) +ℤ pos 0);
}
