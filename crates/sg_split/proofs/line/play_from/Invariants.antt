use Rattle.std.proofs.Common.{◌≡◌}
use Rattle.sg_split.specs.Laying.{play_at}
use Rattle.sg_split.specs.Lines.{spots}
use Rattle.sg_split.proofs.line.play_from.Given as goal

-- the choices of the patrols before
abbrev pub invariant-loop-patrol : goal.invariant-loop-patrol
invariant-loop-patrol l = l.code ≡ play_at (spots l.line) l.patrol l.line.moments l.fn.moment
