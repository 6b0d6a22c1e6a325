use Rattle.std.proofs.Common.{◌<◌, ℕ, length, pos, ◌≤ℤ◌, get_or}
use Rattle.sg_split.specs.Lines.{spot, spots}
use Rattle.sg_split.proofs.line.target_from.Given as goal

-- no end before is past the place
abbrev pub invariant-loop-k : goal.invariant-loop-k
invariant-loop-k l = (i : ℕ) → i < l.k → i < length l.line.ends → get_or (spots l.line) i (pos 0) ≤ℤ spot l.line.moments l.place
