use Rattle.std.proofs.Common.{◌≡◌, drop}
use Rattle.sg_commit.specs.Parts.{first_below}
use Rattle.sg_commit.proofs.parts.place_below.Given as goal

-- it is not among those before
abbrev pub invariant-loop-i : goal.invariant-loop-i
invariant-loop-i l = first_below 0 l.parts ≡ first_below l.i (drop l.i l.parts)
