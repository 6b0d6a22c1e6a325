use Rattle.std.proofs.Common.{◌≡◌, pos, drop}
use Rattle.sg_commit.specs.Parts.{exact_total}
use Rattle.sg_commit.proofs.parts.running_sum.Given as goal

-- the rest is added to the sum so far
abbrev pub invariant-loop-part : goal.invariant-loop-part
invariant-loop-part l = exact_total (pos 0) l.parts ≡ exact_total l.acc (drop l.part-index l.parts)
