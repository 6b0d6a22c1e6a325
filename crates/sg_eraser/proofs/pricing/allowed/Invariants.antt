use Rattle.std.proofs.Common.{◌≡◌, drop, pos}
use Rattle.sg_eraser.proofs.Formed.{formed_of}
use Rattle.sg_eraser.proofs.pricing.allowed.Given as goal

-- what is formed from the start is what is formed from here on
abbrev pub invariant-loop-entry : goal.invariant-loop-entry
invariant-loop-entry l = formed_of l.y (pos 0) l.entries ≡ formed_of l.y l.acc (drop l.entry-index l.entries)
