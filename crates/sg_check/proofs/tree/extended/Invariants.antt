use Rattle.std.proofs.Common.{◌≡◌, length, take}
use Rattle.sg_check.proofs.tree.extended.Given as goal

-- the actions so far
abbrev pub invariant-loop-i : goal.invariant-loop-i
invariant-loop-i l = record { size : length l.all ≡ 8; same : take l.i l.all ≡ take l.i l.acts }
