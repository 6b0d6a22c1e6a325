use Rattle.std.proofs.Common.{◌≡◌, length, take}
use Rattle.sg_fixed.proofs.fixed_types.filled.Given as goal

-- the actions so far
abbrev pub invariant-loop-i : goal.invariant-loop-i
invariant-loop-i l = record { size : length l.room ≡ 8; same : take l.i l.room ≡ take l.i l.acts }
