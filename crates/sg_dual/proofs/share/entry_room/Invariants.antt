use Rattle.std.proofs.Common.{◌≡◌, length}
use Rattle.sg_dual.proofs.share.entry_room.Given as goal

abbrev pub invariant-loop : goal.invariant-loop
invariant-loop l = length l.room.items ≡ l.counter
