use Rattle.std.proofs.Common.{◌≡◌, drop, pos, ◌+ℤ◌, ◌*ℤ◌}
use Rattle.sg_model.specs.Limits.{IsWithin}
use Rattle.sg_model.specs.Sums.{total}
use Rattle.sg_commit_tests.proofs.wraps.have_room.Given as goal

-- what is left, and all counts, are what the patrols hold, and the counts that are left to take
abbrev pub invariant-loop-count : goal.invariant-loop-count
invariant-loop-count l = record {
  room : IsWithin (pos 0) l.fn.tickets l.room.tickets;
  all : ((pos l.room.patrols *ℤ l.fn.tickets) +ℤ l.room.tickets) +ℤ total (λ count. count) l.counts ≡ (pos l.fn.patrols *ℤ l.fn.tickets) +ℤ total (λ count. count) (drop l.count-index l.counts);
}
