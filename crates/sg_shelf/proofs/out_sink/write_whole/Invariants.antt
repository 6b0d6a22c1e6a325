use Rattle.std.proofs.Common.{◌≡◌, ◌-◌, ◌≤◌, length, take}
use Rattle.std.specs.Io.KnownBytes.{Appends}
use Rattle.sg_shelf.proofs.out_sink.write_whole.Given as goal

-- the writer holds the bytes of the piece that it took so far, with no fault
abbrev pub invariant-loop-taken : goal.invariant-loop-taken
invariant-loop-taken g l = (l.taken ≤ length l.piece) × Appends l.initial.outlet.contents l.outlet.contents (take l.taken l.piece) × (l.outlet.faults ≡ l.initial.outlet.faults)

-- what is left of the piece
abbrev pub decreases-loop-taken : goal.decreases-loop-taken
decreases-loop-taken g l = length l.piece - l.taken
