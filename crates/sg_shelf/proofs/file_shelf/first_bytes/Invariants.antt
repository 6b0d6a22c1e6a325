use Rattle.std.proofs.Common.{◌≡◌, ◌-◌, ◌≤◌, vec_len}
use Rattle.std.specs.Io.KnownBytes.{Consumes}
use Rattle.sg_shelf.proofs.file_shelf.first_bytes.Given as goal

-- the bytes are what the file gave so far, with no fault
abbrev pub invariant-loop-chunk : goal.invariant-loop-chunk
invariant-loop-chunk g l = (vec_len l.bytes ≤ l.most) × Consumes l.initial.source.remaining l.source.remaining l.bytes.items × (l.source.faults ≡ l.initial.source.faults)

-- the room that is left
abbrev pub decreases-loop-chunk : goal.decreases-loop-chunk
decreases-loop-chunk g l = l.most - vec_len l.bytes
