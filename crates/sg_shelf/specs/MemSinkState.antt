-- What a sink in memory took, and what a put into it takes and answers.
use Rattle.std.specs.Prelude.{ℕ, ◌+◌, List, ◌++◌, length, take, Bool, not, ◌&&◌, ◌||◌, nat_le, if◌then◌else◌}
use Rattle.sg_shelf.specs.Faults.{raised}
use Rattle.sg_shelf.specs.Calls.{is_spent, is_to_fail}

-- the bytes taken, the numbers of the puts that are to fail, how many bytes those take, and the puts and faults so far
pub record MemSinkState : Type 0 where
  pub bytes : List ℕ
  pub fails : List ℕ
  pub keep : ℕ
  pub calls : ℕ
  pub faults : ℕ

-- the bytes due to the next put: the piece, or its front where the put is to fail
abbrev pub bytes_due : MemSinkState → List ℕ → List ℕ
bytes_due sink piece = if is_to_fail sink.fails (sink.calls + 1) then take sink.keep piece else piece

-- They fit in the reserve of 16 MiB.
abbrev pub due_fits : MemSinkState → List ℕ → Bool
due_fits sink piece = nat_le (length sink.bytes + length (bytes_due sink piece)) 16777216

-- The next put takes the bytes due: they fit, and no count stands at its last value.
abbrev pub put_takes : MemSinkState → List ℕ → Bool
put_takes sink piece = not (is_spent sink.calls sink.faults) && due_fits sink piece

-- The next put fails: it takes nothing, or is to fail.
abbrev pub put_fails : MemSinkState → List ℕ → Bool
put_fails sink piece = not (put_takes sink piece) || is_to_fail sink.fails (sink.calls + 1)

-- the sink after the put: the bytes due where they are taken, one more call, and one more fault where it fails
abbrev pub after_put : MemSinkState → List ℕ → MemSinkState
after_put sink piece = record sink {
  bytes = if put_takes sink piece then sink.bytes ++ bytes_due sink piece else sink.bytes;
  calls = raised sink.calls;
  faults = if put_fails sink piece then raised sink.faults else sink.faults;
}
