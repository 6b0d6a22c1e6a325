-- What a shelf in memory holds, and what a read of it answers and leaves.
use Rattle.std.specs.Prelude.{◌≡◌, ℕ, ◌+◌, List, length, Bool, ◌||◌, nat_lt, Option, Some, None, Result, Ok, Err, if◌then◌else◌}
use Rattle.sg_shelf.specs.declared.shelf.ShelfError.{ShelfError}
use Rattle.sg_shelf.specs.declared.shelf.ShelfError.TheVariants.{Failed, TooLong, Memory}
use Rattle.sg_shelf.specs.Faults.{raised}
use Rattle.sg_shelf.specs.Logs.{Log, log_with, outcome_of}
use Rattle.sg_shelf.specs.Files.{Files, bytes_under}
use Rattle.sg_shelf.specs.Calls.{is_spent, is_to_fail}

-- the files, the numbers of the reads that are to fail, the reads that were answered, how many these are, and the faults so far
pub record MemShelfState : Type 0 where
  pub files : Files
  pub fails : List ℕ
  pub log : Log
  pub calls : ℕ
  pub faults : ℕ

-- The next read is a fault: it is to fail, or a count stands at its last value.
abbrev pub read_is_fault : MemShelfState → Bool
read_is_fault shelf = is_spent shelf.calls shelf.faults || is_to_fail shelf.fails (shelf.calls + 1)

-- what a read up to the limit answers of the bytes under a name
abbrev pub answer_of : Option (List ℕ) → ℕ → Result (List ℕ) ShelfError
answer_of None limit = Err Failed
answer_of (Some bytes) limit = if nat_lt limit (length bytes) then Err (TooLong (length bytes)) else Ok bytes

-- what the next read answers, if there is memory for it
abbrev pub read_answer : MemShelfState → List ℕ → ℕ → Result (List ℕ) ShelfError
read_answer shelf name limit = if read_is_fault shelf then Err Failed else answer_of (bytes_under shelf.files name) limit

-- the shelf after the read: one more entry of the log, one more call, and one more fault where it is one
abbrev pub after_read : MemShelfState → List ℕ → ℕ → MemShelfState
after_read shelf name limit = record shelf {
  log = log_with shelf.log name limit (outcome_of (read_answer shelf name limit));
  calls = raised shelf.calls;
  faults = if read_is_fault shelf then raised shelf.faults else shelf.faults;
}

-- The read fails so. Want of memory comes at any time, and leaves the shelf as it was.
abbrev pub ReadFails : MemShelfState → MemShelfState → List ℕ → ℕ → ShelfError → Type 0
ReadFails before after name limit Failed = (read_answer before name limit ≡ Err Failed) × (after ≡ after_read before name limit)
ReadFails before after name limit (TooLong seen) = (read_answer before name limit ≡ Err (TooLong seen)) × (after ≡ after_read before name limit)
ReadFails before after name limit Memory = after ≡ before
