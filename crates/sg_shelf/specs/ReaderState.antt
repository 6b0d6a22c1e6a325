-- What a counted reader shows: the bytes that it has left, where it says so, and the faults counted.
use Rattle.std.specs.Prelude.{◌+◌, ◌<◌, ◌≤◌, ℕ, List, length, Option, Some, None}

-- the bytes left, and the faults so far
pub record ReaderState : Type 0 where
  pub remaining : Option (List ℕ)
  pub faults : ℕ

-- At most so many bytes were read, where they are known.
abbrev pub GivesAtMost : ℕ → Option (List ℕ) → Option (List ℕ) → Type 0
GivesAtMost most None after = Unit {0}
GivesAtMost most (Some before) None = ⊥
GivesAtMost most (Some before) (Some after) = length before ≤ most + length after

-- More than so many bytes are left, where they are known.
abbrev pub MayHaveMore : ℕ → Option (List ℕ) → Type 0
MayHaveMore limit None = Unit {0}
MayHaveMore limit (Some bytes) = limit < length bytes
