-- What a sink over a writer shows: what the writer holds, where it says so, the faults counted, and whether all is flushed.
use Rattle.std.specs.Prelude.{ℕ, List, take, Option, Bool}
use Rattle.std.specs.Io.KnownBytes.{Appends}

-- the writer's bytes, the faults so far, and whether the last step was a flush that went well
pub record WriterState : Type 0 where
  pub contents : Option (List ℕ)
  pub faults : ℕ
  pub is_flushed : Bool

-- the same of a sink over the writer, and the puts that it was given
pub record OutState : Type 0 where
  pub contents : Option (List ℕ)
  pub faults : ℕ
  pub is_flushed : Bool
  pub puts : ℕ

-- A front of the piece was added to the writer's bytes, where they are known.
abbrev pub AppendsFront : Option (List ℕ) → Option (List ℕ) → List ℕ → Type 0
AppendsFront before after piece = (n : ℕ) × Appends before after (take n piece)
