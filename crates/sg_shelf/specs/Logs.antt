-- The log of a shelf: the reads that it answered, in order.
use Rattle.std.specs.Prelude.{ℕ, List, [], ◌∷◌, ◌++◌, map, string_bytes, Option, Some, None, Result, Ok, Err}
use Rattle.sg_shelf.specs.declared.log.Outcome.{Outcome}
use Rattle.sg_shelf.specs.declared.log.Outcome.TheVariants as outcomes
use Rattle.sg_shelf.specs.declared.log.Reading.{Reading}
use Rattle.sg_shelf.specs.declared.shelf.ShelfError.{ShelfError}
use Rattle.sg_shelf.specs.declared.shelf.ShelfError.TheVariants.{Failed, TooLong, Memory}

-- a read: the name and the limit that were asked for, and how it was answered
pub record Entry : Type 0 where
  pub name : List ℕ
  pub limit : ℕ
  pub outcome : Outcome

abbrev pub Log : Type 0
Log = List Entry

-- these, in one record
abbrev pub logged_read : List ℕ → ℕ → Outcome → Entry
logged_read name limit outcome = record { name = name; limit = limit; outcome = outcome }

-- the log that readings are
abbrev pub log_of : List Reading → Log
log_of readings = map (λ (r : Reading). logged_read (string_bytes r.name) r.limit r.outcome) readings

-- the log with one more entry at its end
abbrev pub logged : Log → List ℕ → ℕ → Outcome → Log
logged log name limit outcome = log ++ logged_read name limit outcome ∷ []

-- how an error answers: want of memory is no answer
abbrev pub outcome_of_error : ShelfError → Option Outcome
outcome_of_error Failed = Some outcomes.Failed
outcome_of_error (TooLong seen) = Some outcomes.TooLong
outcome_of_error Memory = None

-- how a read was answered, if it was
abbrev pub outcome_of : {Bytes : Type 0} → Result Bytes ShelfError → Option Outcome
outcome_of (Ok bytes) = Some outcomes.Given
outcome_of (Err error) = outcome_of_error error

-- the log after a read that was answered so, if it was
abbrev pub log_with : Log → List ℕ → ℕ → Option Outcome → Log
log_with log name limit None = log
log_with log name limit (Some outcome) = logged log name limit outcome

-- the log after a read that answered this error
abbrev pub log_after : ShelfError → List ℕ → ℕ → Log → Log
log_after error name limit log = log_with log name limit (outcome_of_error error)
