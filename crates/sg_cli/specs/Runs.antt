-- What a run answers: its status, what it wrote, and why.
use Rattle.std.specs.Prelude.{◌≡◌, ◌⊎◌, ℕ, false, Option, Some, None}
use Rattle.std.specs.declared.alloc.Global.{Global}
use Rattle.sg_shelf.specs.Faults.{HasRisen, HasNotRisen}
use Rattle.sg_shelf.specs.Files.{Files, HandsOver}
use Rattle.sg_shelf.specs.Logs.{Log}
use Rattle.sg_shelf.specs.States.{SinkState}
use Rattle.sg_shelf.specs.Taken.{Takes, TakesFront}
use Rattle.sg_words.specs.Commands.{Asked}
use Rattle.sg_cli.specs.CommandList.{command_for}
use Rattle.sg_cli.specs.Progress.{ReadsFront, reads_of}
use Rattle.sg_cli.specs.Effects.{Fails, IsDone, Surroundings}
use Rattle.sg_cli.specs.ExpectedStatus.{ExpectedStatus}
use Rattle.sg_cli.specs.Refusals.{status_of, line_of}
use Rattle.sg_cli.specs.declared.refusal.Refusal.{Refusal}
use Rattle.sg_cli.specs.declared.refusal.Refusal.TheVariants as refusals

-- a run as seen from outside: what the words ask for, which bytes the shelf's reads hand over, and the shelf and the output
-- before and after
pub record Observation : Type 1 where
  pub asked : Option Asked
  pub hands : HandsOver
  pub before : Surroundings
  pub after : Surroundings

abbrev pub observation : Option Asked → HandsOver → Surroundings → Surroundings → Observation
observation asked hands before after = record { asked = asked; hands = hands; before = before; after = after }

-- the command that the words ask for was done, with this status
pub record DoesCommand (o : Observation) (status : ℕ) : Type 0 where
  pub asked : Asked
  pub asks : o.asked ≡ Some asked
  pub done : IsDone o.hands (command_for asked) o.before o.after status

-- or it failed so
pub record FailsCommand (o : Observation) (refusal : Refusal) : Type 0 where
  pub asked : Asked
  pub asks : o.asked ≡ Some asked
  pub fails : Fails o.hands (command_for asked) o.before o.after refusal

-- the command that the words ask for, if any, has its whole text before it writes
abbrev pub FormsFirst : Option Asked → Type 0
FormsFirst None = Unit {0}
FormsFirst (Some asked) = (command_for asked).is_formed_late ≡ false

-- the surroundings are as they were
abbrev pub IsUntouched : Observation → Type 0
IsUntouched o = (o.after.shelf ≡ o.before.shelf) × (o.after.out ≡ o.before.out)

-- what a refusal comes of: words that give no command, before which nothing is read or written; the command; and want of
-- memory for the words themselves
abbrev pub ComesOf : Observation → Refusal → Type 0
ComesOf o refusals.Words = (o.asked ≡ None) × IsUntouched o
ComesOf o refusals.Memory = FailsCommand o refusals.Memory ⊎ IsUntouched o
ComesOf o refusal = FailsCommand o refusal

-- what a run says of a refusal on the other output: exactly its line where no fault is counted there, and never more
pub record TellsRefusal (before after : SinkState) (refusal : Refusal) : Type 0 where
  pub whole : HasNotRisen before.faults after.faults → Takes before.bytes after.bytes (line_of refusal)
  pub front : TakesFront before.bytes after.bytes (line_of refusal)

-- one refusal decides the status, its cause and what is told
pub record Refuses (o : Observation) (err_before err_after : SinkState) (status : ℕ) : Type 0 where
  pub refusal : Refusal
  pub is_status : status ≡ status_of refusal
  pub cause : ComesOf o refusal
  pub tells : TellsRefusal err_before err_after refusal

-- the command was done, and nothing told, or a refusal
abbrev pub Answers : Observation → SinkState → SinkState → ℕ → Type 0
Answers o err_before err_after status = (DoesCommand o status × (err_after ≡ err_before)) ⊎ Refuses o err_before err_after status

-- the status of a fault that the shelf or the output counted
abbrev pub IsOfFault : Observation → ℕ → Type 0
IsOfFault o status =
    ((status ≡ 4) × HasRisen o.before.shelf.faults o.after.shelf.faults) ⊎ ((status ≡ 9) × HasRisen o.before.out.faults o.after.out.faults)

-- what a run owes: but for want of memory it never gives up
pub record IsComplete (o : Observation) (status : ℕ) : Type 0 where
  -- words that give no command
  pub words : o.asked ≡ None → (status ≡ 2) ⊎ (status ≡ 11)
  -- where the files are told and no fault is counted, the status is the one that is due
  pub told : (asked : Asked) (files : Files) → o.asked ≡ Some asked → o.before.shelf.files ≡ Some files
      → (status ≡ 11) ⊎ (IsOfFault o status ⊎ ExpectedStatus (command_for asked) files status)
