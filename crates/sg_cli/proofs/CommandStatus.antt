-- Told files decide one status for each command of the list, and each ends with a status of success.
use Rattle.std.proofs.Common.{◌≡◌, ◌≢◌, ◌⊎◌, ℕ, Bool, true, false, List, Option, Result, Ok, Err, IfOk, IfErr, Some, sym, ◌∙◌, subst, inl, inr}
use Rattle.sg_words.specs.Commands.{Asked, solve, check, show, roster, make}
use Rattle.sg_cli.specs.Commands.{IsSuccess}
use Rattle.sg_cli.specs.Inputs.{Content}
use Rattle.sg_cli.specs.Checking.{ends_yes, writes_yes, yes_status}
use Rattle.sg_cli.specs.CommandList.{command_for}
use Rattle.sg_shelf.specs.Files.{Files, HandsOver}
use Rattle.sg_shelf.specs.States.{ShelfState, SinkState}
use Rattle.sg_cli.specs.Effects.{Fails, IsDone, surroundings}
use Rattle.sg_cli.specs.Making.{making}
use Rattle.sg_cli.specs.MakingSteps.{MakingFails, WritesMade}
use Rattle.sg_cli.specs.Showing.{ends_shown, writes_table}
use Rattle.sg_cli.specs.Laws.{IsDecided, OneStatusIsDue}
use Rattle.sg_cli.specs.ExpectedStatus.{ExpectedStatus}
use Rattle.sg_cli.specs.Runs.{ComesOf, DoesCommand, FormsFirst, Observation}
use Rattle.sg_cli.proofs.JudgingStatus.{one_judging, success_checking, success_showing}
use Rattle.sg_cli.proofs.MakingStatus.{done_making, fails_making, one_making, success_making}
use Rattle.sg_cli.proofs.OneStatus.{IsOne, just}
use Rattle.sg_cli.proofs.RosterStatus.{one_rostering, success_rostering}
use Rattle.sg_cli.proofs.SolvingStatus.{one_solving, success_solving}
use Rattle.sg_cli.specs.declared.refusal.Refusal.{Refusal}
use Rattle.sg_cli.specs.declared.refusal.Refusal.TheVariants.{Words, NotRead, TooLong, Refused, Own, NotWritten, Memory}

-- one status alone
alone : (files : Files) (asked : Asked) → IsOne (ExpectedStatus (command_for asked) files) → IsDecided files asked
alone files asked one = (one.0, one.1, λ other due. inl (one.2 other due))

pub one_status : OneStatusIsDue
one_status files (solve name budget order) = one_solving files name budget order
one_status files (check name named) = alone files (check name named) (one_judging files name named ends_yes writes_yes (λ g r. just (yes_status r)))
one_status files (show name named) = alone files (show name named) (one_judging files name named ends_shown writes_table (λ g r. just 0))
one_status files (roster name named seed) = alone files (roster name named seed) (one_rostering files name named seed)
one_status files (make text seed) = alone files (make text seed) (one_making files text seed)

-- ---- success

success : (asked : Asked) (contents : List Content) (status : ℕ) → (command_for asked).ends contents status → IsSuccess status
success (solve name budget order) = success_solving
success (check name named) = success_checking
success (show name named) = success_showing
success (roster name named seed) = success_rostering
success (make text seed) = success_making

-- no other status is one of a command that was done
pub no_other : (o : Observation) (status : ℕ) → DoesCommand o status → status ≢ 0 → status ≢ 10 → ⊥
no_other o status d zero ten = elim (success d.asked d.done.writes.contents status d.done.writes.ends) [ inl e ↦ zero e | inr e ↦ ten e ]

-- what is kept without a condition is kept with one
pub kept_first : (r : Result ℕ Refusal) (Q A : Type 0) → IfErr r (λ e. e ≢ NotWritten → A) → IfErr r (λ e. e ≢ NotWritten → (e ≡ Memory → Q) → A)
kept_first (Ok status) Q A h = tt
kept_first (Err refusal) Q A h = λ other first. h other

-- and so is what is kept but for want of memory, by a command that forms its text while it writes
pub kept_late : (asked : Asked) (asks : Option Asked) → asks ≡ Some asked → (command_for asked).is_formed_late ≡ true → (r : Result ℕ Refusal) (A : Type 0)
    → IfErr r (λ e. e ≢ NotWritten → e ≢ Memory → A) → IfErr r (λ e. e ≢ NotWritten → (e ≡ Memory → FormsFirst asks) → A)
kept_late asked asks is late (Ok status) A h = tt
kept_late asked asks is late (Err refusal) A h =
    λ other first. h other (λ memory. (let early : (command_for asked).is_formed_late ≡ false = subst FormsFirst is (first memory) in
    let both : ◌≡◌ {A = Bool} true false = sym late ∙ early in cc))

-- ---- the command that is asked for

module _ (o : Observation) (asked : Asked) (asks : o.asked ≡ Some asked) where
  pub does : (r : Result ℕ Refusal) → IfOk r (IsDone o.hands (command_for asked) o.before o.after) → IfOk r (DoesCommand o)
  does (Ok status) h = record { asked = asked; asks = asks; done = h }
  does (Err refusal) h = tt

  pub comes : (r : Result ℕ Refusal) → IfErr r (Fails o.hands (command_for asked) o.before o.after) → IfErr r (ComesOf o)
  comes (Ok status) h = tt
  comes (Err Words) h = absurd h.0
  comes (Err (NotRead kind)) h = record { asked = asked; asks = asks; fails = h }
  comes (Err (TooLong kind)) h = record { asked = asked; asks = asks; fails = h }
  comes (Err (Refused fault)) h = record { asked = asked; asks = asks; fails = h }
  comes (Err (Own own)) h = record { asked = asked; asks = asks; fails = h }
  comes (Err NotWritten) h = record { asked = asked; asks = asks; fails = h }
  comes (Err Memory) h = inl (record { asked = asked; asks = asks; fails = h })

-- ---- a command that reads nothing

module _ (hands : HandsOver) (shelf : ShelfState) (text : List ℕ) (seed : ℕ) (before after : SinkState) where
  pub makes : (r : Result ℕ Refusal) → IfOk r (WritesMade text seed before after) → IfOk r (IsDone hands (making text seed) (surroundings shelf before) (surroundings shelf after))
  makes (Ok status) h = done_making hands shelf text seed before after status h
  makes (Err refusal) h = tt

  pub makes_not : (r : Result ℕ Refusal) → IfErr r (MakingFails text seed before after) → IfErr r (Fails hands (making text seed) (surroundings shelf before) (surroundings shelf after))
  makes_not (Ok status) h = tt
  makes_not (Err refusal) h = fails_making hands shelf text seed before after refusal h
