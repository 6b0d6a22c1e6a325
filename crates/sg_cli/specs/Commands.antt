-- What a command is: said once for each command, in a module of its own.
use Rattle.std.specs.Prelude.{◌≡◌, ◌⊎◌, ℕ, Bool, List, [], ◌∷◌, ◌++◌}
use Rattle.sg_cli.specs.Inputs.{Content, Input}
use Rattle.sg_cli.specs.declared.refusal.CommandRefusal.{CommandRefusal}

-- the statuses of success: 10 where the bounds of what was found don't meet
abbrev pub IsSuccess : ℕ → Type 0
IsSuccess status = (status ≡ 0) ⊎ (status ≡ 10)

-- what a command reads
pub record Plan : Type 1 where
  -- the files, in order
  pub inputs : List Input
  -- it takes what these first files hold, and goes on: to the next file, or to writing
  pub takes : List Content → Type 0
  -- or it refuses them so, for a reason of its own
  pub refuses : List Content → CommandRefusal → Type 0

-- and what it does with what all files hold
pub record Command : Type 1 where
  pub plan : Plan
  -- it may end with this status: with one alone, where the files decide it
  pub ends : List Content → ℕ → Type 0
  -- and with that status it writes this text
  pub writes : List Content → ℕ → List ℕ → Type 0
  -- the text is formed while it is written, so that memory may be wanted after the first write
  pub is_formed_late : Bool

-- the command took what each of these contents, read after those, was read behind
abbrev pub TakesBefore : Plan → List Content → List Content → Type 0
TakesBefore plan done [] = Unit {0}
TakesBefore plan done (content ∷ contents) = plan.takes done × TakesBefore plan (done ++ content ∷ []) contents
