-- The status that is due for a command, where the files are told: by the files one after the other, whatever a run answers.
use Rattle.std.specs.Prelude.{◌≡◌, ◌⊎◌, ℕ, List, [], ◌∷◌, ◌++◌, length, MatchBool, nat_lt, Option, Some, None, Result, Ok, Err}
use Rattle.sg_shelf.specs.Files.{Files, bytes_under}
use Rattle.sg_cli.specs.Inputs.{Content, Input, content_of, input_limit}
use Rattle.sg_cli.specs.Commands.{Command, Plan}
use Rattle.sg_cli.specs.Refusals.{own_status, fault_status}
use Rattle.sg_cli.specs.declared.input.InputFault.{InputFault}
use Rattle.sg_cli.specs.declared.refusal.CommandRefusal.{CommandRefusal}

-- by what bytes hold: the status of their fault, or by the content
abbrev pub ByContent : (Content → ℕ → Type 0) → Result Content InputFault → ℕ → Type 0
ByContent by_content (Err fault) status = status ≡ fault_status fault
ByContent by_content (Ok content) status = by_content content status

-- by a file: 4 where there is none of the name, 5 where it has more bytes than the limit, else by its bytes
abbrev pub ByFile : ℕ → (List ℕ → ℕ → Type 0) → Option (List ℕ) → ℕ → Type 0
ByFile limit by_bytes None status = status ≡ 4
ByFile limit by_bytes (Some bytes) status = MatchBool (nat_lt limit (length bytes)) (status ≡ 5) (by_bytes bytes status)

-- a refusal by the command, for what was read so far, or what comes next where the command takes that
abbrev pub ByPlan : Plan → List Content → (ℕ → Type 0) → ℕ → Type 0
ByPlan plan done next status = ((own : CommandRefusal) × plan.refuses done own × (status ≡ own_status own)) ⊎ (plan.takes done × next status)

-- with this read, and these files still to read
abbrev pub ByRest : Command → Files → List Content → List Input → ℕ → Type 0
ByRest command files done [] status = ByPlan command.plan done (command.ends done) status
ByRest command files done (input ∷ rest) status =
    ByPlan command.plan done
    (ByFile (input_limit input.kind) (λ bytes. ByContent (λ content. ByRest command files (done ++ content ∷ []) rest) (content_of input.kind bytes)) (bytes_under files input.name)) status

-- the status that is due
abbrev pub ExpectedStatus : Command → Files → ℕ → Type 0
ExpectedStatus command files status = ByRest command files [] command.plan.inputs status
