-- What a run of a command does to its surroundings: that it was done, or what each refusal comes of.
use Rattle.std.specs.Prelude.{◌≡◌, ◌⊎◌, ℕ, true, List, [], ◌∷◌, ◌++◌, Option, Some, None, Err}
use Rattle.sg_shelf.specs.Faults.{HasRisen, HasNotRisen}
use Rattle.sg_shelf.specs.Files.{Files, HandsOver, IsLong, IsMissing}
use Rattle.sg_shelf.specs.States.{ShelfState, SinkState}
use Rattle.sg_shelf.specs.Taken.{Takes, TakesFront}
use Rattle.sg_shelf.specs.declared.log.Outcome.TheVariants.{Given, TooLong, Failed}
use Rattle.sg_cli.specs.Inputs.{Content, Input, IsHandedAs, input_limit}
use Rattle.sg_cli.specs.Commands.{Command, Plan, TakesBefore}
use Rattle.sg_cli.specs.Progress.{EndsAt, HasRead, ReadsFront, reads_of}
use Rattle.sg_cli.specs.declared.input.InputFault.{InputFault}
use Rattle.sg_cli.specs.declared.input.InputKind.{InputKind}
use Rattle.sg_cli.specs.declared.refusal.CommandRefusal.{CommandRefusal}
use Rattle.sg_cli.specs.declared.refusal.Refusal.{Refusal}
use Rattle.sg_cli.specs.declared.refusal.Refusal.TheVariants as refusals

-- the shelf and the output, at one moment
pub record Surroundings : Type 0 where
  pub shelf : ShelfState
  pub out : SinkState

abbrev pub surroundings : ShelfState → SinkState → Surroundings
surroundings shelf out = record { shelf = shelf; out = out }

-- ---- refusals before anything is written, by what the shelf shows

-- a file of this kind was not read: it was asked for, and the count of faults rose, or the files are told and none has its name
pub record IsNotRead (hands : HandsOver) (plan : Plan) (before after : ShelfState) (kind : InputKind) : Type 0 where
  pub input : Input
  pub is_kind : input.kind ≡ kind
  pub ends : EndsAt hands plan before after input Failed
  pub cause : HasRisen ends.here.faults after.faults ⊎ IsMissing before.files input.name

-- where the files are told, the one of this name has more bytes than the limit, and no fault was counted
abbrev pub IsLongWhereTold : Option Files → List ℕ → ℕ → ShelfState → ShelfState → Type 0
IsLongWhereTold None name limit here after = Unit {0}
IsLongWhereTold (Some files) name limit here after = IsLong (Some files) name limit × HasNotRisen here.faults after.faults

-- a file of this kind is too long: the shelf said so, and it is where the files are told
pub record IsTooLong (hands : HandsOver) (plan : Plan) (before after : ShelfState) (kind : InputKind) : Type 0 where
  pub input : Input
  pub is_kind : input.kind ≡ kind
  pub ends : EndsAt hands plan before after input TooLong
  pub cause : IsLongWhereTold before.files input.name (input_limit input.kind) ends.here after

-- the bytes of a file hold nothing of its kind, for this first fault
pub record IsFaulty (hands : HandsOver) (plan : Plan) (before after : ShelfState) (fault : InputFault) : Type 0 where
  pub input : Input
  pub ends : EndsAt hands plan before after input Given
  pub says : IsHandedAs hands before.files input (Err fault)

-- the command refuses what it read so far, for a reason of its own
pub record IsRefused (hands : HandsOver) (plan : Plan) (before after : ShelfState) (own : CommandRefusal) : Type 0 where
  pub front : List Input
  pub rest : List Input
  pub in_order : plan.inputs ≡ front ++ rest
  pub contents : List Content
  pub read : HasRead hands before after front contents
  pub took : TakesBefore plan [] contents
  pub refuses : plan.refuses contents own

-- what a refusal comes of before anything is written; want of memory may come at any time
abbrev pub Stops : HandsOver → Plan → ShelfState → ShelfState → Refusal → Type 0
Stops hands plan before after refusals.Words = ⊥
Stops hands plan before after (refusals.NotRead kind) = IsNotRead hands plan before after kind
Stops hands plan before after (refusals.TooLong kind) = IsTooLong hands plan before after kind
Stops hands plan before after (refusals.Refused fault) = IsFaulty hands plan before after fault
Stops hands plan before after (refusals.Own own) = IsRefused hands plan before after own
Stops hands plan before after refusals.NotWritten = ⊥
Stops hands plan before after refusals.Memory = ReadsFront (reads_of plan.inputs) before after

-- ---- what is written

-- all files were read, the command takes what they hold, and writes this text with this status
pub record Writes (hands : HandsOver) (command : Command) (before after : ShelfState) (status : ℕ) (text : List ℕ) : Type 0 where
  pub contents : List Content
  pub read : HasRead hands before after command.plan.inputs contents
  pub took : TakesBefore command.plan [] contents
  pub takes : command.plan.takes contents
  pub ends : command.ends contents status
  pub writes : command.writes contents status text

-- the command was done, with this status: the output took its text, and nothing else
pub record IsDone (hands : HandsOver) (command : Command) (before after : Surroundings) (status : ℕ) : Type 0 where
  pub text : List ℕ
  pub writes : Writes hands command before.shelf after.shelf status text
  pub taken : Takes before.out.bytes after.out.bytes text

-- a front of its text was taken
pub record IsCutShort (hands : HandsOver) (command : Command) (before after : Surroundings) : Type 0 where
  pub status : ℕ
  pub text : List ℕ
  pub writes : Writes hands command before.shelf after.shelf status text
  pub taken : TakesFront before.out.bytes after.out.bytes text

-- what a refusal of a command comes of; with all but a failing output, and want of memory while the text is formed, the
-- output is as it was
abbrev pub Fails : HandsOver → Command → Surroundings → Surroundings → Refusal → Type 0
Fails hands command before after refusals.NotWritten = HasRisen before.out.faults after.out.faults × IsCutShort hands command before after
Fails hands command before after refusals.Memory =
    (Stops hands command.plan before.shelf after.shelf refusals.Memory × (after.out ≡ before.out))
    ⊎ ((command.is_formed_late ≡ true) × IsCutShort hands command before after)
Fails hands command before after refusal = Stops hands command.plan before.shelf after.shelf refusal × (after.out ≡ before.out)
