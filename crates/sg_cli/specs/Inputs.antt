-- The files that commands read: their kinds, their limits, and what their bytes hold.
use Rattle.std.specs.Prelude.{◌≡◌, ℕ, List, [], ◌∷◌, Option, Result, Ok, Err}
use Rattle.sg_model.specs.Games.{Game}
use Rattle.sg_format.specs.GameFiles.{game_of_bytes}
use Rattle.sg_tree.specs.declared.report.Report.{Report}
use Rattle.sg_cert.specs.Reading.{report_of}
use Rattle.sg_shelf.specs.Files.{Files, HandsOver, Reads}
use Rattle.sg_cli.specs.declared.input.TheConstants.{GAME_LIMIT, REPORT_LIMIT}
use Rattle.sg_cli.specs.declared.input.InputKind.{InputKind}
use Rattle.sg_cli.specs.declared.input.InputKind.TheVariants as kinds
use Rattle.sg_cli.specs.declared.input.InputFault.{InputFault}
use Rattle.sg_cli.specs.declared.input.InputFault.TheVariants as faults

-- a file to read
pub record Input : Type 0 where
  pub kind : InputKind
  pub name : List ℕ

abbrev pub game_file : List ℕ → Input
game_file name = record { kind = kinds.Game; name = name }

abbrev pub report_file : List ℕ → Input
report_file name = record { kind = kinds.Report; name = name }

-- the most bytes that a file may have: 4 MiB for a game, 512 MiB for a report
abbrev pub input_limit : InputKind → ℕ
input_limit kinds.Game = GAME_LIMIT
input_limit kinds.Report = REPORT_LIMIT

-- what a file holds
pub data Content : Type 0 where
  game : (g : Game) → Content
  report : (r : Report) → Content

-- a value as a content, or why there is none
abbrev pub held_as : {A F : Type 0} → (A → Content) → (F → InputFault) → Result A F → Result Content InputFault
held_as content fault (Ok x) = Ok (content x)
held_as content fault (Err e) = Err (fault e)

-- what the bytes of a file of this kind hold, or the first fault for which they hold nothing
abbrev pub content_of : InputKind → List ℕ → Result Content InputFault
content_of kinds.Game bytes = held_as game faults.Game (game_of_bytes bytes)
content_of kinds.Report bytes = held_as report faults.Report (report_of bytes)

-- a read of this file handed over bytes, all of it where the files are told and within its limit, and the bytes say this
pub record IsHandedAs (hands : HandsOver) (files : Option Files) (input : Input) (says : Result Content InputFault) : Type 0 where
  pub bytes : List ℕ
  pub handed : hands input.name (input_limit input.kind) bytes
  pub reads : Reads files input.name (input_limit input.kind) bytes
  pub holds : content_of input.kind bytes ≡ says

-- these files hold these contents, one each
abbrev pub Hold : HandsOver → Option Files → List Input → List Content → Type 0
Hold hands files [] [] = Unit {0}
Hold hands files [] (content ∷ contents) = ⊥
Hold hands files (input ∷ inputs) [] = ⊥
Hold hands files (input ∷ inputs) (content ∷ contents) = IsHandedAs hands files input (Ok content) × Hold hands files inputs contents
