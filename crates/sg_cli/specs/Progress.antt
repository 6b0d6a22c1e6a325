-- How far a run got with the files of its command, as the shelf's log tells it.
use Rattle.std.specs.Prelude.{◌≡◌, ℕ, ◌≤◌, List, [], ◌∷◌, ◌++◌, map, Option, Some, None}
use Rattle.sg_shelf.specs.Files.{HandsOver}
use Rattle.sg_shelf.specs.Logs.{Entry, Log, logged_read}
use Rattle.sg_shelf.specs.States.{ShelfState}
use Rattle.sg_shelf.specs.declared.log.Outcome.{Outcome}
use Rattle.sg_shelf.specs.declared.log.Outcome.TheVariants.{Given}
use Rattle.sg_cli.specs.Inputs.{Content, Hold, Input, input_limit}
use Rattle.sg_cli.specs.Commands.{Plan, TakesBefore}

-- a read of a file up to its limit, answered so
abbrev pub read_of : Outcome → Input → Entry
read_of outcome input = logged_read input.name (input_limit input.kind) outcome

-- the reads of these files, each of which gave the bytes
abbrev pub reads_of : List Input → Log
reads_of inputs = map (read_of Given) inputs

-- These files were read, in order, and no other. Each gave its bytes, and these hold the contents.
pub record HasRead (hands : HandsOver) (before after : ShelfState) (inputs : List Input) (contents : List Content) : Type 0 where
  pub log : after.log ≡ before.log ++ reads_of inputs
  pub hold : Hold hands before.files inputs contents
  pub files : after.files ≡ before.files
  pub count : before.faults ≤ after.faults
  pub none : inputs ≡ [] → after ≡ before

-- The files before this one were read, the command takes what they hold, and from here on this one was asked for.
pub record ReachesInput (hands : HandsOver) (plan : Plan) (before here : ShelfState) (input : Input) : Type 0 where
  pub front : List Input
  pub rest : List Input
  pub in_order : plan.inputs ≡ front ++ input ∷ rest
  pub contents : List Content
  pub read : HasRead hands before here front contents
  pub took : TakesBefore plan [] contents
  pub takes : plan.takes contents

-- It was asked for, answered so, and was the last.
pub record EndsAt (hands : HandsOver) (plan : Plan) (before after : ShelfState) (input : Input) (outcome : Outcome) : Type 0 where
  pub here : ShelfState
  pub reaches : ReachesInput hands plan before here input
  pub answered : after.log ≡ here.log ++ read_of outcome input ∷ []

-- Some of these reads were answered, from the first one on, and no other.
pub record ReadsFront (due : Log) (before after : ShelfState) : Type 0 where
  pub read : Log
  pub unread : Log
  pub in_order : read ++ unread ≡ due
  pub reads : after.log ≡ before.log ++ read
