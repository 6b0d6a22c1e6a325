-- What a shelf and a sink show of themselves: a clause names one state before and one after.
use Rattle.std.specs.Prelude.{ℕ, List, Option}
use Rattle.sg_shelf.specs.Files.{Files}
use Rattle.sg_shelf.specs.Logs.{Log}

-- of a shelf: its files where it tells them, the reads that it answered, and the faults that it counted
pub record ShelfState : Type 0 where
  pub files : Option Files
  pub log : Log
  pub faults : ℕ

-- of a sink: the bytes that it took where it tells them, how many puts it was given, and the faults that it counted
pub record SinkState : Type 0 where
  pub bytes : Option (List ℕ)
  pub puts : ℕ
  pub faults : ℕ

-- of a shelf over the files of std, which tells no file
pub record FileShelfState : Type 0 where
  pub log : Log
  pub faults : ℕ
