-- The program of a node over all legal plays.
-- It asks for the greatest cost of a combination of plays, not below 0, that is at most 1 in row 0 and at most 0 in each other row: there
-- a play has what a type gains by an action other than the fixed one.
use Rattle.std.specs.Prelude.{ℕ, ◌+◌, ◌-◌, List, ◌++◌, map, length, replicate, take}
use Rattle.sg_model.specs.Games.{Game}
use Rattle.sg_tree.specs.declared.fix.Fix.{Fix}
use Rattle.sg_bounds.specs.Facts.{cost}
use Rattle.sg_bounds.specs.PlayRows.{comparisons, play_entry}
use Rattle.sg_lp.specs.declared.column.Column.{Column}
use Rattle.sg_lp.specs.Programs.{Program}
use Rattle.sg_model.specs.PlayLists.{legal_plays}

-- a play as a column: its choices, with zeros behind them
abbrev pub column_of : List ℕ → Column
column_of play = record { len = length play; code = play ++ replicate (32 - length play) 0 }

-- the play of a column
abbrev pub play_of : Column → List ℕ
play_of c = take c.len c.code

-- the program: row 0 and a row for each comparison, a column for each legal play
abbrev pub plays_program : Game → Fix → Program
plays_program g fix = record {
  height = length (comparisons g fix) + 1;
  columns = map column_of (legal_plays g);
  entry = λ c j. play_entry g fix (play_of c) j;
  cost = λ c. cost g fix (play_of c);
}
