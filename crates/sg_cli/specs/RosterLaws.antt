-- A law about `solve` and `roster` together.
use Rattle.std.specs.Prelude.{ℕ, ℤ, List}
use Rattle.sg_shelf.specs.Files.{Files}
use Rattle.sg_tickets.specs.Expansion.{IsLongTotal}
use Rattle.sg_cli.specs.ExpectedStatus.{ExpectedStatus}
use Rattle.sg_cli.specs.Laws.{IsWritten}
use Rattle.sg_cli.specs.Rostering.{rostering}

-- success is due for a roster of what `solve` writes, where its tickets are no more than a million, and else 8
pub record IsDueARoster (files : Files) (game report : List ℕ) (seed : ℕ) (total : ℤ) : Type 0 where
  pub few : ¬ (IsLongTotal total) → ExpectedStatus (rostering game report seed) files 0
  pub long : IsLongTotal total → ExpectedStatus (rostering game report seed) files 8

-- so it is by each seed, where it stands in a file
abbrev pub SolvedIsRostered : Type 0
SolvedIsRostered = (files : Files) (game report : List ℕ) (seed : ℕ) (w : IsWritten files game report) → IsDueARoster files game report seed w.answer.report.tickets.total
