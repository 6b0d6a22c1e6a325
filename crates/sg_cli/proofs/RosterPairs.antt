-- What `solve` writes gets its roster.
use Rattle.std.proofs.Common.{ℕ, List, [], ◌∷◌, refl, sym, subst, inl, inr}
use Rattle.sg_model.specs.Limits.{IsGame}
use Rattle.sg_format.proofs.Accepted.{accepted}
use Rattle.sg_shelf.specs.Files.{Files, any_bytes}
use Rattle.sg_tickets.specs.Expansion.{IsLongTotal}
use Rattle.sg_cli.specs.Inputs.{game, game_file, report, report_file}
use Rattle.sg_cli.specs.ExpectedStatus.{ByRest, ExpectedStatus}
use Rattle.sg_cli.specs.Laws.{IsWritten}
use Rattle.sg_cli.specs.RosterLaws.{SolvedIsRostered}
use Rattle.sg_cli.specs.Rostering.{rostering}
use Rattle.sg_cli.specs.declared.refusal.CommandRefusal.TheVariants.{RosterTooLong}
use Rattle.sg_cli.proofs.Completes.{by_said}
use Rattle.sg_cli.proofs.Pairs.{judged, says_game, says_report}
use Rattle.sg_cli.proofs.RosterStops.{starts, takes_one}

module _ (files : Files) (name named : List ℕ) (seed : ℕ) (w : IsWritten files name named) where
  is_game : IsGame w.solved
  is_game = accepted w.bytes w.solved w.says

  -- what is due once both files are read
  both_read : (status : ℕ) → ByRest (rostering name named seed) files (game w.solved ∷ report w.answer.report ∷ []) [] status → ExpectedStatus (rostering name named seed) files status
  both_read status due =
      by_said any_bytes (rostering name named seed) files status [] (game_file name) (report_file named ∷ []) (game w.solved) starts (says_game files name named w)
      (by_said any_bytes (rostering name named seed) files status (game w.solved ∷ []) (report_file named) [] (report w.answer.report) (takes_one (game w.solved) tt)
      (says_report files name named w is_game) due)

  few_written : ¬ (IsLongTotal w.answer.report.tickets.total) → ExpectedStatus (rostering name named seed) files 0
  few_written few =
      both_read 0 (inr (record { accepted = judged w.solved is_game w.budget w.order w.answer.report w.answer.answer; few = λ total long. few (subst IsLongTotal (sym long.0) long.1) }, refl))

  long_written : IsLongTotal w.answer.report.tickets.total → ExpectedStatus (rostering name named seed) files 8
  long_written long =
      both_read 8 (inl (RosterTooLong w.answer.report.tickets.total, record { accepted = judged w.solved is_game w.budget w.order w.answer.report w.answer.answer; long = (refl, long) }, refl))

pub solved_is_rostered : SolvedIsRostered
solved_is_rostered files name named seed w = record { few = few_written files name named seed w; long = long_written files name named seed w }
