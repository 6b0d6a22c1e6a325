-- What the steps of `roster` answer: the days that they got from the files, or why not.
use Rattle.std.specs.Prelude.{◌≡◌, ℕ, ◌<◌, List, [], ◌∷◌, length, All, IsPermutation}
use Rattle.sg_model.specs.Commitments.{AreLegal}
use Rattle.sg_model.specs.Games.{Game}
use Rattle.sg_commit.specs.Committed.{Committed}
use Rattle.sg_roster.specs.Days.{days_of}
use Rattle.sg_shelf.specs.Files.{HandsOver}
use Rattle.sg_shelf.specs.States.{ShelfState}
use Rattle.sg_tickets.specs.Expansion.{IsLongTotal, places_of}
use Rattle.sg_tickets.specs.ExpansionLaws.{CoverAsTickets}
use Rattle.sg_tree.specs.declared.report.Report.{Report}
use Rattle.sg_cli.specs.Inputs.{game, report}
use Rattle.sg_cli.specs.Progress.{HasRead}
use Rattle.sg_cli.specs.Rostering.{IsRostered, rostering_plan}
use Rattle.sg_cli.specs.declared.refusal.CommandRefusal.TheVariants.{RosterTooLong}
use Rattle.sg_cli.specs.declared.refusal.Refusal.{Refusal}
use Rattle.sg_cli.specs.declared.refusal.Refusal.TheVariants.{Own, Memory}

-- these are the game, the report's tickets, no more than a million, and the days that have them in the order of the seed
pub record HasOrder (judged_game : Game) (r : Report) (seed : ℕ) (g : Game) (k : Committed) (days : List ℕ) : Type 0 where
  pub same : g ≡ judged_game
  pub tickets : k.tickets ≡ r.tickets.tickets
  pub few : ¬ (IsLongTotal r.tickets.total)
  pub ordered : days ≡ days_of k.tickets seed
  pub legal : AreLegal g k.tickets
  pub known : All (λ i. i < length k.tickets) days
  pub permutation : IsPermutation (places_of k.tickets) days
  pub covers : CoverAsTickets g k.tickets days

-- there are no days of an accepted report: its tickets are too many, or memory is wanted
abbrev pub OrderFails : Report → Refusal → Type 0
OrderFails r (Own (RosterTooLong total)) = (r.tickets.total ≡ total) × IsLongTotal total
OrderFails r Memory = Unit {0}
OrderFails r _ = ⊥

-- the files hold this game and a report that is rostered, whose tickets these are in the order of the seed
pub record HasRoster (hands : HandsOver) (name named : List ℕ) (seed : ℕ) (before after : ShelfState) (g : Game) (k : Committed) (days : List ℕ) : Type 0 where
  pub of : Report
  pub read : HasRead hands before after (rostering_plan name named).inputs (game g ∷ report of ∷ [])
  pub first : IsRostered (game g ∷ [])
  pub whole : IsRostered (game g ∷ report of ∷ [])
  pub order : HasOrder g of seed g k days
