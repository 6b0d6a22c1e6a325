-- The command `roster GAME REPORT [--seed S]`.
use Rattle.std.specs.Prelude.{◌≡◌, ℕ, ℤ, true, List, [], ◌∷◌, IsPermutation}
use Rattle.sg_model.specs.declared.ticket.Ticket.{Ticket}
use Rattle.sg_model.specs.Games.{Game}
use Rattle.sg_roster.specs.Days.{days_of}
use Rattle.sg_roster.specs.Rows.{roster_text}
use Rattle.sg_tickets.specs.Expansion.{IsLongTotal, places_of}
use Rattle.sg_tickets.specs.ExpansionLaws.{CoverAsTickets}
use Rattle.sg_cli.specs.Inputs.{Content, game, game_file, report, report_file}
use Rattle.sg_cli.specs.Commands.{Command, Plan}
use Rattle.sg_cli.specs.Judging.{refuses_wrong, takes_accepted}
use Rattle.sg_cli.specs.declared.refusal.CommandRefusal.{CommandRefusal}
use Rattle.sg_cli.specs.declared.refusal.CommandRefusal.TheVariants.{NotYet, ReportWrong, RosterTooLong, NoShape}

-- a game and a report were read, whose tickets are more than a million: so many
abbrev pub HasLongTotal : List Content → ℤ → Type 0
HasLongTotal (game g ∷ report r ∷ []) total = (r.tickets.total ≡ total) × IsLongTotal total
HasLongTotal _ total = ⊥

-- a game is taken as `check` takes it, and a report where `check` accepts it and its tickets are no more than a million
pub record IsRostered (contents : List Content) : Type 0 where
  pub accepted : takes_accepted contents
  pub few : (total : ℤ) → ¬ (HasLongTotal contents total)

-- a report that `check` accepts, and whose tickets are more
pub record IsTooLongToRoster (contents : List Content) (total : ℤ) : Type 0 where
  pub accepted : takes_accepted contents
  pub long : HasLongTotal contents total

-- what `check` refuses is refused as it refuses it, and then a total above a million is
abbrev pub refuses_unrostered : List Content → CommandRefusal → Type 0
refuses_unrostered contents NotYet = refuses_wrong contents NotYet
refuses_unrostered contents (ReportWrong line reason) = refuses_wrong contents (ReportWrong line reason)
refuses_unrostered contents (RosterTooLong total) = IsTooLongToRoster contents total
refuses_unrostered contents NoShape = refuses_wrong contents NoShape

-- with success, whether the report's bounds meet or not
abbrev pub ends_rostered : List Content → ℕ → Type 0
ends_rostered (game g ∷ report r ∷ []) status = status ≡ 0
ends_rostered _ status = ⊥

-- The text has one day for each of the tickets, in the order of the seed. The days are the tickets' places in another order; they
-- are as many as the tickets, each is a legal play, and each target is covered on as many days as tickets cover it.
pub record IsRoster (g : Game) (k : List Ticket) (seed : ℕ) (text : List ℕ) : Type 0 where
  pub written : text ≡ roster_text g k (days_of k seed)
  pub permutation : IsPermutation (places_of k) (days_of k seed)
  pub covers : CoverAsTickets g k (days_of k seed)

-- the roster of the report's tickets is written
abbrev pub writes_roster : ℕ → List Content → ℕ → List ℕ → Type 0
writes_roster seed (game g ∷ report r ∷ []) status text = IsRoster g r.tickets.tickets seed text
writes_roster seed _ status text = ⊥

-- the plan
abbrev pub rostering_plan : List ℕ → List ℕ → Plan
rostering_plan name named = record { inputs = game_file name ∷ report_file named ∷ []; takes = IsRostered; refuses = refuses_unrostered }

-- the command; its rows are formed one by one while they are written
abbrev pub rostering : List ℕ → List ℕ → ℕ → Command
rostering name named seed = record { plan = rostering_plan name named; ends = ends_rostered; writes = writes_roster seed; is_formed_late = true }
