-- What is told of a run that is done.
use Rattle.std.specs.Prelude.{◌≡◌, Option, Some, None, pos}
use Rattle.sg_model.specs.Games.{Game}
use Rattle.sg_commit.specs.Committed.{Committed}
use Rattle.sg_tree.specs.declared.fact.Fact.{Fact}
use Rattle.sg_tree.specs.declared.report.Cause.TheVariants.{Wide as TooWide}
use Rattle.sg_bounds.specs.Regions.{IsNode}
use Rattle.sg_lp.specs.Moves.{IsFinal, NamedStep}
use Rattle.sg_search.specs.Results.{IsPointOf}
use Rattle.sg_programs.specs.Plays.{plays_program}
use Rattle.sg_programs.specs.Shown.{EndShows, IsPointAt, fact_at}
use Rattle.sg_work.specs.declared.work.Ended.{Ended}
use Rattle.sg_work.specs.declared.work.Ended.TheVariants.{Worked, Stuck}
use Rattle.sg_desk.specs.declared.committing.Misfit.{Misfit}
use Rattle.sg_desk.specs.declared.run.Run.{Run}

-- a value that doesn't fit, with its operation
abbrev pub shown_of : Option Misfit → Option NamedStep
shown_of None = None
shown_of (Some m) = Some (record { name = m.name; step = m.wide })

-- a run of a node of a game without a scale, at a final state
pub record IsDoneRun (g : Game) (r : Run) : Type 0 where
  pub unscaled : g.scale ≡ pos 0
  pub node : IsNode g r.fix
  pub family : r.node.family ≡ record { game = g; fix = r.fix }
  pub final : IsFinal (plays_program g r.fix) r.node.tableau

-- the cause that a run shows this operation at its state
abbrev pub IsStuckAt : Run → NamedStep → Ended → Type 0
IsStuckAt r s e = e ≡ Stuck (TooWide s.name s.step r.node.steps r.fix)

-- once a fact and a point are formed: they are told where nothing else is shown, and else what is shown
abbrev pub TellsAt : Run → Fact → Committed → Option NamedStep → Ended → Type 0
TellsAt r fact k None e = e ≡ Worked fact (Some k)
TellsAt r fact k (Some s) e = IsStuckAt r s e

-- the fact and the point of the state, where its end shows no value that doesn't fit, and else the first that it shows
abbrev pub DoneTells : Game → Run → Ended → Type 0
DoneTells g r (Worked fact point) =
    EndShows g r.fix r.node.tableau None × (fact ≡ fact_at g r.fix r.node.tableau) × IsPointAt g r.fix r.node.tableau point × IsPointOf g r.fix fact point
DoneTells g r (Stuck why) = (s : NamedStep) × (EndShows g r.fix r.node.tableau (Some s) × IsStuckAt r s (Stuck why))
