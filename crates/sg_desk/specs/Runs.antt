-- Runs of nodes over listed plays: what a lane holds, what its steps make of it, and what it came to.
use Rattle.std.specs.Prelude.{◌≡◌, ◌≢◌, ℕ, ◌<◌, Bool, true, false, Option, Some, None}
use Rattle.sg_model.specs.Games.{Game}
use Rattle.sg_tree.specs.declared.fix.Fix.{Fix}
use Rattle.sg_bounds.specs.Regions.{IsNode}
use Rattle.sg_lp.specs.Listing.{listing_answer}
use Rattle.sg_lp.specs.Programs.{Program}
use Rattle.sg_lp.specs.States.{Tableau}
use Rattle.sg_simplex.specs.Turns.{Pricer, Turns}
use Rattle.sg_simplex.specs.declared.turn.Turn.{Turn}
use Rattle.sg_simplex.specs.declared.turn.Turn.TheVariants as turn
use Rattle.sg_programs.specs.Nodes.{NodeOf}
use Rattle.sg_programs.specs.NodeTests.{ClosesNode, EndsNode, Method, StopsNode, TurnAnswers, listed_plays}
use Rattle.sg_programs.specs.Plays.{plays_program}
use Rattle.sg_work.specs.Works.{Load}
use Rattle.sg_work.specs.declared.work.Ended.{Ended}
use Rattle.sg_work.specs.declared.work.Ended.TheVariants.{Worked, Stuck}
use Rattle.sg_work.specs.declared.work.Step.{Step}
use Rattle.sg_work.specs.declared.work.Step.TheVariants as step
use Rattle.sg_desk.specs.declared.run.Run.{Run}

-- the program of a listed family, and what its pricing answers
abbrev pub listed_program : NodeOf → Program
listed_program f = plays_program f.game f.fix

abbrev pub listed_pricer : NodeOf → Pricer
listed_pricer f = λ y rho budget. listing_answer (listed_program f) y rho budget 0 (listed_program f).columns

-- a step of a run: its program moves; or a turn has another answer, which is kept, and the program stays as it was
abbrev pub StepsBy : Run → Run → Step → Type 0
StepsBy before after step.Moved = Turns listed_program listed_pricer before.node after.node turn.Moved × (after ≡ record before { node = after.node })
StepsBy before after step.Ended =
    (answer : Turn) × ((answer ≢ turn.Moved) × Turns listed_program listed_pricer before.node after.node answer × (after ≡ record before { node = after.node; answer = Some answer }))

-- whether a run has ended
abbrev pub has_ended : Option Turn → Bool
has_ended None = false
has_ended (Some answer) = true

-- a run as a load of a lane
abbrev pub load_of : Option Run → Option Load
load_of None = None
load_of (Some r) = Some (record { node = r.fix; moves = r.node.steps; ended = has_ended r.answer })

-- a run that has ended did so by the answer of a turn there, another than that it moved
abbrev pub EndedBy : Game → Method → Fix → ℕ → Tableau → Option Turn → Type 0
EndedBy g m fix steps t None = Unit {0}
EndedBy g m fix steps t (Some answer) = (answer ≢ turn.Moved) × TurnAnswers g m fix steps t answer

-- a run of a node of the game, within these budgets and in rows of this width; at no state before would it have ended
pub record IsRunOf (g : Game) (pivots looks width : ℕ) (r : Run) : Type 0 where
  pub node : IsNode g r.fix
  pub family : r.node.family ≡ record { game = g; fix = r.fix }
  pub pivots_are : r.node.pivots ≡ pivots
  pub looks_are : r.node.looks ≡ looks
  pub width_is : r.node.width ≡ width
  pub first : (j : ℕ) → j < r.node.steps → ¬ (EndsNode g (listed_plays g pivots looks) r.fix j)
  pub ended : EndedBy g (listed_plays g pivots looks) r.fix r.node.steps r.node.tableau r.answer

-- what is told of a node: a fact and a point that close it, or a cause that stops it
abbrev pub IsOutcome : Game → Method → Fix → Ended → Type 0
IsOutcome g m fix (Worked fact point) = ClosesNode g m fix fact point
IsOutcome g m fix (Stuck why) = StopsNode g m fix why
