-- A session at its start.
use Rattle.std.proofs.Common.{◌≡◌, ℕ, zero, suc, List, [], ◌∷◌, map, replicate, sym, ap, subst, refl, ◌∙◌, Option, None, All}
use Rattle.std.proofs.lemmas.List.Elements.{All-nil}
use Rattle.sg_model.specs.Games.{Game}
use Rattle.sg_commit.specs.Committed.{Committed}
use Rattle.sg_tree.specs.declared.fact.Fact.{Fact}
use Rattle.sg_tree.specs.declared.fix.Fix.{Fix}
use Rattle.sg_tree.specs.declared.report.Cause.{Cause}
use Rattle.sg_tree.specs.declared.worked.Worked.{Worked}
use Rattle.sg_search.specs.declared.held.Held.{Held}
use Rattle.sg_search.specs.declared.held.Stuck.{Stuck}
use Rattle.sg_search.specs.Searches.{Search, Task, first_search}
use Rattle.sg_programs.specs.NodeTests.{ClosesNode, StopsNode, listed_plays}
use Rattle.sg_work.specs.Works.{Load, held_by}
use Rattle.sg_desk.specs.Desks.{DeskView}
use Rattle.sg_lanes.specs.Machines.{IsTogether, Machine, task_on}

free : (n : ℕ) → map held_by (replicate {A = Option Load} n None) ≡ replicate {A = Option Held} n None
free zero = refl
free (suc n) = ap (λ (hs : List (Option Held)). None ∷ hs) (free n)

module _ (g : Game) (lanes nodes pivots : ℕ) where
  abbrev desk : DeskView
  desk = record { game = g; loads = replicate lanes None; pivots = pivots; looks = 100000 }

  abbrev start : Machine
  start = record { task = task_on g lanes nodes; search = first_search (task_on g lanes nodes) }

  -- a machine and its desk hold the same
  abbrev pub Joined : DeskView → Machine → Type 0
  Joined d m = IsTogether d.game d.loads (ClosesNode d.game (listed_plays d.game d.pivots d.looks)) (StopsNode d.game (listed_plays d.game d.pivots d.looks)) m

  at-start : Joined desk start
  at-start = record {
    same_game = refl;
    same_lanes = free lanes;
    all_closed = All-nil (λ (w : Worked). ClosesNode g (listed_plays g pivots 100000) w.fix w.fact w.point);
    all_stopped = All-nil (λ (x : Stuck). StopsNode g (listed_plays g pivots 100000) x.node x.cause);
  }

  pub joined : (d : DeskView) (m : Machine) → d ≡ desk → m.task ≡ task_on g lanes nodes → m.search ≡ first_search (task_on g lanes nodes) → Joined d m
  joined d m at task search =
      subst (λ (x : Search). Joined d (record { task = m.task; search = x })) (sym search)
      (subst (λ (x : Task). Joined d (record { task = x; search = first_search (task_on g lanes nodes) })) (sym task)
      (subst (λ (x : DeskView). Joined x start) (sym at) at-start))
