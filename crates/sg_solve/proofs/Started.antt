-- A search at its start, and at its end.
use Rattle.std.proofs.Common.{◌≡◌, ◌∙◌, ℕ, zero, suc, ◌≤◌, List, [], ◌∷◌, length, map, replicate, get_or, sym, ap, subst, refl, Option, Some, None, All, Result, Ok, Err}
use Rattle.std.specs.Prelude.{IfOk}
use Rattle.std.proofs.lemmas.List.{length-replicate}
use Rattle.std.proofs.lemmas.List.Elements.{All-nil}
use Rattle.sg_options.specs.declared.budget.Budget.{Budget}
use Rattle.sg_options.specs.declared.order.Order.{Order}
use Rattle.sg_model.specs.Games.{Game}
use Rattle.sg_commit.specs.Committed.{Committed}
use Rattle.sg_tree.specs.declared.fact.Fact.{Fact}
use Rattle.sg_tree.specs.declared.fix.Fix.{Fix}
use Rattle.sg_tree.specs.declared.report.Cause.{Cause}
use Rattle.sg_tree.specs.declared.worked.Worked.{Worked}
use Rattle.sg_search.specs.declared.held.Held.{Held}
use Rattle.sg_search.specs.declared.held.Stuck.{Stuck}
use Rattle.sg_search.specs.Searches.{Search, Task, first_search}
use Rattle.sg_search.specs.Events.{IsEnd}
use Rattle.sg_search.specs.Results.{IsFirst, IsResult}
use Rattle.sg_programs.specs.NodeTests.{ClosesNode, EndsNode, StopsNode}
use Rattle.sg_work.specs.Works.{AreSameTests, Load, held_by, load_at}
use Rattle.sg_desk.specs.Desks.{DeskView}
use Rattle.sg_lanes.specs.Ends.{IsEndOf}
use Rattle.sg_lanes.specs.Machines.{Machine, task_on}
use Rattle.sg_lanes.specs.declared.end.End.{End}
use Rattle.sg_selection.specs.Selections.{SelectionState, first_selection}
use Rattle.sg_solve.specs.Searching.{method_of, moves_made, task_of}
use Rattle.sg_solve.specs.Ending.{IsEndHanded}
use Rattle.sg_solve.specs.UnderWay.{IsUnderWay, desk_method}

same-tests : (e : Fix → ℕ → Type 0) (c : Fix → Fact → Option Committed → Type 0) (s : Fix → Cause → Type 0) → AreSameTests e c s e c s
same-tests e c s = record {
  end_alike = λ node k. ((λ x. x), (λ x. x));
  close_alike = λ node f q. ((λ x. x), (λ x. x));
  stop_alike = λ node q. ((λ x. x), (λ x. x));
}

free-loads : (n : ℕ) → map held_by (replicate n None) ≡ replicate n None
free-loads zero = refl
free-loads (suc n) = ap (λ (hs : List (Option Held)). None ∷ hs) (free-loads n)

none-held : (n k : ℕ) → get_or (replicate {A = Option Load} n None) k None ≡ None
none-held zero k = refl
none-held (suc n) zero = refl
none-held (suc n) (suc k) = none-held n k

none-at : (n lane : ℕ) → load_at (replicate n None) lane ≡ None
none-at n zero = refl
none-at n (suc k) = none-held n k

none-some : (l : Load) → None ≡ Some l → ⊥
none-some l e = cc

module _ (g : Game) (b : Budget) (o : Order) where
  abbrev start : Machine
  start = record { task = task_of g b o; search = first_search (task_of g b o) }

  abbrev desk : DeskView
  desk = record { game = g; loads = replicate o.lanes None; pivots = b.pivots; looks = b.looks }

  at-start : IsUnderWay g b o (first_selection o) start desk
  at-start = record {
    about = refl;
    same_lanes = length-replicate o.lanes None;
    events = [];
    come = record {
      selected = (refl, refl);
      due = tt;
      closed = All-nil (λ (w : Worked). ClosesNode g (method_of g b) w.fix w.fact w.point);
      stopped = All-nil (λ (x : Stuck). StopsNode g (method_of g b) x.node x.cause);
    };
    results = All-nil (IsResult g);
    tests = same-tests (EndsNode g (method_of g b)) (ClosesNode g (method_of g b)) (StopsNode g (method_of g b));
    together = record {
      same_game = refl;
      same_lanes = free-loads o.lanes;
      all_closed = All-nil (λ (w : Worked). ClosesNode g (method_of g b) w.fix w.fact w.point);
      all_stopped = All-nil (λ (x : Stuck). StopsNode g (method_of g b) x.node x.cause);
    };
    moves = λ lane l is. absurd (none-some l (sym (none-at o.lanes lane) ∙ is));
  }

  pub start-way : (nodes : ℕ) (c : SelectionState) (m : Machine) (d : DeskView) → nodes ≡ (task_of g b o).nodes → c ≡ first_selection o
      → m.task ≡ task_on g o.lanes nodes → m.search ≡ first_search (task_on g o.lanes nodes) → d ≡ desk → IsUnderWay g b o c m d
  start-way nodes c m d same first task search at =
      let t : m.task ≡ task_of g b o = task ∙ ap (λ n. task_on g o.lanes n) same in
      let s : m.search ≡ first_search (task_of g b o) = search ∙ ap (λ n. first_search (task_on g o.lanes n)) same in
      let w : IsUnderWay g b o c start d = subst (λ (x : SelectionState). IsUnderWay g b o x start d) (sym first) (subst (IsUnderWay g b o (first_selection o) start) (sym at) at-start) in
      subst (λ (x : Search). IsUnderWay g b o c (record { task = m.task; search = x }) d) (sym s)
      (subst (λ (x : Task). IsUnderWay g b o c (record { task = x; search = first_search (task_of g b o) }) d) (sym t) w)

  handed-end : (c : SelectionState) (m : Machine) (d : DeskView) → IsUnderWay g b o c m d → IsFirst m.task.game m.task.first → IsEnd m.task m.search → (e : End) → IsEndOf m.task m.search e → IsEndHanded g b o e
  handed-end c m d w first at_end e reads = record {
    first = subst (λ (p : Task). IsFirst p.game p.first) w.about first;
    state = m.search;
    ended = record { events = w.events; selection = c; come = w.come; end = subst (λ (p : Task). IsEnd p m.search) w.about at_end };
    reads = subst (λ (p : Task). IsEndOf p m.search e) w.about reads;
  }

  pub handed-result : {F : Type 0} (c : SelectionState) (m : Machine) (d : DeskView) → IsUnderWay g b o c m d → IsFirst m.task.game m.task.first → IsEnd m.task m.search → (r : Result End F) → IfOk r (λ e. IsEndOf m.task m.search e) → IfOk r (λ e. IsEndHanded g b o e)
  handed-result c m d w first at_end (Ok e) reads = handed-end c m d w first at_end e reads
  handed-result c m d w first at_end (Err f) reads = tt
