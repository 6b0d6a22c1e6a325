-- A search goes on its way by an event that the order names.
use Rattle.std.proofs.Common.{◌≡◌, ◌∙◌, ℕ, ◌+◌, ◌-◌, ◌*◌, ◌<◌, ◌≤◌, false, true, List, [], ◌∷◌, ◌++◌, length, sym, ap, subst, refl, arith, Option, Some, None, All, inl, inr}
use Rattle.std.specs.Prelude.{◌⊎◌, ◌↔◌}
use Rattle.sg_options.specs.declared.budget.Budget.{Budget}
use Rattle.sg_options.specs.declared.order.Order.{Order}
use Rattle.sg_model.specs.Games.{Game}
use Rattle.sg_model.specs.Limits.{IsGame}
use Rattle.sg_model.specs.Payoffs.{IsPeopled}
use Rattle.sg_model.proofs.Promises.{peopled}
use Rattle.sg_commit.specs.Committed.{Committed}
use Rattle.sg_tree.specs.declared.fact.Fact.{Fact}
use Rattle.sg_tree.specs.declared.fix.Fix.{Fix}
use Rattle.sg_tree.specs.declared.report.Cause.{Cause}
use Rattle.sg_tree.specs.declared.worked.Worked.{Worked}
use Rattle.sg_search.specs.declared.held.Stuck.{Stuck}
use Rattle.sg_search.specs.declared.event.Event.{Event}
use Rattle.sg_search.specs.declared.event.Event.TheVariants.{Begin, Finish, Turn}
use Rattle.sg_search.specs.declared.event.Outcome.{Outcome}
use Rattle.sg_search.specs.Searches.{Search, Task, first_search}
use Rattle.sg_search.specs.CountLaws.{enough_nodes}
use Rattle.sg_search.specs.Changes.{Change, Goes, Holds, branches, ends, moves, sticks, takes, works}
use Rattle.sg_search.specs.Events.{IsEnabled, IsOf, event_outcome, lane_of}
use Rattle.sg_search.specs.Results.{IsResult}
use Rattle.sg_search.specs.Sound.{IsSound}
use Rattle.sg_search.proofs.Taken.{taken_at_most}
use Rattle.sg_programs.specs.NodeTests.{ClosesNode, EndsNode, Method, StopsNode}
use Rattle.sg_work.specs.Works.{AreSameTests, Load, load_at}
use Rattle.sg_desk.specs.Desks.{DeskView}
use Rattle.sg_lanes.specs.Machines.{IsAnsweredBy, IsTogether, LeavesLoads, Machine}
use Rattle.sg_selection.specs.Selections.{SelectionState, Selects, first_selection}
use Rattle.sg_selection.specs.SelectedRuns.{MadeEvent, SelectedRuns, changes_of}
use Rattle.sg_selection.proofs.Made.{selected-more, selected-runs}
use Rattle.sg_solve.specs.Searching.{AreTurnsDue, IsComeTo, IsDueTurn, method_of, moves_made, task_of}
use Rattle.sg_solve.specs.UnderWay.{HasTests, IsUnderWay, desk_method, events_left, load_left, nodes_taken}
use Rattle.sg_solve.proofs.Going.{counted-more, due-more}
use Rattle.sg_solve.proofs.Left.{goes-lane, held-load, lane-same, lengths, less-left}

-- tests that say the same as others, which say the same as third ones
tests-through : (e1 e2 e3 : Fix → ℕ → Type 0) (c1 c2 c3 : Fix → Fact → Option Committed → Type 0) (s1 s2 s3 : Fix → Cause → Type 0)
    → AreSameTests e1 c1 s1 e2 c2 s2 → AreSameTests e2 c2 s2 e3 c3 s3 → AreSameTests e1 c1 s1 e3 c3 s3
tests-through e1 e2 e3 c1 c2 c3 s1 s2 s3 a b = record {
  end_alike = λ node k. ((λ x. (b.end_alike node k).0 ((a.end_alike node k).0 x)), (λ x. (a.end_alike node k).1 ((b.end_alike node k).1 x)));
  close_alike = λ node f q. ((λ x. (b.close_alike node f q).0 ((a.close_alike node f q).0 x)), (λ x. (a.close_alike node f q).1 ((b.close_alike node f q).1 x)));
  stop_alike = λ node q. ((λ x. (b.stop_alike node q).0 ((a.stop_alike node q).0 x)), (λ x. (a.stop_alike node q).1 ((b.stop_alike node q).1 x)));
}

-- an event that comes to a turn's change is a turn of that lane
moving-event : (p : Task) (s : Search) (e : Event) (lane : ℕ) → IsOf p s e (moves lane) → e ≡ Turn lane
moving-event p s (Begin l n) lane of = absurd of
moving-event p s (Turn l) lane of = ap (λ k. Turn k) (sym of)
moving-event p s (Finish l) lane of = absurd of

ending-event : (p : Task) (s : Search) (e : Event) (lane : ℕ) → IsOf p s e (ends lane) → e ≡ Turn lane
ending-event p s (Begin l n) lane of = absurd of
ending-event p s (Turn l) lane of = ap (λ k. Turn k) (sym of)
ending-event p s (Finish l) lane of = absurd of

module _ (g : Game) (game : IsGame g) (b : Budget) (o : Order) (c d : SelectionState) (m n : Machine) (k j : DeskView) (e : Event) (out : Outcome) (w : IsUnderWay g b o c m k)
    (named : Selects m.task m.search c e d)
    (together : IsTogether j.game j.loads (ClosesNode j.game (desk_method j)) (StopsNode j.game (desk_method j)) n)
    (task : n.task ≡ m.task)
    (due : (lane : ℕ) (l : Load) → e ≡ Turn lane → load_at k.loads lane ≡ Some l → l.ended ≡ false → (out ≡ Outcome.Ended) ↔ EndsNode k.game (desk_method k) l.node l.moves)
    (sound : IsSound n.task n.search)
    (left : LeavesLoads k.pivots k.loads e out j.loads)
    (tests : AreSameTests (EndsNode k.game (desk_method k)) (ClosesNode k.game (desk_method k)) (StopsNode k.game (desk_method k)) (EndsNode j.game (desk_method j)) (ClosesNode j.game (desk_method j)) (StopsNode j.game (desk_method j)))
    (most : j.pivots ≡ k.pivots) where
  abbrev p : Task
  p = task_of g b o

  abbrev method : Method
  method = method_of g b

  abbrev made : Change → MadeEvent
  made ch = record { event = e; change = ch }

  about : n.task ≡ p
  about = task ∙ w.about

  now-tests : HasTests g method j
  now-tests = tests-through _ _ _ _ _ _ _ _ _ w.tests tests

  -- the turn is due
  turn-due : (ch : Change) → IsOf p m.search e ch → out ≡ event_outcome ch → IsDueTurn g method m.search (moves_made (lane_of e) w.events) ch
  turn-due (takes lane node) of is = tt
  turn-due (branches lane acts) of is = tt
  turn-due (moves lane) of is = λ node h at_end.
      let l = held-load p m.search k.pivots k.loads j.loads w.together.same_lanes lane node false h in
      let same = lane-same p m.search e (moves lane) of in
      let there : EndsNode k.game (desk_method k) node (moves_made (lane_of e) w.events) = (w.tests.end_alike node (moves_made (lane_of e) w.events)).0 at_end in
      let number : l.0.moves ≡ moves_made (lane_of e) w.events = w.moves lane l.0 l.1 ∙ ap (λ i. moves_made i w.events) same in
      let then = (due lane l.0 (moving-event p m.search e lane of) l.1 l.2).1
      (subst (λ (x : Fix). EndsNode k.game (desk_method k) x l.0.moves) (sym l.3) (subst (EndsNode k.game (desk_method k) node) (sym number) there)) in
      let clash : Outcome.Moved ≡ Outcome.Ended = sym is ∙ then in
      cc
  turn-due (ends lane) of is = λ node h.
      let l = held-load p m.search k.pivots k.loads j.loads w.together.same_lanes lane node false h in
      let same = lane-same p m.search e (ends lane) of in
      let number : l.0.moves ≡ moves_made (lane_of e) w.events = w.moves lane l.0 l.1 ∙ ap (λ i. moves_made i w.events) same in
      let there = (due lane l.0 (ending-event p m.search e lane of) l.1 l.2).0 is in
      (w.tests.end_alike node (moves_made (lane_of e) w.events)).1
      (subst (EndsNode k.game (desk_method k) node) number (subst (λ (x : Fix). EndsNode k.game (desk_method k) x l.0.moves) l.3 there))
  turn-due (works lane fact point) of is = tt
  turn-due (sticks lane cause) of is = tt

  -- what the event came to
  pub record Came : Type 0 where
    pub change : Change
    pub of : IsOf p m.search e change
    pub goes : Goes p m.search change n.search
    pub outcome : out ≡ event_outcome change

  came : IsAnsweredBy m.task m.search e out n.search → Came
  came (inl a) = record {
    change = a.0;
    of = subst (λ (q : Task). IsOf q m.search e a.0) w.about a.1;
    goes = subst (λ (q : Task). Goes q m.search a.0 n.search) w.about a.2;
    outcome = a.3;
  }
  came (inr a) = absurd (a.0 named.enabled)

  selects : Selects p m.search c e d
  selects = subst (λ (q : Task). Selects q m.search c e d) w.about named

  come : (x : Came) → IsComeTo g b o (w.events ++ (made x.change ∷ [])) d n.search
  come x = record {
    selected = selected-more p (first_selection o) (first_search p) w.events c m.search w.come.selected (made x.change) d n.search selects x.of x.goes;
    due = due-more p method [] (first_search p) w.events (made x.change) (first_selection o) c m.search w.come.selected w.come.due (turn-due x.change x.of x.outcome);
    closed = λ i v lt. (now-tests.close_alike _ _ _).1 (together.all_closed i v lt);
    stopped = λ i v lt. (now-tests.stop_alike _ _).1 (together.all_stopped i v lt);
  }

  lane-from : (x : Came) → 1 ≤ lane_of e
  lane-from x = subst (λ i. 1 ≤ i) (lane-same p m.search e x.change x.of) (goes-lane p m.search x.change n.search x.goes).from_one

  lane-to : (x : Came) → lane_of e ≤ length k.loads
  lane-to x =
      subst (λ i. lane_of e ≤ i) (sym (lengths p m.search k.pivots k.loads j.loads w.together.same_lanes))
      (subst (λ i. i ≤ length m.search.lanes) (lane-same p m.search e x.change x.of) (goes-lane p m.search x.change n.search x.goes).in_range)

  left-by : (x : Came) → LeavesLoads k.pivots k.loads e (event_outcome x.change) j.loads
  left-by x = subst (λ (q : Outcome). LeavesLoads k.pivots k.loads e q j.loads) x.outcome left

  pub goes-on : IsAnsweredBy m.task m.search e out n.search → IsUnderWay g b o d n j
  goes-on answers =
      let x = came answers in
      record {
        about = about;
        same_lanes = sound.budget.lanes ∙ ap (λ (q : Task). q.lanes) about;
        events = w.events ++ (made x.change ∷ []);
        come = come x;
        results = subst (λ (q : Task). All (IsResult q.game) n.search.worked) about sound.results;
        tests = now-tests;
        together = together;
        moves = counted-more p m.search k.pivots k.loads j.loads w.events e x.change x.of w.moves (lane-from x) (lane-to x) (left-by x);
      }

  pub goes-fewer : IsAnsweredBy m.task m.search e out n.search → events_left j.pivots n j.loads < events_left k.pivots m k.loads
  goes-fewer answers =
      let x = came answers in
      let enough = taken_at_most p (peopled g game) (changes_of (w.events ++ (made x.change ∷ []))) n.search
      (selected-runs p (first_selection o) (first_search p) (w.events ++ (made x.change ∷ [])) d n.search (come x).selected) in
      let less = less-left p m.search k.pivots k.loads j.loads w.together.same_lanes e x.change n.search x.of x.goes (left-by x) enough in
      subst (λ (i : ℕ). events_left i n j.loads < events_left k.pivots m k.loads) (sym most)
      (subst (λ (q : Task). (enough_nodes q.game - nodes_taken n.search) * (k.pivots + 3) + Rattle.std.specs.List.sum_by (load_left k.pivots) j.loads < events_left k.pivots m k.loads) (sym about)
      (subst (λ (q : Task). (enough_nodes p.game - nodes_taken n.search) * (k.pivots + 3) + Rattle.std.specs.List.sum_by (load_left k.pivots) j.loads < (enough_nodes q.game - nodes_taken m.search) * (k.pivots + 3) + Rattle.std.specs.List.sum_by (load_left k.pivots) k.loads) (sym w.about) less))
