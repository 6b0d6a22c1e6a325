-- The report of the end of a search is an answer.
use Rattle.std.proofs.Common.{◌≡◌, ◌≢◌, ◌∙◌, ℕ, ◌+◌, ◌≤◌, ◌^◌, Bool, true, false, List, [], ◌∷◌, length, ℤ, pos, ◌*ℤ◌, ◌≤ℤ◌, sym, ap, subst, refl, arith, Option, Some, None, All, Contains, inl, inr}
use Rattle.std.specs.Prelude.{◌⊎◌, ◌↔◌, unwrap_or}
use Rattle.sg_num.specs.declared.step.Wide.{Wide}
use Rattle.sg_num.specs.Operations.{first_wide}
use Rattle.sg_frac.specs.Fractions.{Fraction, IsReduced}
use Rattle.sg_frac.proofs.Apart.{same_by_cross}
use Rattle.sg_options.specs.declared.budget.Budget.{Budget}
use Rattle.sg_options.specs.declared.order.Order.{Order}
use Rattle.sg_options.specs.Options.{IsBudget, IsOrder}
use Rattle.sg_model.specs.declared.ticket.Ticket.{Ticket}
use Rattle.sg_model.specs.Games.{Game, prior_total}
use Rattle.sg_model.specs.Limits.{IsGame}
use Rattle.sg_model.specs.Payoffs.{IsPeopled}
use Rattle.sg_model.specs.Commitments.{IsCommitment, IsValue, weight_total, worth}
use Rattle.sg_num.proofs.Laws.{mul-assoc}
use Rattle.sg_model.proofs.Promises.{peopled}
use Rattle.sg_tree.specs.Claims.{Claimed, HaveOneLength}
use Rattle.sg_tree.specs.declared.fix.Fix.{Fix}
use Rattle.sg_tree.specs.declared.report.Cap.{Cap}
use Rattle.sg_tree.specs.declared.report.Cause.{Cause}
use Rattle.sg_tree.specs.declared.report.Cause.TheVariants as cause
use Rattle.sg_tree.specs.declared.report.Ending.{Ending}
use Rattle.sg_tree.specs.declared.report.Ending.TheVariants.{Gap, Optimal}
use Rattle.sg_tree.specs.declared.report.Report.{Report}
use Rattle.sg_tree.specs.declared.worked.Worked.{Worked}
use Rattle.sg_bounds.specs.Accepted.{IsGreatest, IsSame, IsSplitTree, is_optimal, tree_sums}
use Rattle.sg_bounds.specs.Leaves.{tree_bounds_of}
use Rattle.sg_bounds.specs.Regions.{IsNode}
use Rattle.sg_bounds.specs.Trees.{Node, node_of}
use Rattle.sg_bounds.proofs.Reports.{accepted_means}
use Rattle.sg_search.specs.declared.held.Stuck.{Stuck}
use Rattle.sg_search.specs.Searches.{Search, Task, first_search}
use Rattle.sg_search.specs.Bounding.{caps_of, incumbent, lower, tree_of}
use Rattle.sg_search.specs.Changes.{Runs}
use Rattle.sg_search.specs.ReportLaws.{IsReportOf}
use Rattle.sg_search.specs.Results.{IsFirst, IsResult}
use Rattle.sg_search.proofs.Fitting.{tree_sums-fit}
use Rattle.sg_search.proofs.Grown.{tree_holds}
use Rattle.sg_search.proofs.Reported.{are_facts, incumbent-first}
use Rattle.sg_search.proofs.Told.{end_is_still}
use Rattle.sg_programs.specs.NodeLaws.{IsMethodAt}
use Rattle.sg_programs.specs.NodeTests.{Method, StopsNode}
use Rattle.sg_programs.proofs.ListedPlays.{listing_is_method}
use Rattle.sg_upper.specs.TreeSteps.{node_steps}
use Rattle.sg_upper.specs.Tops.{IsBoundedTree}
use Rattle.sg_lanes.specs.Ends.{IsEndOf}
use Rattle.sg_lanes.specs.declared.end.End.{End}
use Rattle.sg_selection.specs.Selections.{first_selection}
use Rattle.sg_selection.specs.SelectedRuns.{changes_of}
use Rattle.sg_selection.proofs.Made.{selected-runs}
use Rattle.sg_gap_laws.specs.Ends.{HasEnded, IsEndReport, cause_due}
use Rattle.sg_gap_laws.proofs.Ample.{no_gap_of_looks, no_gap_of_nodes, no_gap_of_pivots}
use Rattle.sg_gap_laws.proofs.Caused.{gap_is_caused}
use Rattle.sg_gap_laws.proofs.Reached.{end_is_accepted, points_are_not_above, value_is_below, worked_are_results}
use Rattle.sg_answer_laws.specs.Answers.{HasOperandsAt, IsAnswerOf, IsCauseOf, IsEndingOf}
use Rattle.sg_answer_laws.proofs.Reports.{answers_are_reports}
use Rattle.sg_answer_laws.proofs.Shortness.{answers_are_short}
use Rattle.sg_solve.specs.Answers.{IsSearchAnswer}
use Rattle.sg_solve.specs.Ending.{EndsBy, IsEndHanded}
use Rattle.sg_solve.specs.Searching.{method_of, task_of}
use Rattle.sg_solve.proofs.Formable.{bounded-tree, node-formed, tickets-alike}

-- caps of all types but the first
caps-length : (g : Game) → IsPeopled g → (s : Search) → length (caps_of g s) + 1 ≡ length g.types
caps-length g is_peopled s =
    let some = is_peopled.types in
    let a = Rattle.std.proofs.lemmas.List.length-map (Rattle.sg_model.specs.Sums.numbers_from 2 (Rattle.std.specs.Prelude.◌-◌ (length g.types) 1)) (Rattle.sg_search.specs.Bounding.cap_at g s) in
    let b = Rattle.sg_model.proofs.Numbers.length-numbers_from 2 (Rattle.std.specs.Prelude.◌-◌ (length g.types) 1) in
    omega (arith, some, a, b)

module _ (g : Game) (game : IsGame g) (unscaled : g.scale ≡ pos 0) (b : Budget) (o : Order) (budget : IsBudget b) (order : IsOrder o) (e : End) (h : IsEndHanded g b o e) where
  abbrev p : Task
  p = task_of g b o

  abbrev m : Method
  m = method_of g b

  abbrev s : Search
  s = h.state

  people : IsPeopled g
  people = peopled g game

  run : Runs p (first_search p) (changes_of h.ended.events) s
  run = selected-runs p (first_selection o) (first_search p) h.ended.events h.ended.selection s h.ended.come.selected

  methods : (fix : Fix) → IsNode g fix → IsMethodAt g m fix
  methods fix node = listing_is_method g game unscaled fix node.is_fix b.pivots b.looks

  ended : HasEnded g m p s
  ended = record {
    game = game;
    unscaled = unscaled;
    about = refl;
    lanes = order.some_lanes;
    first = h.first;
    changes = changes_of h.ended.events;
    runs = run;
    still = end_is_still p s h.ended.end;
    methods = methods;
    closes = h.ended.come.closed;
    stops = h.ended.come.stopped;
  }

  results : All (IsResult g) s.worked
  results = worked_are_results g m p s ended

  best : IsFirst g (incumbent p s)
  best = incumbent-first p s h.first results

  commits : IsCommitment g e.tickets.tickets
  commits = subst (IsCommitment g) (sym h.reads.tickets) best.commitment

  split-tree : IsSplitTree g (node_of e.tree)
  split-tree = subst (IsSplitTree g) (sym h.reads.tree) (tree_holds p people (changes_of h.ended.events) s run (are_facts g s results))

  pub capped : length e.caps + 1 ≡ length g.types
  capped = ap (λ (cs : List Cap). length cs + 1) h.reads.caps ∙ caps-length g people s

  pub bounded : IsBoundedTree g (node_of e.tree)
  bounded = bounded-tree g (node_of e.tree) split-tree

  formed : first_wide (node_steps g e.caps 0 (node_of e.tree)) ≡ None
  formed =
      subst (λ (cs : List Cap). first_wide (node_steps g cs 0 (node_of e.tree)) ≡ None) (sym h.reads.caps)
      (subst (λ (t : Node). first_wide (node_steps g (caps_of g s) 0 t) ≡ None) (sym h.reads.tree)
      (node-formed g (caps_of g s) (tree_of g s) [] 0 refl (tree_sums-fit g people s results p.first h.first.commitment)))

  pub never-wide : (w : Wide) → first_wide (node_steps g e.caps 0 (node_of e.tree)) ≡ Some w → ⊥
  never-wide w is = let clash : None ≡ Some w = sym formed ∙ is in cc

  pub alike : HaveOneLength e.tickets.tickets
  alike = tickets-alike g e.tickets.tickets commits.legal

  -- ---- the report

  value-is : IsValue g e.tickets.tickets e.value.num e.value.den
  value-is =
      let form = h.reads.value in
      let k = incumbent p s in
      let low : (e.value.num *ℤ weight_total k) *ℤ prior_total g ≡ e.value.num *ℤ (weight_total k *ℤ prior_total g) =
      mul-assoc e.value.num (weight_total k) (prior_total g) in
      subst (λ (ts : List Ticket). IsValue g ts e.value.num e.value.den) (sym h.reads.tickets)
      (record { positive = form.reduced.positive; same = sym form.equal ∙ sym low })

  module _ (top : Fraction) (greatest : IsGreatest top (e.value ∷ tree_bounds_of g e.caps (node_of e.tree))) (lowest : IsReduced top) (ending : Ending)
      (ends : EndsBy e.value top e.stuck p.nodes ending) (operands : HasOperandsAt ending) where
    abbrev report : Claimed → Report
    report c = record { tickets = c; value = e.value; caps = e.caps; tree = e.tree; upper = top; ending = ending }

    abbrev claim : Claimed
    claim = record { tickets = e.tickets.tickets; total = e.tickets.total }

    verdict-is : (x : Ending) → EndsBy e.value top e.stuck p.nodes x → (is_optimal x ≡ true) ↔ IsSame e.value top
    verdict-is Optimal same = ((λ _. ap (λ (f : Fraction). e.value.num *ℤ f.den) (sym same) ∙ ap (λ (f : Fraction). f.num *ℤ e.value.den) same), (λ _. refl))
    verdict-is (Gap why) differ = ((λ yes. absurd (no yes)), (λ same. absurd (differ.0 (same_by_cross e.value top h.reads.value.reduced lowest same))))
      where
        no : false ≡ true → ⊥
        no q = cc

    reads : IsReportOf p s (report claim)
    reads = record {
      tickets = h.reads.tickets;
      total = h.reads.committed.sum;
      value = value-is;
      value_reduced = h.reads.value.reduced;
      caps = h.reads.caps;
      tree = h.reads.tree;
      upper = greatest;
      upper_reduced = lowest;
      ending = verdict-is ending ends;
    }

    due : (xs : List Stuck) (why : Cause) → why ≡ unwrap_or (Rattle.sg_lanes.specs.Ends.first_cause xs) (cause.Nodes p.nodes) → why ≡ Rattle.sg_gap_laws.specs.Ends.stuck_or_spent p.nodes xs
    due [] why is = is
    due (x ∷ xs) why is = is

    verdict : (x : Ending) → EndsBy e.value top e.stuck p.nodes x → (x ≡ Optimal) ⊎ (x ≡ Gap (cause_due p s))
    verdict Optimal same = inl refl
    verdict (Gap why) differ = inr (ap (λ q. Gap q) (due s.stuck why (differ.1 ∙ ap (λ q. unwrap_or q (cause.Nodes p.nodes)) h.reads.stuck)))

    end-report : IsEndReport p s (report claim)
    end-report = record { reads = reads; verdict = verdict ending ends }

    -- the cause is that of a stuck node, or that nodes are spent
    stuck-cause : (x : Stuck) (xs : List Stuck) → StopsNode g m x.node x.cause → Contains (x ∷ xs) x → (why : Cause) → x.cause ≡ why → Contains s.stuck x → IsCauseOf p s why
    stuck-cause x xs stops here (cause.Nodes n) is at = absurd (subst (Rattle.sg_programs.specs.NodeTests.CauseSays g m x.node stops.moves stops.state stops.answer) is stops.says)
    stuck-cause x xs stops here (cause.Pivots budget fix) is at = (x, (at, is))
    stuck-cause x xs stops here (cause.Looks budget step fix) is at = (x, (at, is))
    stuck-cause x xs stops here (cause.Wide name w step fix) is at = (x, (at, is))

    cause-of : (xs : List Stuck) → s.stuck ≡ xs → (why : Cause) → why ≡ Rattle.sg_gap_laws.specs.Ends.stuck_or_spent p.nodes xs → IsCauseOf p s why
    cause-of [] is why q = subst (IsCauseOf p s) (sym q) refl
    cause-of (x ∷ xs) is why q =
        let at : Contains (x ∷ xs) x = Rattle.sg_search.proofs.Listing.here-in x xs in
        let stops : StopsNode g m x.node x.cause = Rattle.std.proofs.lemmas.List.Elements.All-head (λ (y : Stuck). StopsNode g m y.node y.cause) x xs (subst (λ (ys : List Stuck). All (λ (y : Stuck). StopsNode g m y.node y.cause) ys) is h.ended.come.stopped) in
        stuck-cause x xs stops at why (sym q) (subst (λ (ys : List Stuck). Contains ys x) (sym is) at)

    ending-of : (x : Ending) → EndsBy e.value top e.stuck p.nodes x → IsEndingOf p s x
    ending-of Optimal same = tt
    ending-of (Gap why) differ = cause-of s.stuck refl why (due s.stuck why (differ.1 ∙ ap (λ q. unwrap_or q (cause.Nodes p.nodes)) h.reads.stuck))

    answer-of : IsAnswerOf b p m s (report claim)
    answer-of = record {
      budget = budget;
      task = record { game = game; unscaled = unscaled; nodes = refl; first = h.first; one = refl };
      method = record { pivots = refl; looks = refl; kept = methods };
      reached = record { changes = changes_of h.ended.events; run = run; worked = h.ended.come.closed; stuck = h.ended.come.stopped };
      report = reads;
      ending = ending-of ending ends;
      operands = operands;
    }

    gap-is : (why : Cause) → ending ≡ Gap why → is_optimal ending ≡ false
    gap-is why is = ap is_optimal is

    pub closing : (c : Claimed) (worked : List Worked) → c ≡ claim → worked ≡ e.worked → IsSearchAnswer g b o (report c) worked
    closing c worked is worked_is =
        subst (λ (x : Claimed). IsSearchAnswer g b o (report x) worked) (sym is)
        (record {
          end = s;
          ended = h.ended;
          reads = end-report;
          worked_are = worked_is ∙ h.reads.worked;
          accepted = end_is_accepted g m p s ended (report claim) reads;
          optimal = λ opt. (accepted_means g game (report claim) (end_is_accepted g m p s ended (report claim) reads)).optimal (ap is_optimal opt);
          points = subst (λ (ws : List Worked). All (λ (w : Worked). Rattle.std.specs.Prelude.IfSome w.point (λ k. Rattle.sg_bounds.specs.Accepted.IsNotAbove (Rattle.sg_search.specs.Bounding.value_fraction g k.tickets) e.value)) ws)
              (sym (worked_is ∙ h.reads.worked)) (points_are_not_above g m p s ended (report claim) reads);
          in_ranges = answers_are_reports b p m s (report claim) answer-of;
          short = answers_are_short b p m s (report claim) answer-of;
          gap = λ why opt. record {
            below = (value_is_below g m p s ended (report claim) reads).1 (gap-is why opt);
            caused = subst (λ (ws : List Worked). Rattle.sg_programs.specs.CauseRows.IsGapCause g m b.nodes (report claim) ws why) (sym (worked_is ∙ h.reads.worked))
                (gap_is_caused g m p s ended b.nodes refl (report claim) end-report why opt);
            nodes_lack = λ n q enough. no_gap_of_nodes g m p s ended enough (report claim) end-report n (opt ∙ ap (λ z. Gap z) q);
            looks_lack = λ k step fix q enough. no_gap_of_looks g m p s ended enough (report claim) end-report k step fix (opt ∙ ap (λ z. Gap z) q);
            pivots_lack = λ k fix q enough. no_gap_of_pivots g m p s ended (report claim) end-report k fix enough (opt ∙ ap (λ z. Gap z) q);
          };
        })
