-- Which causes of a gap never come where budgets are enough.
use Rattle.std.proofs.Common.{◌≡◌, ◌≢◌, ◌⊎◌, ℕ, ◌≤◌, ◌<◌, true≢false, sym, ◌∙◌, subst, arith, inl, inr, ⊎_elim, Contains}
use Rattle.sg_num.specs.declared.step.Wide.{Wide}
use Rattle.sg_model.specs.Games.{Game}
use Rattle.sg_tree.specs.declared.fix.Fix.{Fix}
use Rattle.sg_tree.specs.declared.report.Cause.{Cause}
use Rattle.sg_tree.specs.declared.report.Cause.TheVariants as cause
use Rattle.sg_tree.specs.declared.report.Ending.TheVariants.{Optimal, Gap}
use Rattle.sg_tree.specs.declared.report.Report.{Report}
use Rattle.sg_bounds.specs.Regions.{IsNode}
use Rattle.sg_search.specs.declared.held.Stuck.{Stuck}
use Rattle.sg_search.specs.Searches.{Task, Search}
use Rattle.sg_search.specs.CountLaws.{enough_nodes}
use Rattle.sg_search.specs.EndLaws.{IsClosed}
use Rattle.sg_lp.specs.Programs.{enough_pivots}
use Rattle.sg_programs.specs.CauseRows.{NodeCause}
use Rattle.sg_programs.specs.Enough.{enough_looks, node_budget}
use Rattle.sg_programs.specs.NodeTests.{Method, StopsNode}
use Rattle.sg_programs.specs.Plays.{plays_program}
use Rattle.sg_programs.proofs.NodeEnds.{pivots_are_few}
use Rattle.sg_gap_laws.specs.Ends.{HasEnded, IsEndReport}
use Rattle.sg_gap_laws.specs.EnoughLaws.{AreEnough, EnoughLeavesWide, NoGapOfLooks, NoGapOfNodes, NoGapOfPivots}
use Rattle.sg_gap_laws.proofs.Caused.{Due, due, is_gap, nothing-open, says, stated_due, stops-node, stuck-node}
use Rattle.sg_gap_laws.proofs.Reached.{closed-optimal, ended}
use Rattle.sg_gap_laws.proofs.Short.{short}

nodes_pivots : (n : ℕ) (budget : ℕ) (fix : Fix) → cause.Pivots budget fix ≡ cause.Nodes n → ⊥
nodes_pivots n budget fix e = cc

nodes_looks : (n : ℕ) (budget step : ℕ) (fix : Fix) → cause.Looks budget step fix ≡ cause.Nodes n → ⊥
nodes_looks n budget step fix e = cc

module _ (m : Method) (p : Task) (t : Search) (h : HasEnded p.game m p t) (r : Report) (end : IsEndReport p t r) where
  abbrev g : Game
  g = p.game

  -- what a stated cause is due by
  due-by : (why : Cause) → r.ending ≡ Gap why → Due p t why
  due-by why e = subst (Due p t) (sym (stated_due p t r end why e)) (due p t)

  node-says : (why : Cause) (x : Stuck) → Contains t.stuck x → why ≡ x.cause → NodeCause g m x.node why
  node-says why x at e = subst (NodeCause g m x.node) (sym e) (says m p t h x at)

  pub not-nodes : enough_nodes g ≤ p.nodes → (n : ℕ) → r.ending ≢ Gap (cause.Nodes n)
  not-nodes enough n e = ⊎_elim
      (λ none. ⊎_elim
      (λ closed. unmet closed)
      (λ rest. ⊎_elim
      (λ all. let less = short m p t h unmet in omega (arith, all, less, enough))
      (λ barred. unmet (nothing-open m p t h none.0 barred))
      rest)
      (ended m p t h).1)
      (λ x. node-says (cause.Nodes n) x.0 x.1 x.2)
      (due-by (cause.Nodes n) e)
    where
      unmet : IsClosed p t → ⊥
      unmet closed = true≢false (sym (closed-optimal m p t h r end.reads closed) ∙ is_gap r (cause.Nodes n) e)

  pub not-looks : enough_looks g ≤ m.looks → (budget step : ℕ) (fix : Fix) → r.ending ≢ Gap (cause.Looks budget step fix)
  not-looks enough budget step fix e = ⊎_elim
      (λ none. nodes_looks p.nodes budget step fix none.1)
      (λ x.
      let c = node-says (cause.Looks budget step fix) x.0 x.1 x.2 in
      let is = c.1 in
      let few = c.2.1.3 in
      omega (arith, is, few, enough))
      (due-by (cause.Looks budget step fix) e)

  -- a node whose moves are spent, with how many are too few
  spent-pivots : (budget : ℕ) (fix : Fix) → r.ending ≡ Gap (cause.Pivots budget fix) → IsNode g fix × (m.pivots < enough_pivots (plays_program g fix))
  spent-pivots budget fix e = ⊎_elim
      (λ none. absurd (nodes_pivots p.nodes budget fix none.1))
      (λ x.
      let node = stuck-node m p t h x.0 x.1 in
      let stops = subst (StopsNode g m x.0.node) (sym x.2) (stops-node m p t h x.0 x.1) in
      let few = pivots_are_few g h.game h.unscaled x.0.node node.is_fix m budget fix stops in
      let is : budget ≡ m.pivots = stops.says.1 in
      let same_as : fix ≡ x.0.node = stops.says.2 in
      subst (λ (y : Fix). IsNode g y × (m.pivots < enough_pivots (plays_program g y))) (sym same_as) (node, subst (λ (k : ℕ). k < enough_pivots (plays_program g x.0.node)) is few))
      (due-by (cause.Pivots budget fix) e)

  pub not-pivots : (budget : ℕ) (fix : Fix) → enough_pivots (plays_program g fix) ≤ m.pivots → r.ending ≢ Gap (cause.Pivots budget fix)
  not-pivots budget fix enough e = let few = (spent-pivots budget fix e).1 in omega (arith, few, enough)

  -- where the budgets are enough, what is left
  pub wide-left : enough_nodes g ≤ p.nodes → enough_looks g ≤ m.looks → ((fix : Fix) → IsNode g fix → enough_pivots (plays_program g fix) ≤ m.pivots)
      → (r.ending ≡ Optimal) ⊎ ((name : ℕ) × ((w : Wide) × ((step : ℕ) × ((fix : Fix) × (r.ending ≡ Gap (cause.Wide name w step fix))))))
  wide-left nodes looks pivots = ⊎_elim (λ optimal. inl optimal) (λ gap. by _ gap) end.verdict
    where
      by : (why : Cause) → r.ending ≡ Gap why → (r.ending ≡ Optimal) ⊎ ((name : ℕ) × ((w : Wide) × ((step : ℕ) × ((fix : Fix) × (r.ending ≡ Gap (cause.Wide name w step fix))))))
      by (cause.Nodes n) e = absurd (not-nodes nodes n e)
      by (cause.Pivots budget fix) e = absurd (not-pivots budget fix (pivots fix (spent-pivots budget fix e).0) e)
      by (cause.Looks budget step fix) e = absurd (not-looks looks budget step fix e)
      by (cause.Wide name w step fix) e = inr (name, (w, (step, (fix, e))))

pub no_gap_of_nodes : NoGapOfNodes
no_gap_of_nodes g m p t h =
    subst (λ (x : Game). HasEnded x m p t → enough_nodes x ≤ p.nodes → (r : Report) → IsEndReport p t r → (n : ℕ) → r.ending ≢ Gap (cause.Nodes n)) h.about
    (λ e enough r end. not-nodes m p t e r end enough) h

pub no_gap_of_looks : NoGapOfLooks
no_gap_of_looks g m p t h =
    subst (λ (x : Game). HasEnded x m p t → enough_looks x ≤ m.looks → (r : Report) → IsEndReport p t r → (budget step : ℕ) (fix : Fix) → r.ending ≢ Gap (cause.Looks budget step fix)) h.about
    (λ e enough r end. not-looks m p t e r end enough) h

pub no_gap_of_pivots : NoGapOfPivots
no_gap_of_pivots g m p t h =
    subst (λ (x : Game). HasEnded x m p t → (r : Report) → IsEndReport p t r → (budget : ℕ) (fix : Fix) → enough_pivots (plays_program x fix) ≤ m.pivots → r.ending ≢ Gap (cause.Pivots budget fix)) h.about
    (λ e r end. not-pivots m p t e r end) h

pub enough_leaves_wide : EnoughLeavesWide
enough_leaves_wide g m p t h =
    subst (λ (x : Game). HasEnded x m p t → (nodes : ℕ) → p.nodes ≡ node_budget x nodes → AreEnough x m (node_budget x nodes) → (r : Report) → IsEndReport p t r
    → (r.ending ≡ Optimal) ⊎ ((name : ℕ) × ((w : Wide) × ((step : ℕ) × ((fix : Fix) × (r.ending ≡ Gap (cause.Wide name w step fix))))))) h.about
    (λ e nodes budget are r end. let n = are.nodes_are in wide-left m p t e r end (omega (arith, n, budget)) are.looks_are are.pivots_are) h
