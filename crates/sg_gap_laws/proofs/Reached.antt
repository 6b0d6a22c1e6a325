-- What holds where a search has ended, and of its report.
use Rattle.std.proofs.Common.{◌≡◌, true, false, true≢false, List, get_or, ℤ, pos, ◌*ℤ◌, ◌≤ℤ◌, sym, ◌∙◌, ap, subst, arith, Contains, ⊎_elim, Option, Some, None}
use Rattle.std.specs.List.{All}
use Rattle.std.specs.Prelude.{int_lt, IfSome}
use Rattle.std.proofs.lemmas.Int.{ints}
use Rattle.std.proofs.lemmas.Bool.{cases_Bool}
use Rattle.std.proofs.lemmas.List.Elements.{All-contains, All-head, All-weaker}
use Rattle.sg_frac.specs.Fractions.{Fraction}
use Rattle.sg_frac.proofs.Apart.{same_by_cross}
use Rattle.sg_model.specs.Games.{Game, prior_total}
use Rattle.sg_model.specs.Limits.{is_scaled}
use Rattle.sg_model.specs.Payoffs.{IsPeopled}
use Rattle.sg_model.specs.Commitments.{IsValue, weight_total}
use Rattle.sg_model.specs.declared.ticket.Ticket.{Ticket}
use Rattle.sg_model.proofs.Ints.{v, times, same_by}
use Rattle.sg_model.proofs.Promises.{peopled}
use Rattle.sg_commit.specs.Committed.{Committed}
use Rattle.sg_tree.specs.declared.report.Report.{Report}
use Rattle.sg_tree.specs.declared.worked.Worked.{Worked}
use Rattle.sg_bounds.specs.Accepted.{IsAccepted, IsNotAbove, IsSame, is_optimal}
use Rattle.sg_bounds.specs.Leaves.{tree_bounds_of}
use Rattle.sg_bounds.specs.Trees.{node_of}
use Rattle.sg_bounds.specs.Regions.{IsNode}
use Rattle.sg_search.specs.declared.held.Stuck.{Stuck}
use Rattle.sg_search.specs.Searches.{Task, Search, ArePlaced}
use Rattle.sg_search.specs.Bounding.{caps_of, exceeds, incumbent, lower, tree_of, value_fraction}
use Rattle.sg_search.specs.EndLaws.{IsClosed, IsEnded}
use Rattle.sg_search.specs.ReportLaws.{IsReportOf}
use Rattle.sg_search.specs.Results.{IsResult}
use Rattle.sg_search.specs.Sound.{IsSound}
use Rattle.sg_search.specs.TreeLaws.{AreFacts}
use Rattle.sg_search.proofs.Ended.{end_means}
use Rattle.sg_search.proofs.Grown.{AreSplits, are_splits, tree_holds}
use Rattle.sg_search.proofs.Listing.{either-in}
use Rattle.sg_search.proofs.Placed.{known_in_one_place}
use Rattle.sg_search.proofs.Poorer.{positive-value}
use Rattle.sg_search.proofs.Reported.{are_facts, incumbent-first, report_is_accepted, runs_are_sound}
use Rattle.sg_programs.specs.NodeTests.{Method}
use Rattle.sg_programs.proofs.NodeEnds.{closed_is_result}
use Rattle.sg_gap_laws.specs.Ends.{HasEnded}
use Rattle.sg_gap_laws.specs.GapLaws.{EndIsAccepted, PointsAreNotAbove, StuckAreNodes, ValueIsBelow, WorkedAreResults}
use Rattle.sg_gap_laws.proofs.Compared.{IsOverOne, below-chain, below-same, tree-positive}
use Rattle.sg_gap_laws.proofs.Known.{stuck-nodes, worked-nodes}

module _ (m : Method) (p : Task) (t : Search) (h : HasEnded p.game m p t) where
  abbrev g : Game
  g = p.game

  pub is_peopled : IsPeopled g
  is_peopled = peopled g h.game

  pub placed : ArePlaced g t
  placed = known_in_one_place p is_peopled h.changes t h.runs

  pub splits : AreSplits p t
  splits = are_splits p is_peopled h.changes t h.runs

  pub results : All (IsResult g) t.worked
  results i d lt =
      let w : Worked = get_or t.worked i d in
      closed_is_result g h.game h.unscaled w.fix (worked-nodes p t placed splits i d lt) m w.fact w.point (h.closes i d lt)

  pub facts : AreFacts g t
  facts = are_facts g t results

  pub sound : IsSound p t
  sound = runs_are_sound p is_peopled h.first.commitment h.changes t h.runs results

  pub ended : IsEnded p t
  ended = end_means p is_peopled h.lanes h.changes t h.runs h.still

  pub plain : is_scaled g ≡ false
  plain = ap (λ (z : ℤ). int_lt (pos 0) z) h.unscaled

  pub lower-positive : pos 1 ≤ℤ (lower p t).den
  lower-positive = positive-value g is_peopled (incumbent p t) (incumbent-first p t h.first results).commitment

  module _ (r : Report) (of : IsReportOf p t r) where
    pub accepted : IsAccepted g r
    accepted = report_is_accepted p is_peopled plain h.first h.changes t h.runs results r of

    pub value-positive : pos 1 ≤ℤ r.value.den
    value-positive = of.value_reduced.positive

    -- its value is the incumbent's
    pub value-same : IsSame (lower p t) r.value
    value-same =
        let k : List Ticket = incumbent p t in
        let is : IsValue g k r.value.num r.value.den = subst (λ (x : List Ticket). IsValue g x r.value.num r.value.den) of.tickets of.value in
        is.same ∙ same_by (times (times (v r.value.num) (v (weight_total k))) (v (prior_total g))) (times (v r.value.num) (times (v (weight_total k)) (v (prior_total g)))) (omega arith)

    pub points-below : All (λ (w : Worked). IfSome w.point (λ k. IsNotAbove (value_fraction g k.tickets) r.value)) t.worked
    points-below = All-weaker (λ (w : Worked). IfSome w.point (λ k. IsNotAbove (value_fraction g k.tickets) (lower p t))) (λ (w : Worked). IfSome w.point (λ k. IsNotAbove (value_fraction g k.tickets) r.value))
        (λ w. each w.point) t.worked sound.points
      where
        each : (o : Option Committed) → IfSome o (λ k. IsNotAbove (value_fraction g k.tickets) (lower p t)) → IfSome o (λ k. IsNotAbove (value_fraction g k.tickets) r.value)
        each None q = tt
        each (Some k) q = below-same (value_fraction g k.tickets) (lower p t) r.value lower-positive value-positive value-same q

    bounds-same : tree_bounds_of g r.caps (node_of r.tree) ≡ tree_bounds_of g (caps_of g t) (tree_of g t)
    bounds-same = ap (λ (c : List Rattle.sg_tree.specs.declared.report.Cap.Cap). tree_bounds_of g c (node_of r.tree)) of.caps ∙ ap (tree_bounds_of g (caps_of g t)) of.tree

    value-below : IsNotAbove r.value r.upper
    value-below = All-head (λ x. IsNotAbove x r.upper) r.value (tree_bounds_of g r.caps (node_of r.tree)) of.upper.bounds

    -- where no leaf is above the incumbent, the upper bound is the value
    pub closed-same : IsClosed p t → IsSame r.value r.upper
    closed-same closed = ⊎_elim
        (λ e. subst (λ (x : Fraction). IsSame x r.upper) (sym e) of.upper.reached.2)
        (λ at. low at)
        (either-in r.value (tree_bounds_of g r.caps (node_of r.tree)) of.upper.reached.0 of.upper.reached.1)
      where
        low : Contains (tree_bounds_of g r.caps (node_of r.tree)) of.upper.reached.0 → IsSame r.value r.upper
        low at =
            let x : Fraction = of.upper.reached.0 in
            let bs : List Fraction = tree_bounds_of g (caps_of g t) (tree_of g t) in
            let inside : Contains bs x = subst (λ (l : List Fraction). Contains l x) bounds-same at in
            let one = All-contains IsOverOne bs x (tree-positive g is_peopled (caps_of g t) (tree_of g t) (tree_holds p is_peopled h.changes t h.runs facts)) inside in
            let below = All-contains (λ b. IsNotAbove b (lower p t)) bs x closed inside in
            let under : IsNotAbove x r.value = below-same x (lower p t) r.value lower-positive value-positive value-same below in
            let same_as = of.upper.reached.2 in
            let u : IsNotAbove r.upper x = omega (arith, ints, same_as) in
            let down : IsNotAbove r.upper r.value = below-chain r.upper x r.value of.upper_reduced.positive one value-positive u under in
            let up = value-below in
            omega (arith, ints, down, up)

    -- so its verdict is that the bounds meet
    pub closed-optimal : IsClosed p t → is_optimal r.ending ≡ true
    closed-optimal closed = of.ending.1 (closed-same closed)

    pub upper-is : is_optimal r.ending ≡ true → r.upper ≡ r.value
    upper-is e = sym (same_by_cross r.value r.upper of.value_reduced of.upper_reduced (of.ending.0 e))

    pub upper-over : is_optimal r.ending ≡ false → exceeds r.upper r.value ≡ true
    upper-over e = ⊎_elim
        (λ yes. yes)
        (λ no. absurd (true≢false (sym (of.ending.1 (meet (r.value.num *ℤ r.upper.den) (r.upper.num *ℤ r.value.den) value-below no)) ∙ e)))
        (cases_Bool (exceeds r.upper r.value))
      where
        meet : (x y : ℤ) → x ≤ℤ y → int_lt x y ≡ false → x ≡ y
        meet x y le out = omega (arith, ints, le, out)

-- ---- the laws, whatever game the task is said to be about

pub worked_are_results : WorkedAreResults
worked_are_results g m p t h = subst (λ (x : Game). HasEnded x m p t → All (IsResult x) t.worked) h.about (results m p t) h

pub stuck_are_nodes : StuckAreNodes
stuck_are_nodes g m p t h =
    subst (λ (x : Game). HasEnded x m p t → All (λ (y : Stuck). IsNode x y.node) t.stuck) h.about (λ e. stuck-nodes p t (placed m p t e) (splits m p t e)) h

pub end_is_accepted : EndIsAccepted
end_is_accepted g m p t h = subst (λ (x : Game). HasEnded x m p t → (r : Report) → IsReportOf p t r → IsAccepted x r) h.about (accepted m p t) h

pub points_are_not_above : PointsAreNotAbove
points_are_not_above g m p t h =
    subst (λ (x : Game). HasEnded x m p t → (r : Report) → IsReportOf p t r → All (λ (w : Worked). IfSome w.point (λ k. IsNotAbove (value_fraction x k.tickets) r.value)) t.worked) h.about (points-below m p t) h

pub value_is_below : ValueIsBelow
value_is_below g m p t h =
    subst (λ (x : Game). HasEnded x m p t → (r : Report) → IsReportOf p t r → (is_optimal r.ending ≡ true → r.upper ≡ r.value) × (is_optimal r.ending ≡ false → exceeds r.upper r.value ≡ true)) h.about
    (λ e r of. (upper-is m p t e r of, upper-over m p t e r of)) h
