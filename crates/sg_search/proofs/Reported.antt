-- What every state that events lead to is, and the report that the end of a search gives.
use Rattle.std.proofs.Common.{Bool, true, false, cond, List, [], ◌∷◌, ◌++◌, sym, subst, Option, Some, None}
use Rattle.std.specs.Prelude.{MatchBool, IfSome, fold}
use Rattle.std.specs.List.{All}
use Rattle.std.proofs.lemmas.List.Elements.{All-append, All-head, All-tail, All-weaker}
use Rattle.sg_model.specs.declared.ticket.Ticket.{Ticket}
use Rattle.sg_model.specs.Games.{Game}
use Rattle.sg_model.specs.Commitments.{IsCommitment}
use Rattle.sg_commit.specs.Committed.{Committed}
use Rattle.sg_tree.specs.declared.fact.Fact.{Fact}
use Rattle.sg_tree.specs.declared.fix.Fix.{Fix}
use Rattle.sg_tree.specs.declared.report.Cap.{Cap}
use Rattle.sg_tree.specs.declared.worked.Worked.{Worked}
use Rattle.sg_bounds.specs.Facts.{HoldsFor}
use Rattle.sg_bounds.specs.Caps.{AreCaps}
use Rattle.sg_bounds.specs.Trees.{Node, node_of}
use Rattle.sg_bounds.specs.Sizes.{value_sums, weight_sums}
use Rattle.sg_num.specs.Exact.{Fits}
use Rattle.sg_bounds.specs.Accepted.{IsSplitTree, IsWaterTree, cap_sums, tree_sums}
use Rattle.sg_search.specs.Searches.{Task, Search}
use Rattle.sg_search.specs.Bounding.{better, caps_of, incumbent, exceeds, value_fraction}
use Rattle.sg_search.specs.GroupLaws.{ArePoints}
use Rattle.sg_search.specs.ReportLaws.{ReportIsAccepted}
use Rattle.sg_search.specs.Results.{IsFirst, IsPointOf, IsResult}
use Rattle.sg_search.specs.Sound.{RunsAreSound}
use Rattle.sg_search.specs.TreeLaws.{AreFacts}
use Rattle.sg_search.proofs.Placed.{known_in_one_place}
use Rattle.sg_search.proofs.Counted.{budget_kept, worked_differ}
use Rattle.sg_search.proofs.Enough.{worked_at_most}
use Rattle.sg_search.proofs.Capped.{caps_hold}
use Rattle.sg_search.proofs.Grown.{proved_are_worked, tree_holds}
use Rattle.sg_search.proofs.Poorer.{incumbent_is_best}
use Rattle.sg_search.proofs.Fitting.{cap_sums-fit, tree_sums-fit, weight_sums-fit}

-- ---- the incumbent

better-has : (Q : List Ticket → Type 0) (g : Game) (best : List Ticket) (o : Option Committed) → Q best → IfSome o (λ k. Q k.tickets) → Q (better g best o)
better-has Q g best None h k = h
better-has Q g best (Some k) h q = by (exceeds (value_fraction g k.tickets) (value_fraction g best))
  where
    by : (b : Bool) → Q (cond b k.tickets best)
    by true = q
    by false = h

-- the incumbent has what the first commitment and each point have
pub incumbent-has : (Q : List Ticket → Type 0) (g : Game) (ws : List Worked) (best : List Ticket) → Q best → All (λ (w : Worked). IfSome w.point (λ k. Q k.tickets)) ws
    → Q (fold (λ best (w : Worked). better g best w.point) best ws)
incumbent-has Q g [] best h all = h
incumbent-has Q g (w ∷ ws) best h all =
    let P : Worked → Type 0 = λ w. IfSome w.point (λ k. Q k.tickets) in
    incumbent-has Q g ws (better g best w.point) (better-has Q g best w.point h (All-head P w ws all)) (All-tail P w ws all)

-- ---- results

pub are_facts : (g : Game) (s : Search) → All (IsResult g) s.worked → AreFacts g s
are_facts g s all = All-weaker (IsResult g) (λ (w : Worked). HoldsFor g w.fix w.fact) (λ w r. r.fact) s.worked all

point-commits : (g : Game) (node : Fix) (f : Fact) (o : Option Committed) → IsPointOf g node f o → IfSome o (λ k. IsCommitment g k.tickets)
point-commits g node f None p = tt
point-commits g node f (Some k) p = p.2.commitment

pub are_points : (p : Task) (s : Search) → IsCommitment p.game p.first → All (IsResult p.game) s.worked → ArePoints p s
are_points p s first all = record {
  first = first;
  points = All-weaker (IsResult p.game) (λ (w : Worked). IfSome w.point (λ k. IsCommitment p.game k.tickets)) (λ w r. point-commits p.game w.fix w.fact w.point r.point) s.worked all;
}

point-first : (g : Game) (node : Fix) (f : Fact) (o : Option Committed) → IsPointOf g node f o → IfSome o (λ k. All Fits (value_sums g k.tickets)) → IfSome o (λ k. IsFirst g k.tickets)
point-first g node f None p q = tt
point-first g node f (Some k) p q = record { commitment = p.2.commitment; lowest = p.1.lowest; narrow = q }

-- so the incumbent is in lowest terms too, and the numbers under its value fit
pub incumbent-first : (p : Task) (s : Search) → IsFirst p.game p.first → All (IsResult p.game) s.worked → IsFirst p.game (incumbent p s)
incumbent-first p s first all =
    incumbent-has (IsFirst p.game) p.game s.worked p.first first
    (All-weaker (IsResult p.game) (λ (w : Worked). IfSome w.point (λ k. IsFirst p.game k.tickets)) (λ w r. point-first p.game w.fix w.fact w.point r.point r.narrow.value) s.worked all)

-- ---- states

pub runs_are_sound : RunsAreSound
runs_are_sound p peopled first cs t run results =
    let facts = are_facts p.game t results in
    let best = incumbent_is_best p peopled t (are_points p t first results) in
    record {
      places = known_in_one_place p peopled cs t run;
      differ = worked_differ p peopled cs t run;
      budget = budget_kept p peopled cs t run;
      enough = worked_at_most p peopled cs t run;
      proved = proved_are_worked p peopled cs t run;
      results = results;
      tree = tree_holds p peopled cs t run facts;
      caps = caps_hold p.game peopled t facts;
      first = best.0;
      points = best.1;
    }

-- ---- the report

pub report_is_accepted : ReportIsAccepted
report_is_accepted p peopled unscaled is_first cs t run results r of =
    let g = p.game in
    let facts = are_facts g t results in
    let tree : IsSplitTree g (node_of r.tree) = subst (IsSplitTree g) (sym of.tree) (tree_holds p peopled cs t run facts) in
    let inc : IsFirst g r.tickets.tickets = subst (IsFirst g) (sym of.tickets) (incumbent-first p t is_first results) in
    let caps_fit : All Fits (cap_sums g 2 r.caps) = subst (λ (cs1 : List Cap). All Fits (cap_sums g 2 cs1)) (sym of.caps) (cap_sums-fit g peopled t results p.first is_first.commitment) in
    let tree_fit : All Fits (tree_sums g r.caps [] (node_of r.tree)) =
    subst (λ (cs1 : List Cap). All Fits (tree_sums g cs1 [] (node_of r.tree))) (sym of.caps)
    (subst (λ (x : Node). All Fits (tree_sums g (caps_of g t) [] x)) (sym of.tree) (tree_sums-fit g peopled t results p.first is_first.commitment)) in
    let weights = weight_sums-fit g peopled r.tickets.tickets inc.commitment inc.narrow in
    record {
      tickets = inc.commitment;
      total = of.total;
      lowest = inc.lowest;
      value = of.value;
      value_reduced = of.value_reduced;
      caps = subst (AreCaps g) (sym of.caps) (caps_hold g peopled t facts);
      tree = subst (λ (b : Bool). MatchBool b (IsWaterTree g (node_of r.tree)) (IsSplitTree g (node_of r.tree))) (sym unscaled) tree;
      upper = of.upper;
      upper_reduced = of.upper_reduced;
      ending = of.ending;
      sums = All-append Fits (weight_sums r.tickets.tickets) (value_sums g r.tickets.tickets ++ (cap_sums g 2 r.caps ++ tree_sums g r.caps [] (node_of r.tree))) weights
          (All-append Fits (value_sums g r.tickets.tickets) (cap_sums g 2 r.caps ++ tree_sums g r.caps [] (node_of r.tree)) inc.narrow
          (All-append Fits (cap_sums g 2 r.caps) (tree_sums g r.caps [] (node_of r.tree)) caps_fit tree_fit));
    }
