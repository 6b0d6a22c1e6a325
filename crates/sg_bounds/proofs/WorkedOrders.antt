-- The reports of several types or with several wrongs, by computing.
use Rattle.std.proofs.Common.{◌≡◌, ℕ, ◌-◌, ◌^◌, true, [], ◌∷◌, ◌++◌, refl, Some, None}
use Rattle.std.specs.Prelude.{min}
use Rattle.sg_frac.specs.Fractions.{Fraction}
use Rattle.sg_model.specs.Examples.{neighbours, two_players, two_thieves}
use Rattle.sg_tree.specs.declared.fact.Fact.{Fact}
use Rattle.sg_tree.specs.declared.tree.Tree.{Tree}
use Rattle.sg_tree.specs.declared.tree.Tree.TheVariants.{Unproved, Closed, Split}
use Rattle.sg_tree.specs.declared.report.Cause.TheVariants.{Nodes}
use Rattle.sg_tree.specs.declared.report.Ending.TheVariants.{Gap}
use Rattle.sg_bounds.specs.Trees.{Node, unproved, closed, split, node_of, parts_of}
use Rattle.sg_bounds.specs.Accepted.{IsAccepted}
use Rattle.sg_bounds.specs.Checking.{IsRefused}
use Rattle.sg_bounds.proofs.Nodes.{node_of-Closed, node_of-Unproved}
use Rattle.sg_bounds.proofs.Answering.{answer, stops_at}
use Rattle.sg_bounds.specs.Examples.{mark, one_alone, one_type_tree, open_below, over, over_plays, plain_cap, proved_cap, reported, second_fact, shared_fact, short_fact, two_caps}
use Rattle.sg_bounds.specs.OrderExamples.{WorkedOrders, beside_fact, deepest_fact, false_and_wide, ranked_players, ranked_report, ranked_tree, second_short, thieves_fact, thieves_report, third_cap, three_players, three_types_report, wrong_and_wide, wrong_twice}
use Rattle.sg_bounds.proofs.Worked.{below_is, below_node, caps_wrong, first_open, nested_parts, one_more, open_is, open_node, open_part, reduced_test, right, split-nodes, three_facts, three_parts, two_facts, two_parts, wrong}

abbrev nested_bases : Fact → Fact → Node
nested_bases base last = split 1 None (parts_of (closed (over_plays 1 2 []) ∷ split 2 (Some base) (parts_of (closed (over_plays 3 16 (mark 2 2 2 ∷ [])) ∷ closed last ∷ [])) ∷ []))

abbrev ranked_node : Fact → Fact → Node
ranked_node deepest beside =
    split 1 None (parts_of (closed (over_plays 1 2 []) ∷ split 2 (Some (over_plays 3 11 (mark 1 1 1 ∷ []))) (parts_of (split 3 None (parts_of (closed deepest ∷ unproved ∷ [])) ∷ closed beside ∷ [])) ∷ []))

ranked_is : (deepest beside : Fact) → node_of (ranked_tree deepest beside) ≡ ranked_node deepest beside
ranked_is deepest beside =
    let f = over_plays 1 2 [] in
    let base = over_plays 3 11 (mark 1 1 1 ∷ []) in
    let third : Tree = Split 3 None (Closed deepest ∷ Unproved ∷ []) in
    let third_node : Node = split 3 None (parts_of (closed deepest ∷ unproved ∷ [])) in
    let second : Tree = Split 2 (Some base) (third ∷ Closed beside ∷ []) in
    let second_node : Node = split 2 (Some base) (parts_of (third_node ∷ closed beside ∷ [])) in
    let third_is = split-nodes 3 None (Closed deepest ∷ Unproved ∷ []) (closed deepest ∷ unproved ∷ [])
    (one_more (Closed deepest) (closed deepest) (Unproved ∷ []) (unproved ∷ []) (node_of-Closed deepest) (one_more Unproved unproved [] [] node_of-Unproved refl)) in
    let second_is = split-nodes 2 (Some base) (third ∷ Closed beside ∷ []) (third_node ∷ closed beside ∷ [])
    (one_more third third_node (Closed beside ∷ []) (closed beside ∷ []) third_is (one_more (Closed beside) (closed beside) [] [] (node_of-Closed beside) refl)) in
    split-nodes 1 None (Closed f ∷ second ∷ []) (closed f ∷ second_node ∷ [])
    (one_more (Closed f) (closed f) (second ∷ []) (second_node ∷ []) (node_of-Closed f) (one_more second second_node [] [] second_is refl))

ranked_right : (deepest beside : Fact) (upper : Fraction) → reduced_test upper ≡ true
    → answer ranked_players (ranked_report deepest beside upper) (ranked_node deepest beside) (stops_at ranked_players (ranked_report deepest beside upper) (ranked_node deepest beside)) ≡ None
    → IsAccepted ranked_players (ranked_report deepest beside upper)
ranked_right deepest beside upper low = right ranked_players (ranked_report deepest beside upper) (ranked_node deepest beside) (ranked_is deepest beside) refl refl low

ranked_wrong : (deepest beside : Fact) (upper : Fraction) (line reason : ℕ) → line ≡ min line (2 ^ 64 - 1)
    → answer ranked_players (ranked_report deepest beside upper) (ranked_node deepest beside) (stops_at ranked_players (ranked_report deepest beside upper) (ranked_node deepest beside)) ≡ Some (line, reason)
    → IsRefused ranked_players (ranked_report deepest beside upper) line reason
ranked_wrong deepest beside upper = wrong ranked_players (ranked_report deepest beside upper) (ranked_node deepest beside) (ranked_is deepest beside)

abbrev thieves_node : ℕ → Node
thieves_node mu = split 1 None (parts_of (split 2 None (parts_of (unproved ∷ closed (thieves_fact mu) ∷ [])) ∷ unproved ∷ []))

thieves_is : (mu : ℕ) (upper : Fraction) → node_of (thieves_report mu upper).tree ≡ thieves_node mu
thieves_is mu upper =
    let f = thieves_fact mu in
    let inner : Tree = Split 2 None (Unproved ∷ Closed f ∷ []) in
    let node : Node = split 2 None (parts_of (unproved ∷ closed f ∷ [])) in
    let inner_is = split-nodes 2 None (Unproved ∷ Closed f ∷ []) (unproved ∷ closed f ∷ [])
    (one_more Unproved unproved (Closed f ∷ []) (closed f ∷ []) node_of-Unproved (one_more (Closed f) (closed f) [] [] (node_of-Closed f) refl)) in
    split-nodes 1 None (inner ∷ Unproved ∷ []) (node ∷ unproved ∷ [])
    (one_more inner node (Unproved ∷ []) (unproved ∷ []) inner_is (one_more Unproved unproved [] [] node_of-Unproved refl))

pub worked_orders : WorkedOrders
worked_orders = record {
  three_types = right three_players (three_types_report (two_caps ++ (third_cap (over_plays 3 11 (mark 3 1 1 ∷ [])) ∷ []))) open_node open_is refl refl refl refl;
  third_false = wrong three_players (three_types_report (two_caps ++ (third_cap (over_plays 3 10 (mark 3 1 1 ∷ [])) ∷ []))) open_node open_is 11 6 refl refl;
  caps_exchanged = wrong three_players (three_types_report (plain_cap 3 4 ++ plain_cap 2 4)) open_node open_is 5 4 refl refl;
  base_first = wrong two_players wrong_twice (nested_bases (over_plays 3 10 (mark 1 1 1 ∷ [])) (over_plays 3 22 (mark 1 1 1 ∷ []))) (nested_parts (over_plays 1 2 []) (over_plays 3 10 (mark 1 1 1 ∷ [])) (over_plays 3 16 (mark 2 2 2 ∷ [])) (over_plays 3 22 (mark 1 1 1 ∷ []))) 14 6 refl refl;
  cap_size_wide = caps_wrong (proved_cap 5 (over_plays (2 ^ 127 - 1) 5 (mark 2 2 1 ∷ [])) (over_plays 1 4 [])) 6 9 refl refl;
  false_before_wide = wrong two_players false_and_wide (first_open wrong_and_wide) (open_part wrong_and_wide) 8 6 refl refl;
  short_of_second = wrong neighbours second_short (three_facts shared_fact short_fact shared_fact) (three_parts shared_fact short_fact shared_fact) 17 6 refl refl;
  open_below_base = ranked_right (deepest_fact 26) beside_fact (over 101 18) refl refl;
  deepest = ranked_right (over_plays 1 41 []) beside_fact (over 35 6) refl refl;
  beside = ranked_right (deepest_fact 26) (over_plays 1 17 []) (over 35 6) refl refl;
  deepest_false = ranked_wrong (deepest_fact 25) beside_fact (over 101 18) 15 6 refl refl;
  beside_false = ranked_wrong (deepest_fact 26) (over_plays 1 6 (mark 2 1 1 ∷ [])) (over 101 18) 18 6 refl refl;
  cap_before_tree = wrong two_players (reported one_alone 1 (over 3 1) [] (one_type_tree (over_plays 1 1 []) second_fact) (over 4 1) (Gap (Nodes 1))) (two_facts (over_plays 1 1 []) second_fact) (two_parts 1 None (over_plays 1 1 []) second_fact) 5 4 refl refl;
  split_before_base = wrong two_players (reported one_alone 1 (over 3 1) (plain_cap 2 4) (open_below (over_plays 1 2 []) 1 (Some (over_plays 3 10 (mark 1 1 1 ∷ [])))) (over 4 1) (Gap (Nodes 1))) (below_node (over_plays 1 2 []) 1 (Some (over_plays 3 10 (mark 1 1 1 ∷ [])))) (below_is (over_plays 1 2 []) 1 (Some (over_plays 3 10 (mark 1 1 1 ∷ [])))) 9 5 refl refl;
  base_wide = wrong two_players (reported one_alone 1 (over 3 1) (plain_cap 2 4) (open_below (over_plays 1 2 []) 2 (Some (over_plays 1 (2 ^ 127 - 1) []))) (over 4 1) (Gap (Nodes 1))) (below_node (over_plays 1 2 []) 2 (Some (over_plays 1 (2 ^ 127 - 1) []))) (below_is (over_plays 1 2 []) 2 (Some (over_plays 1 (2 ^ 127 - 1) []))) 10 9 refl refl;
  thieves = right two_thieves (thieves_report 52 (over 22 5)) (thieves_node 52) (thieves_is 52 (over 22 5)) refl refl refl refl;
  thieves_short = wrong two_thieves (thieves_report 51 (over 22 5)) (thieves_node 51) (thieves_is 51 (over 22 5)) 11 6 refl refl;
}
