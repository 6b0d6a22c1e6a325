-- The reports at the edge of 128 bits, by computing.
use Rattle.std.proofs.Common.{◌≡◌, ℕ, ◌+◌, ◌-◌, ◌*◌, ◌^◌, [], ◌∷◌, pos, refl, None}
use Rattle.sg_model.specs.Examples.{minus, one_player}
use Rattle.sg_tree.specs.declared.fact.Fact.{Fact}
use Rattle.sg_tree.specs.declared.tree.Tree.TheVariants.{Unproved, Closed, Split}
use Rattle.sg_tree.specs.declared.report.Ending.TheVariants.{Optimal}
use Rattle.sg_bounds.specs.Trees.{node_of}
use Rattle.sg_bounds.specs.Examples.{first_fact, mark, one_alone, one_type_tree, open_tree, over, over_plays, plain_cap, reported, second_fact}
use Rattle.sg_bounds.specs.SizeExamples.{WorkedSizes, all_but_one, indifferent, never_taken, often_paid, one_first, rare_fact, rare_players, rare_report, same_for_both, same_report, sized_report, spread_fact, spread_players, spread_report, twice_half, unproved_tree, up_and_down, well_paid, wide_targets, wide_targets_report, worth_nothing}
use Rattle.sg_bounds.proofs.Worked.{first_open, open_is, open_node, open_pair, open_part, right, two_facts, two_parts, unproved_node, wrong}

abbrev sized_fact : ℕ → Fact
sized_fact v = over_plays 1 (v + 2) (mark 1 2 v ∷ [])

sized_is : (v : ℕ) → node_of (sized_report v).tree ≡ two_facts (sized_fact v) second_fact
sized_is v = two_parts 1 None (sized_fact v) second_fact

pub worked_sizes : WorkedSizes
worked_sizes = record {
  size_fits = right one_player (sized_report (2 ^ 126 - 3)) (two_facts (sized_fact (2 ^ 126 - 3)) second_fact) (sized_is (2 ^ 126 - 3)) refl refl refl refl;
  size_past = wrong one_player (sized_report (2 ^ 126 - 2)) (two_facts (sized_fact (2 ^ 126 - 2)) second_fact) (sized_is (2 ^ 126 - 2)) 8 9 refl refl;
  spread_fits = wrong spread_players (spread_report (Split 1 None (Closed (spread_fact 56713727820156410577229101238628035239) ∷ Unproved ∷ [])) (over 13 5)) (first_open (spread_fact 56713727820156410577229101238628035239)) (open_part (spread_fact 56713727820156410577229101238628035239)) 8 6 refl refl;
  spread_past = wrong spread_players (spread_report (Split 1 None (Closed (spread_fact 56713727820156410577229101238628035240) ∷ Unproved ∷ [])) (over 13 5)) (first_open (spread_fact 56713727820156410577229101238628035240)) (open_part (spread_fact 56713727820156410577229101238628035240)) 8 9 refl refl;
  unproved_at_all = right spread_players (spread_report unproved_tree (over 13 5)) unproved_node (open_pair 1 None) refl refl refl refl;
  behind_unproved = wrong spread_players (spread_report unproved_tree (over 14 5)) unproved_node (open_pair 1 None) 10 7 refl refl;
  whole_wide = wrong (same_for_both (pos 0)) (same_report (pos 0) (over_plays (2 ^ 126) (2 ^ 126) [])) (first_open (over_plays (2 ^ 126) (2 ^ 126) [])) (open_part (over_plays (2 ^ 126) (2 ^ 126) [])) 8 9 refl refl;
  rest_wide = wrong (same_for_both (minus (2 ^ 30))) (same_report (minus (2 ^ 30)) (over_plays (2 ^ 96) (2 ^ 96) [])) (first_open (over_plays (2 ^ 96) (2 ^ 96) [])) (open_part (over_plays (2 ^ 96) (2 ^ 96) [])) 8 9 refl refl;
  empty_not_bounded = right rare_players rare_report (two_facts first_fact rare_fact) (two_parts 1 None first_fact rare_fact) refl refl refl refl;
  denominator_wide = wrong (same_for_both (pos 0)) (worth_nothing (all_but_one (2 ^ 126)) (2 ^ 126) open_tree) open_node open_is 5 9 refl refl;
  attacker_wide = wrong well_paid (worth_nothing (all_but_one (2 ^ 126)) (2 ^ 126) open_tree) open_node open_is 5 9 refl refl;
  not_best_not_formed = right never_taken (worth_nothing (all_but_one (2 ^ 126)) (2 ^ 126) (one_type_tree (over_plays 1 1 []) (over_plays 1 0 (mark 1 1 5 ∷ [])))) (two_facts (over_plays 1 1 []) (over_plays 1 0 (mark 1 1 5 ∷ []))) (two_parts 1 None (over_plays 1 1 []) (over_plays 1 0 (mark 1 1 5 ∷ []))) refl refl refl refl;
  prior_wide = wrong often_paid (worth_nothing (all_but_one (2 ^ 100)) (2 ^ 100) open_tree) open_node open_is 5 9 refl refl;
  pay_wide = wrong up_and_down (worth_nothing (one_first (2 ^ 97)) (1 + 2 ^ 97) open_tree) open_node open_is 5 9 refl refl;
  spread_of_one = wrong indifferent (worth_nothing one_alone 1 (Split 1 None (Closed twice_half ∷ Unproved ∷ []))) (first_open twice_half) (open_part twice_half) 7 9 refl refl;
  least_bounded = wrong rare_players (reported one_alone 1 (over 4194306 1048577) (plain_cap 2 4) (one_type_tree first_fact (over_plays (2 ^ 110) 1 (mark 1 1 (4 * 2 ^ 110) ∷ []))) (over 4194306 1048577) Optimal) (two_facts first_fact (over_plays (2 ^ 110) 1 (mark 1 1 (4 * 2 ^ 110) ∷ []))) (two_parts 1 None first_fact (over_plays (2 ^ 110) 1 (mark 1 1 (4 * 2 ^ 110) ∷ []))) 9 9 refl refl;
  targets_fit = wrong wide_targets (wide_targets_report 34028236692093846346337460743176821144) (first_open (spread_fact 34028236692093846346337460743176821144)) (open_part (spread_fact 34028236692093846346337460743176821144)) 7 6 refl refl;
  targets_past = wrong wide_targets (wide_targets_report 34028236692093846346337460743176821145) (first_open (spread_fact 34028236692093846346337460743176821145)) (open_part (spread_fact 34028236692093846346337460743176821145)) 7 9 refl refl;
}
