-- Reports with several types or several wrongs: how deep splits go, and which wrong is told.
use Rattle.std.specs.Prelude.{ℕ, ◌-◌, ◌^◌, List, [], ◌∷◌, ◌++◌, ℤ, pos, codes, Some, None}
use Rattle.sg_frac.specs.Fractions.{Fraction}
use Rattle.sg_model.specs.Games.{Game}
use Rattle.sg_model.specs.Examples.{leads, neighbour_tickets, neighbours, player, tabled, ticket, two_players, two_thieves}
use Rattle.sg_tree.specs.declared.fact.Fact.{Fact}
use Rattle.sg_tree.specs.declared.tree.Tree.{Tree}
use Rattle.sg_tree.specs.declared.tree.Tree.TheVariants.{Unproved, Closed, Split}
use Rattle.sg_tree.specs.declared.report.Cap.{Cap}
use Rattle.sg_tree.specs.declared.report.Cause.TheVariants.{Nodes}
use Rattle.sg_tree.specs.declared.report.Ending.TheVariants.{Optimal, Gap}
use Rattle.sg_tree.specs.declared.report.Report.{Report}
use Rattle.sg_bounds.specs.Accepted.{IsAccepted}
use Rattle.sg_bounds.specs.Checking.{IsRefused}
use Rattle.sg_bounds.specs.Examples.{low_leads, mark, one_alone, one_type_tree, open_below, open_tree, over, over_cover, over_plays, plain_cap, proved_cap, reported, row, second_fact, shared_fact, short_fact, two_caps, two_types_report, under, weighing, with_caps}

-- ---- three types

-- what the type gets that answers the first row by its first action, and what the one gets that answers it by its second
abbrev pub straight : List (List ℤ)
straight = (pos 1 ∷ pos 0 ∷ []) ∷ (pos 0 ∷ pos 2 ∷ []) ∷ []

abbrev pub crossed : List (List ℤ)
crossed = (pos 0 ∷ pos 1 ∷ []) ∷ (pos 2 ∷ pos 0 ∷ []) ∷ []

-- a third type that answers like the first
abbrev pub three_players : Game
three_players = tabled (player (codes "first") leads straight ∷ player (codes "second") leads crossed ∷ player (codes "third") leads straight ∷ [])

-- a cap of the third type with a fact for each of its actions
abbrev pub third_cap : Fact → Cap
third_cap last = record { l = 3; v = pos 4; proof = over_plays 1 2 [] ∷ last ∷ [] }

-- the first choice alone, worth 8 / 3, under a bound of 4
abbrev pub three_types_report : List Cap → Report
three_types_report caps = reported one_alone 1 (over 8 3) caps open_tree (over 4 1) (Gap (Nodes 1))

-- ---- two wrongs, of which the first is told

-- a base and a part below it that don't hold
abbrev pub wrong_twice : Report
wrong_twice =
    two_types_report two_caps
    (Split 1 None (Closed (over_plays 1 2 []) ∷ Split 2 (Some (over_plays 3 10 (mark 1 1 1 ∷ []))) (Closed (over_plays 3 16 (mark 2 2 2 ∷ [])) ∷ Closed (over_plays 3 22 (mark 1 1 1 ∷ [])) ∷ []) ∷ []))

-- a fact that doesn't hold, as it marks its own action
abbrev pub wrong_and_wide : Fact
wrong_and_wide = over_plays 1 (2 ^ 127 - 1) (mark 1 1 1 ∷ [])

-- its bound doesn't fit: the multiplier of the whole, and the cap of the open type
abbrev pub false_and_wide : Report
false_and_wide = reported one_alone 1 (over 3 1) (plain_cap 2 4) (Split 1 None (Closed wrong_and_wide ∷ Unproved ∷ [])) (over 4 1) (Gap (Nodes 1))

-- the fact of the second target alone is short
abbrev pub second_short : Report
second_short = reported neighbour_tickets 3 (under 1 3) [] (Split 1 None (Closed shared_fact ∷ Closed short_fact ∷ Closed shared_fact ∷ [])) (under 1 3) Optimal

-- ---- three types that are split in turn

-- types on one, two and three of six days, from whom the defender gets at most 3, 5 and 7, and at least 0
abbrev pub ranked_players : Game
ranked_players =
    tabled (player (codes "first") low_leads straight
    ∷ weighing 2 (player (codes "second") ((pos 5 ∷ pos 0 ∷ []) ∷ (pos 1 ∷ pos 2 ∷ []) ∷ []) crossed)
    ∷ weighing 3 (player (codes "third") ((pos 2 ∷ pos 7 ∷ []) ∷ (pos 6 ∷ pos 1 ∷ []) ∷ []) straight) ∷ [])

-- the second action of the first type, its first action below that and the first of the third type: facts for 2, 1, 1 and for 2, 2
abbrev pub ranked_tree : Fact → Fact → Tree
ranked_tree deepest beside =
    Split 1 None (Closed (over_plays 1 2 []) ∷ Split 2 (Some (over_plays 3 11 (mark 1 1 1 ∷ []))) (Split 3 None (Closed deepest ∷ Unproved ∷ []) ∷ Closed beside ∷ []) ∷ [])

-- the first choice alone: 1 of the first type, 0 of the second, 2 of the third, which is 7 / 6
abbrev pub ranked_report : Fact → Fact → Fraction → Report
ranked_report deepest beside upper = reported one_alone 1 (over 7 6) (plain_cap 2 5 ++ plain_cap 3 7) (ranked_tree deepest beside) upper (Gap (Nodes 9))

-- 25 and 28 by row, where the third type's other action pays it 1 less and 2 more
abbrev pub deepest_fact : ℕ → Fact
deepest_fact mu = over_plays 1 mu (mark 3 2 1 ∷ [])

-- 6 and 9 by row, where the second type's other action pays it 1 less and 2 more
abbrev pub beside_fact : Fact
beside_fact = over_plays 1 7 (mark 2 1 1 ∷ [])

-- ---- two types that attack two targets

-- the first type attacks the first target and the second type the second: by column, 26 = 52 - 2 - 3 - 8 - 5 - 2 * 1 - 3 * 2 of the whole,
-- 0 = 2 - 2, 3 - 3 and 3 - 2 - 1 at most of the choices, 8 = 3 + 8 + 5 * 1 - 4 * 2 and 15 = 2 + 5 - 4 * 1 + 6 * 2 of the targets
abbrev pub thieves_fact : ℕ → Fact
thieves_fact mu = over_cover 1 mu (row 1 2 ∷ row 2 3 ∷ row 3 3 ∷ row 4 2 ∷ row 5 8 ∷ row 6 5 ∷ row 7 1 ∷ row 8 2 ∷ [])

-- both resources at the second target, worth (2 * -5 + 3 * 3) / 5, under the bound of the fact, (mu - 6 * 5) / 5
abbrev pub thieves_report : ℕ → Fraction → Report
thieves_report mu upper =
    reported (ticket 1 (1 ∷ 2 ∷ []) ∷ []) 1 (under 1 5) (plain_cap 2 7) (Split 1 None (Split 2 None (Unproved ∷ Closed (thieves_fact mu) ∷ []) ∷ Unproved ∷ [])) upper (Gap (Nodes 3))

-- the answers, as worked out by hand
pub record WorkedOrders : Type 0 where
  pub three_types : IsAccepted three_players (three_types_report (two_caps ++ (third_cap (over_plays 3 11 (mark 3 1 1 ∷ [])) ∷ [])))
  pub third_false : IsRefused three_players (three_types_report (two_caps ++ (third_cap (over_plays 3 10 (mark 3 1 1 ∷ [])) ∷ []))) 11 6
  pub caps_exchanged : IsRefused three_players (three_types_report (plain_cap 3 4 ++ plain_cap 2 4)) 5 4
  pub base_first : IsRefused two_players wrong_twice 14 6
  pub cap_size_wide : IsRefused two_players (with_caps (proved_cap 5 (over_plays (2 ^ 127 - 1) 5 (mark 2 2 1 ∷ [])) (over_plays 1 4 []))) 6 9
  pub false_before_wide : IsRefused two_players false_and_wide 8 6
  pub short_of_second : IsRefused neighbours second_short 17 6
  -- the open base has the bound of the base above, (11 + 3 * (2 * 5 + 3 * 7 - 1)) / 18, which is less than the root's, 34 / 6;
  -- the others are (26 - 6) / 6 and (7 + 3 * 7 - 3) / 6
  pub open_below_base : IsAccepted ranked_players (ranked_report (deepest_fact 26) beside_fact (over 101 18))
  -- (41 - 6) / 6, where three types are fixed
  pub deepest : IsAccepted ranked_players (ranked_report (over_plays 1 41 []) beside_fact (over 35 6))
  -- (17 + 3 * 7 - 3) / 6, where two are fixed and one is open
  pub beside : IsAccepted ranked_players (ranked_report (deepest_fact 26) (over_plays 1 17 []) (over 35 6))
  pub deepest_false : IsRefused ranked_players (ranked_report (deepest_fact 25) beside_fact (over 101 18)) 15 6
  pub beside_false : IsRefused ranked_players (ranked_report (deepest_fact 26) (over_plays 1 6 (mark 2 1 1 ∷ [])) (over 101 18)) 18 6
  -- a missing cap is told before a fact of the tree that doesn't hold, at the line of the root
  pub cap_before_tree : IsRefused two_players (reported one_alone 1 (over 3 1) [] (one_type_tree (over_plays 1 1 []) second_fact) (over 4 1) (Gap (Nodes 1))) 5 4
  -- a split by another type before its base that doesn't hold
  pub split_before_base : IsRefused two_players (reported one_alone 1 (over 3 1) (plain_cap 2 4) (open_below (over_plays 1 2 []) 1 (Some (over_plays 3 10 (mark 1 1 1 ∷ [])))) (over 4 1) (Gap (Nodes 1))) 9 5
  -- a base whose bound doesn't fit
  pub base_wide : IsRefused two_players (reported one_alone 1 (over 3 1) (plain_cap 2 4) (open_below (over_plays 1 2 []) 2 (Some (over_plays 1 (2 ^ 127 - 1) []))) (over 4 1) (Gap (Nodes 1))) 10 9
  -- 22 / 5, which is above the root's bound, (2 * -1 + 3 * 7) / 5
  pub thieves : IsAccepted two_thieves (thieves_report 52 (over 22 5))
  pub thieves_short : IsRefused two_thieves (thieves_report 51 (over 22 5)) 11 6
