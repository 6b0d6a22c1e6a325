-- Small reports whose tests can be worked out by hand.
use Rattle.std.specs.Prelude.{ℕ, ◌+◌, ◌-◌, ◌^◌, List, [], ◌∷◌, ℤ, pos, codes, Option, Some, None}
use Rattle.sg_frac.specs.Fractions.{Fraction}
use Rattle.sg_model.specs.declared.level.Level.TheVariants.{Resources, Target}
use Rattle.sg_model.specs.declared.ticket.Ticket.{Ticket}
use Rattle.sg_model.specs.Games.{Attacker, Game}
use Rattle.sg_model.specs.Examples.{in_a_row, leads, minus, neighbour_tickets, neighbours, one_player, patrolled, pays, player, row_tickets, tabled, ticket, two_players, two_targets}
use Rattle.sg_tree.specs.declared.fact.Mark.{Mark}
use Rattle.sg_tree.specs.declared.fact.Line.{Line}
use Rattle.sg_tree.specs.declared.fact.Fact.{Fact}
use Rattle.sg_tree.specs.declared.fact.Fact.TheVariants.{Plays, Cover, Water}
use Rattle.sg_tree.specs.declared.tree.Tree.{Tree}
use Rattle.sg_tree.specs.declared.tree.Tree.TheVariants.{Unproved, Closed, Split}
use Rattle.sg_tree.specs.declared.report.Cap.{Cap}
use Rattle.sg_tree.specs.declared.report.Cause.TheVariants.{Nodes, Pivots}
use Rattle.sg_tree.specs.declared.report.Ending.{Ending}
use Rattle.sg_tree.specs.declared.report.Ending.TheVariants.{Optimal, Gap}
use Rattle.sg_tree.specs.declared.report.Report.{Report}
use Rattle.sg_bounds.specs.Accepted.{IsAccepted}
use Rattle.sg_bounds.specs.Checking.{IsRefused}

-- a fraction of whole numbers
abbrev pub over : ℕ → ℕ → Fraction
over a b = record { num = pos a; den = pos b }

-- the multiplier of an action of a type
abbrev pub mark : ℕ → ℕ → ℕ → Mark
mark l a v = record { l = l; a = a; v = pos v }

-- the multiplier of a row
abbrev pub row : ℕ → ℕ → Line
row n v = record { row = n; v = pos v }

-- a fact over plays
abbrev pub over_plays : ℕ → ℕ → List Mark → Fact
over_plays rho mu marks = Plays (pos rho) (pos mu) marks

-- a fact over the coverage table
abbrev pub over_cover : ℕ → ℕ → List Line → Fact
over_cover rho mu lines = Cover (pos rho) (pos mu) lines

-- a report
abbrev pub reported : List Ticket → ℕ → Fraction → List Cap → Tree → Fraction → Ending → Report
reported tickets total value caps tree upper ending = record {
  tickets = record { tickets = tickets; total = pos total };
  value = value;
  caps = caps;
  tree = tree;
  upper = upper;
  ending = ending;
}

-- the first choice on two tickets of three
abbrev pub two_to_one : List Ticket
two_to_one = ticket 2 (1 ∷ []) ∷ ticket 1 (2 ∷ []) ∷ []

-- the first choice always
abbrev pub one_alone : List Ticket
one_alone = ticket 1 (1 ∷ []) ∷ []

-- ---- a water level

-- a water level, for which the patrols are spent
abbrev pub level_tree : ℕ → ℕ → Tree
level_tree num den = Closed (Water (over num den) Resources)

-- a water level of two targets
abbrev pub water_report : Report
water_report = reported two_to_one 3 (over 2 3) [] (level_tree 4 3) (over 2 3) Optimal

-- a level that the patrols don't spend all at
abbrev pub low_water : Report
low_water = reported two_to_one 3 (over 2 3) [] (level_tree 1 1) (over 2 3) Optimal

-- a target that isn't there
abbrev pub no_target : Report
no_target = reported two_to_one 3 (over 2 3) [] (Closed (Water (over 4 3) (Target 3))) (over 2 3) Optimal

-- a split, where a level is asked
abbrev pub split_for_scaled : Report
split_for_scaled = reported two_to_one 3 (over 2 3) [] (Split 1 None (Closed (over_plays 1 2 []) ∷ Unproved ∷ [])) (over 2 3) Optimal

-- ---- two types

-- a cap of the second type with a fact for each of its actions
abbrev pub two_caps : List Cap
two_caps = record { l = 2; v = pos 4; proof = over_plays 3 5 (mark 2 2 1 ∷ []) ∷ over_plays 1 4 [] ∷ [] } ∷ []

-- the second action of the first type is split by the second type, whose second part has this fact
abbrev pub two_types_tree : Fact → Tree
two_types_tree last =
    Split 1 None (Closed (over_plays 1 2 []) ∷ Split 2 (Some (over_plays 3 11 (mark 1 1 1 ∷ []))) (Closed (over_plays 3 16 (mark 2 2 2 ∷ [])) ∷ Closed last ∷ []) ∷ [])

-- the first choice on two tickets of three, worth 11 / 3
abbrev pub two_types_report : List Cap → Tree → Report
two_types_report caps tree = reported two_to_one 3 (over 11 3) caps tree (over 11 3) Optimal

-- both parts proved
abbrev pub nested_report : Report
nested_report = two_types_report two_caps (two_types_tree (over_plays 3 22 (mark 1 1 2 ∷ [])))

-- a multiplier that is too small
abbrev pub small_mark : Report
small_mark = two_types_report two_caps (two_types_tree (over_plays 3 22 (mark 1 1 1 ∷ [])))

-- the second part has no fact
abbrev pub open_tree : Tree
open_tree = Split 1 None (Closed (over_plays 1 2 []) ∷ Unproved ∷ [])

-- a plain cap
abbrev pub plain_cap : ℕ → ℕ → List Cap
plain_cap l v = record { l = l; v = pos v; proof = [] } ∷ []

-- one node was worked: the value is 3 and the upper bound 4
abbrev pub open_report : Report
open_report = reported one_alone 1 (over 3 1) (plain_cap 2 4) open_tree (over 4 1) (Gap (Nodes 1))

-- the same with other caps
abbrev pub with_caps : List Cap → Report
with_caps caps = reported one_alone 1 (over 3 1) caps open_tree (over 4 1) (Gap (Nodes 1))

-- a proved cap by these two facts
abbrev pub proved_cap : ℕ → Fact → Fact → List Cap
proved_cap v first second = record { l = 2; v = pos v; proof = first ∷ second ∷ [] } ∷ []

-- a bound that doesn't fit: the multiplier of the whole, and the cap of the open type
abbrev pub wide_bound : Report
wide_bound = reported one_alone 1 (over 3 1) (plain_cap 2 4) (Split 1 None (Closed (over_plays 1 (2 ^ 127 - 1) []) ∷ Unproved ∷ [])) (over 4 1) (Gap (Nodes 1))

-- ---- one type

-- one fact for each action
abbrev pub one_type_tree : Fact → Fact → Tree
one_type_tree first second = Split 1 None (Closed first ∷ Closed second ∷ [])

-- where the first action is taken, the defender gets at most 2
abbrev pub first_fact : Fact
first_fact = over_plays 1 2 []

-- where the second is taken, at most 11 / 3
abbrev pub second_fact : Fact
second_fact = over_plays 3 11 (mark 1 1 1 ∷ [])

-- the first choice on two tickets of three, worth 11 / 3
abbrev pub one_type_report : Report
one_type_report = reported two_to_one 3 (over 11 3) [] (one_type_tree first_fact second_fact) (over 11 3) Optimal

-- the same with another tree
abbrev pub with_tree : Tree → Report
with_tree tree = reported two_to_one 3 (over 11 3) [] tree (over 11 3) Optimal

-- the same with other tickets
abbrev pub with_tickets : List Ticket → ℕ → Report
with_tickets tickets total = reported tickets total (over 11 3) [] (one_type_tree first_fact second_fact) (over 11 3) Optimal

-- a part without a fact, as one node spent its pivots
abbrev pub spent_report : Report
spent_report = reported one_alone 1 (over 2 1) [] open_tree (over 4 1) (Gap (Pivots 1 (record { first = 1; acts = 2 ∷ [] })))

-- ---- coverage

-- one target and one patrol, without a scale
abbrev pub one_target : Game
one_target = patrolled 1 (pos 0) (pays (pos 1) (minus 1) (pos 0) (pos 1) ∷ [])

-- the target is covered at most always
abbrev pub cover_report : ℕ → ℕ → Report
cover_report n v = reported one_alone 1 (over 1 1) [] (Split 1 None (Closed (over_cover 1 3 (row n v ∷ [])) ∷ [])) (over 1 1) Optimal

-- a fraction below 0
abbrev pub under : ℕ → ℕ → Fraction
under a b = record { num = minus a; den = pos b }

-- three targets, of which both resources may take the second: for each target that is attacked, this fact
abbrev pub shared_report : Fact → Report
shared_report f = reported neighbour_tickets 3 (under 1 3) [] (Split 1 None (Closed f ∷ Closed f ∷ Closed f ∷ [])) (under 1 3) Optimal

-- each resource once, each covered target once, and each other target once
abbrev pub shared_fact : Fact
shared_fact = over_cover 3 5 (row 1 1 ∷ row 2 1 ∷ row 3 1 ∷ row 4 1 ∷ row 5 1 ∷ row 9 1 ∷ row 10 1 ∷ [])

-- the same without one of the other targets
abbrev pub short_fact : Fact
short_fact = over_cover 3 5 (row 1 1 ∷ row 2 1 ∷ row 3 1 ∷ row 4 1 ∷ row 5 1 ∷ row 10 1 ∷ [])

-- a row past the last
abbrev pub late_fact : Fact
late_fact = over_cover 3 5 (row 1 1 ∷ row 2 1 ∷ row 3 1 ∷ row 4 1 ∷ row 5 1 ∷ row 9 1 ∷ row 10 1 ∷ row 11 1 ∷ [])

-- ---- plays of a schedule of two targets

-- three targets in a row: facts for the first, the second and the third
abbrev pub row_report : Fact → Report
row_report middle = reported row_tickets 2 (under 1 2) [] (Split 1 None (Closed (over_plays 2 3 (mark 1 3 1 ∷ [])) ∷ Closed middle ∷ Closed (over_plays 2 3 (mark 1 1 1 ∷ [])) ∷ [])) (under 1 2) Optimal

-- ---- priors, shifts and bases

-- a type that comes this often
abbrev pub weighing : ℕ → Attacker → Attacker
weighing often x = record x { prior = pos often }

-- what the defender gets in the tables, at least 0, so that the shift is 1
abbrev pub low_leads : List (List ℤ)
low_leads = (pos 1 ∷ pos 3 ∷ []) ∷ (pos 0 ∷ pos 2 ∷ []) ∷ []

-- the first type comes on two of five days, and the second, which answers the other way round, on three
abbrev pub weighted_players : Game
weighted_players =
    tabled (weighing 2 (player (codes "first") low_leads ((pos 1 ∷ pos 0 ∷ []) ∷ (pos 0 ∷ pos 2 ∷ []) ∷ []))
    ∷ weighing 3 (player (codes "second") low_leads ((pos 0 ∷ pos 1 ∷ []) ∷ (pos 2 ∷ pos 0 ∷ []) ∷ [])) ∷ [])

-- where the first type takes its second action
abbrev pub weighted_fact : Fact
weighted_fact = over_plays 3 22 (mark 1 1 2 ∷ [])

-- a cap of the second type with a fact for each of its actions, the second of which is within 3
abbrev pub weighted_caps : ℕ → List Cap
weighted_caps v = proved_cap v (over_plays 1 5 (mark 2 2 1 ∷ [])) (over_plays 1 12 [])

-- the first choice on two tickets of three, worth 8 / 3, under bounds of 11 / 5, 22 / 15 and 8 / 3
abbrev pub weighted_report : ℕ → Report
weighted_report v =
    reported two_to_one 3 (over 8 3) (weighted_caps v)
    (Split 1 None (Closed (over_plays 1 4 []) ∷ Split 2 (Some weighted_fact) (Closed (over_plays 3 37 (mark 2 2 5 ∷ [])) ∷ Closed (over_plays 3 55 (mark 1 1 5 ∷ [])) ∷ []) ∷ []))
    (over 8 3) Optimal

-- the first action of the first type has this fact, the second is split by type l, with this base and nothing proved below it
abbrev pub open_below : Fact → ℕ → Option Fact → Tree
open_below f l base = Split 1 None (Closed f ∷ Split l base (Unproved ∷ Unproved ∷ []) ∷ [])

-- the first choice alone, worth 11 / 5: what is open has the bound of its split's base, 43 / 15
abbrev pub based_report : Report
based_report = reported one_alone 1 (over 11 5) (plain_cap 2 3) (open_below (over_plays 1 4 []) 2 (Some weighted_fact)) (over 43 15) (Gap (Nodes 2))

-- the first choice alone, worth 3: what is open below an open base has the bound of the base above, here the root's, 4
abbrev pub unbased_report : ℕ → Report
unbased_report l = reported one_alone 1 (over 3 1) (plain_cap 2 4) (open_below (over_plays 1 2 []) l None) (over 4 1) (Gap (Nodes 1))

-- the first type leaves the defender 0 whatever it does, the second 0 where the second row is played, and 3 at most
abbrev pub low_players : Game
low_players = tabled (player (codes "first") ((pos 0 ∷ pos 0 ∷ []) ∷ (pos 0 ∷ pos 0 ∷ []) ∷ []) ((pos 1 ∷ pos 0 ∷ []) ∷ (pos 0 ∷ pos 2 ∷ []) ∷ [])
    ∷ player (codes "second") low_leads ((pos 0 ∷ pos 1 ∷ []) ∷ (pos 2 ∷ pos 0 ∷ []) ∷ []) ∷ [])

-- the second choice alone, worth 0, where both actions of the first type have the least fact
abbrev pub low_report : Report
low_report = reported (ticket 1 (2 ∷ []) ∷ []) 1 (over 0 1) (plain_cap 2 3) (one_type_tree (over_plays 1 1 []) (over_plays 1 1 [])) (over 3 2) (Gap (Nodes 2))

-- ---- empty regions

-- what a type gets whose second action is never best
abbrev pub one_sided : List (List ℤ)
one_sided = (pos 1 ∷ pos 0 ∷ []) ∷ (pos 1 ∷ pos 0 ∷ []) ∷ []

-- such a type alone
abbrev pub dominated : Game
dominated = tabled (player (codes "first") leads one_sided ∷ [])

-- and with a second type
abbrev pub half_dominated : Game
half_dominated = tabled (player (codes "first") leads one_sided ∷ player (codes "second") leads ((pos 0 ∷ pos 1 ∷ []) ∷ (pos 2 ∷ pos 0 ∷ []) ∷ []) ∷ [])

-- no commitment lies where it takes its second action
abbrev pub empty_fact : Fact
empty_fact = over_plays 1 0 (mark 1 1 4 ∷ [])

-- the first choice alone, worth 2: the second part bounds nothing
abbrev pub dominated_report : Report
dominated_report = reported one_alone 1 (over 2 1) [] (one_type_tree first_fact empty_fact) (over 2 1) Optimal

-- the first choice alone, worth 3: what is open below an empty base is left out
abbrev pub half_dominated_report : Report
half_dominated_report = reported one_alone 1 (over 3 1) (plain_cap 2 4) (open_below (over_plays 1 2 []) 2 (Some empty_fact)) (over 3 1) Optimal

-- two types whose second actions are never best, though they would give the defender most
abbrev pub both_dominated : Game
both_dominated = tabled (player (codes "first") leads one_sided ∷ weighing 3 (player (codes "second") leads one_sided) ∷ [])

-- the first choice alone, worth 2: with its cap, the empty second part would have a bound of 3
abbrev pub both_dominated_report : Report
both_dominated_report =
    reported one_alone 1 (over 2 1) (plain_cap 2 4)
    (Split 1 None (Split 2 None (Closed (over_plays 1 8 []) ∷ Closed (over_plays 1 0 (mark 2 1 14 ∷ [])) ∷ []) ∷ Closed (over_plays 1 0 (mark 1 1 4 ∷ [])) ∷ [])) (over 2 1) Optimal

-- the answers, as worked out by hand
pub record WorkedReports : Type 0 where
  pub water : IsAccepted two_targets water_report
  pub low : IsRefused two_targets low_water 6 6
  pub past_the_targets : IsRefused two_targets no_target 6 6
  pub split_of_scaled : IsRefused two_targets split_for_scaled 6 5
  pub nested : IsAccepted two_players nested_report
  pub small : IsRefused two_players small_mark 18 6
  pub other_game : IsRefused one_player nested_report 6 4
  pub opened : IsAccepted two_players open_report
  pub no_caps : IsRefused two_players (with_caps []) 5 4
  pub low_cap : IsRefused two_players (with_caps (plain_cap 2 3)) 5 4
  pub other_type : IsRefused two_players (with_caps (plain_cap 1 4)) 5 4
  pub false_fact : IsRefused two_players (with_caps (proved_cap 1 (over_plays 3 5 (mark 2 2 1 ∷ [])) (over_plays 1 3 []))) 8 6
  pub above_cap : IsRefused two_players (with_caps (proved_cap 1 (over_plays 3 5 (mark 2 2 1 ∷ [])) (over_plays 1 4 []))) 5 4
  pub high_cap : IsAccepted two_players (with_caps (proved_cap 5 (over_plays 3 5 (mark 2 2 1 ∷ [])) (over_plays 1 4 [])))
  pub bound_wide : IsRefused two_players wide_bound 8 9
  pub one_type : IsAccepted one_player one_type_report
  pub two_for_one : IsRefused one_player (with_tree (one_type_tree first_fact (over_plays 3 11 (mark 1 1 2 ∷ [])))) 9 6
  pub one_part : IsRefused one_player (with_tree (Split 1 None (Closed second_fact ∷ []))) 6 5
  pub not_legal : IsRefused one_player (with_tickets (ticket 2 (1 ∷ []) ∷ ticket 1 (3 ∷ []) ∷ []) 3) 4 1
  pub other_total : IsRefused one_player (with_tickets two_to_one 4) 2 2
  pub not_lowest : IsRefused one_player (with_tickets (ticket 4 (1 ∷ []) ∷ ticket 2 (2 ∷ []) ∷ []) 6) 2 2
  pub total_wide : IsRefused one_player (with_tickets (ticket (2 ^ 126) (1 ∷ []) ∷ ticket (2 ^ 126) (2 ∷ []) ∷ []) 3) 2 9
  pub sum_wide : IsRefused one_player (with_tickets (ticket (2 ^ 126) (1 ∷ []) ∷ ticket 1 (2 ∷ []) ∷ []) (1 + 2 ^ 126)) 5 9
  pub other_value : IsRefused one_player (reported two_to_one 3 (over 4 1) [] (one_type_tree first_fact second_fact) (over 11 3) Optimal) 5 3
  pub size_wide : IsRefused one_player (with_tree (one_type_tree first_fact (over_plays (2 ^ 127 - 1) 11 (mark 1 1 1 ∷ [])))) 9 9
  pub own_action : IsRefused one_player (with_tree (one_type_tree first_fact (over_plays 3 11 (mark 1 2 1 ∷ [])))) 9 6
  pub low_mu : IsRefused one_player (with_tree (one_type_tree first_fact (over_plays 3 10 (mark 1 1 1 ∷ [])))) 9 6
  pub level_in_tree : IsRefused one_player (with_tree (one_type_tree (Water (over 4 3) Resources) second_fact)) 8 6
  pub cover_of_rows : IsRefused one_player (with_tree (one_type_tree (over_cover 1 2 []) second_fact)) 8 6
  pub base_of_root : IsRefused one_player (with_tree (Split 1 (Some first_fact) (Closed first_fact ∷ Closed second_fact ∷ []))) 6 5
  pub level_as_root : IsRefused one_player (with_tree (level_tree 4 3)) 6 5
  pub high_upper : IsRefused one_player (reported two_to_one 3 (over 11 3) [] (one_type_tree first_fact second_fact) (over 4 1) Optimal) 11 7
  pub no_gap : IsRefused one_player (reported two_to_one 3 (over 11 3) [] (one_type_tree first_fact second_fact) (over 11 3) (Gap (Nodes 5))) 12 8
  pub spent : IsAccepted one_player spent_report
  pub covered : IsAccepted one_target (cover_report 3 2)
  pub less_covered : IsRefused one_target (cover_report 3 1) 7 6
  pub shared : IsAccepted neighbours (shared_report shared_fact)
  pub short : IsRefused neighbours (shared_report short_fact) 9 6
  pub late : IsRefused neighbours (shared_report late_fact) 9 6
  pub in_row : IsAccepted in_a_row (row_report (over_plays 2 3 (mark 1 1 1 ∷ mark 1 3 1 ∷ [])))
  pub one_mark : IsRefused in_a_row (row_report (over_plays 2 3 (mark 1 1 1 ∷ []))) 10 6
  pub weighted : IsAccepted weighted_players (weighted_report 3)
  pub weighted_low : IsRefused weighted_players (weighted_report 2) 6 4
  pub based : IsAccepted weighted_players based_report
  pub unbased : IsAccepted two_players (unbased_report 2)
  pub other_split : IsRefused two_players (unbased_report 1) 9 5
  pub empty : IsAccepted dominated dominated_report
  pub empty_base : IsAccepted half_dominated half_dominated_report
  pub own_mark : IsRefused one_player (with_tree (one_type_tree (over_plays 1 2 (mark 1 1 1 ∷ [])) second_fact)) 8 6
  pub no_multiplier : IsRefused one_player (with_tree (one_type_tree (over_plays 1 2 (mark 1 2 0 ∷ [])) second_fact)) 8 6
  pub no_rho : IsRefused one_player (with_tree (one_type_tree (over_plays 0 2 []) second_fact)) 8 6
  pub below_empty : IsRefused dominated (reported one_alone 1 (over 2 1) [] (one_type_tree first_fact (Plays (pos 1) (minus 1) (mark 1 1 5 ∷ []))) (over 2 1) Optimal) 8 6
  pub no_row_multiplier : IsRefused one_target (reported one_alone 1 (over 1 1) [] (Split 1 None (Closed (over_cover 1 3 (row 3 2 ∷ row 2 0 ∷ [])) ∷ [])) (over 1 1) Optimal) 7 6
  pub behind_level : IsRefused two_targets (reported two_to_one 3 (over 2 3) [] (level_tree 4 3) (over 1 1) Optimal) 7 7
  pub empty_above : IsAccepted both_dominated both_dominated_report
  -- a plain cap above the greatest payoff, and a cap with a fact too many
  pub high_plain : IsRefused two_players (with_caps (plain_cap 2 5)) 5 4
  pub three_facts_for_two : IsRefused two_players (with_caps (record { l = 2; v = pos 5; proof = over_plays 3 5 (mark 2 2 1 ∷ []) ∷ over_plays 1 4 [] ∷ over_plays 1 4 [] ∷ [] } ∷ [])) 5 4
  -- a part too many
  pub three_for_two : IsRefused one_player (with_tree (Split 1 None (Closed first_fact ∷ Closed second_fact ∷ Unproved ∷ []))) 6 5
  -- an upper bound that is the value, and below the bound of the open part, which is 4
  pub low_upper : IsRefused one_player (reported one_alone 1 (over 2 1) [] open_tree (over 2 1) Optimal) 9 7
  -- (1 + 3 - 1) / 2: where mu is 1 the region isn't empty
  pub least_bound : IsAccepted low_players low_report
