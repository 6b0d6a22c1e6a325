-- Reports whose sums come to the edge of 128 bits.
use Rattle.std.specs.Prelude.{ℕ, ◌+◌, ◌-◌, ◌*◌, ◌^◌, List, [], ◌∷◌, ℤ, pos, codes, None}
use Rattle.sg_frac.specs.Fractions.{Fraction}
use Rattle.sg_model.specs.declared.ticket.Ticket.{Ticket}
use Rattle.sg_model.specs.Games.{Game}
use Rattle.sg_model.specs.Examples.{leads, minus, one_player, patrolled, pays, player, tabled, ticket}
use Rattle.sg_tree.specs.declared.fact.Fact.{Fact}
use Rattle.sg_tree.specs.declared.tree.Tree.{Tree}
use Rattle.sg_tree.specs.declared.tree.Tree.TheVariants.{Unproved, Closed, Split}
use Rattle.sg_tree.specs.declared.report.Cause.TheVariants.{Nodes}
use Rattle.sg_tree.specs.declared.report.Ending.TheVariants.{Optimal, Gap}
use Rattle.sg_tree.specs.declared.report.Report.{Report}
use Rattle.sg_bounds.specs.Accepted.{IsAccepted}
use Rattle.sg_bounds.specs.Checking.{IsRefused}
use Rattle.sg_bounds.specs.Examples.{first_fact, mark, one_alone, one_sided, one_type_tree, open_tree, over, over_plays, plain_cap, reported, second_fact, two_to_one, under, weighing}
use Rattle.sg_bounds.specs.OrderExamples.{crossed, straight}

-- ---- sizes

-- a first fact whose size sum is 4 and twice its multiplier v, with a bound of v + 2
abbrev pub sized_report : ℕ → Report
sized_report v = reported two_to_one 3 (over 11 3) [] (one_type_tree (over_plays 1 (v + 2) (mark 1 2 v ∷ [])) second_fact) (over (v + 2) 1) (Gap (Nodes 2))

-- ---- sizes of two types

-- a type on two of five days and one on three; what the defender gets is from -1 to 3, what they get spreads over 2 and over 3
abbrev pub spread_players : Game
spread_players =
    tabled (weighing 2 (player (codes "first") ((minus 1 ∷ pos 2 ∷ []) ∷ (pos 0 ∷ pos 1 ∷ []) ∷ []) ((pos 3 ∷ pos 1 ∷ []) ∷ (pos 1 ∷ pos 2 ∷ []) ∷ []))
    ∷ weighing 3 (player (codes "second") ((pos 1 ∷ pos 0 ∷ []) ∷ (pos 3 ∷ pos 1 ∷ []) ∷ []) ((pos 5 ∷ pos 2 ∷ []) ∷ (pos 2 ∷ pos 4 ∷ []) ∷ [])) ∷ [])

-- the first choice alone, worth 1 / 5
abbrev pub spread_report : Tree → Fraction → Report
spread_report tree upper = reported one_alone 1 (over 1 5) (plain_cap 2 3) tree upper (Gap (Nodes 0))

-- a first fact that doesn't hold, whose size sum is 10 and three times its multiplier
abbrev pub spread_fact : ℕ → Fact
spread_fact v = over_plays 1 0 (mark 1 2 v ∷ [])

-- nothing is proved: the bound is that of the greatest payoffs, 2 on two days and 3 on three
abbrev pub unproved_tree : Tree
unproved_tree = Split 1 None (Unproved ∷ Unproved ∷ [])

-- ---- each number under a bound, and under a value

-- this payoff, whatever is played
abbrev pub always : ℤ → List (List ℤ)
always z = (z ∷ z ∷ []) ∷ (z ∷ z ∷ []) ∷ []

-- two types against which the defender gets always the same
abbrev pub same_for_both : ℤ → Game
same_for_both z = tabled (player (codes "first") (always z) straight ∷ player (codes "second") (always z) crossed ∷ [])

-- a first fact on the first choice alone, worth z for each type, with a plain cap
abbrev pub same_report : ℤ → Fact → Report
same_report z f = reported one_alone 1 (record { num = z; den = pos 1 }) (record { l = 2; v = z; proof = [] } ∷ []) (Split 1 None (Closed f ∷ Unproved ∷ [])) (record { num = z; den = pos 1 }) Optimal

-- a rare type with an action that is never best, and a second type that comes 2^20 times as often
abbrev pub rare_players : Game
rare_players = tabled (player (codes "first") leads one_sided ∷ weighing (2 ^ 20) (player (codes "second") leads crossed) ∷ [])

-- the second part is empty: the number that would be its bound isn't formed
abbrev pub rare_fact : Fact
rare_fact = over_plays (2 ^ 110) 0 (mark 1 1 (4 * 2 ^ 110) ∷ [])

-- the first choice alone, worth 2 and 2^20 times 4
abbrev pub rare_report : Report
rare_report = reported one_alone 1 (over 4194306 1048577) (plain_cap 2 4) (one_type_tree first_fact rare_fact) (over 4194306 1048577) Optimal

-- the first choice on all tickets but one
abbrev pub all_but_one : ℕ → List Ticket
all_but_one total = ticket (total - 1) (1 ∷ []) ∷ ticket 1 (2 ∷ []) ∷ []

-- such tickets with a value of 0
abbrev pub worth_nothing : List Ticket → ℕ → Tree → Report
worth_nothing tickets total tree = reported tickets total (over 0 1) [] tree (over 0 1) Optimal

-- one type, from which the defender always gets 0, and which gets 4 of either row
abbrev pub well_paid : Game
well_paid = tabled (player (codes "first") (always (pos 0)) ((pos 4 ∷ pos 0 ∷ []) ∷ (pos 0 ∷ pos 4 ∷ []) ∷ []) ∷ [])

-- one type whose second action gives the defender 4, and is never best
abbrev pub never_taken : Game
never_taken = tabled (player (codes "first") ((pos 0 ∷ pos 4 ∷ []) ∷ (pos 0 ∷ pos 4 ∷ []) ∷ []) one_sided ∷ [])

-- 1 less of the first type, and 128 of the second, which comes 2^20 times as often
abbrev pub often_paid : Game
often_paid = tabled (player (codes "first") (always (minus 1)) straight ∷ weighing (2 ^ 20) (player (codes "second") (always (pos 128)) crossed) ∷ [])

-- one type: the first row costs 2^30, and the second gives as much
abbrev pub up_and_down : Game
up_and_down = tabled (player (codes "first") ((minus (2 ^ 30) ∷ minus (2 ^ 30) ∷ []) ∷ (pos (2 ^ 30) ∷ pos (2 ^ 30) ∷ []) ∷ []) straight ∷ [])

-- one type, to which both actions are the same
abbrev pub indifferent : Game
indifferent = tabled (player (codes "first") (always (pos 0)) (always (pos 1)) ∷ [])

-- a fact whose size sum is 2^126 twice, as an attacker's payoffs count as spread over 1 at least
abbrev pub twice_half : Fact
twice_half = over_plays (2 ^ 126) (2 ^ 126) (mark 1 2 (2 ^ 126) ∷ [])

-- the second row on all tickets but one
abbrev pub one_first : ℕ → List Ticket
one_first weight = ticket 1 (1 ∷ []) ∷ ticket weight (2 ∷ []) ∷ []

-- two targets, of which the attacker gets from -2 to 3, and the defender from -1 to 1
abbrev pub wide_targets : Game
wide_targets = patrolled 1 (pos 0) (pays (pos 1) (minus 1) (pos 0) (pos 3) ∷ pays (pos 1) (minus 1) (minus 2) (pos 1) ∷ [])

-- the first target always, and a first fact that doesn't hold, whose size sum is 3 and five times its multiplier
abbrev pub wide_targets_report : ℕ → Report
wide_targets_report v = reported one_alone 1 (under 1 1) [] (Split 1 None (Closed (spread_fact v) ∷ Unproved ∷ [])) (over 1 1) (Gap (Nodes 0))

-- the answers, as worked out by hand
pub record WorkedSizes : Type 0 where
  pub size_fits : IsAccepted one_player (sized_report (2 ^ 126 - 3))
  pub size_past : IsRefused one_player (sized_report (2 ^ 126 - 2)) 8 9
  pub spread_fits : IsRefused spread_players (spread_report (Split 1 None (Closed (spread_fact 56713727820156410577229101238628035239) ∷ Unproved ∷ [])) (over 13 5)) 8 6
  pub spread_past : IsRefused spread_players (spread_report (Split 1 None (Closed (spread_fact 56713727820156410577229101238628035240) ∷ Unproved ∷ [])) (over 13 5)) 8 9
  pub unproved_at_all : IsAccepted spread_players (spread_report unproved_tree (over 13 5))
  pub behind_unproved : IsRefused spread_players (spread_report unproved_tree (over 14 5)) 10 7
  pub whole_wide : IsRefused (same_for_both (pos 0)) (same_report (pos 0) (over_plays (2 ^ 126) (2 ^ 126) [])) 8 9
  pub rest_wide : IsRefused (same_for_both (minus (2 ^ 30))) (same_report (minus (2 ^ 30)) (over_plays (2 ^ 96) (2 ^ 96) [])) 8 9
  pub empty_not_bounded : IsAccepted rare_players rare_report
  pub denominator_wide : IsRefused (same_for_both (pos 0)) (worth_nothing (all_but_one (2 ^ 126)) (2 ^ 126) open_tree) 5 9
  pub attacker_wide : IsRefused well_paid (worth_nothing (all_but_one (2 ^ 126)) (2 ^ 126) open_tree) 5 9
  pub not_best_not_formed : IsAccepted never_taken (worth_nothing (all_but_one (2 ^ 126)) (2 ^ 126) (one_type_tree (over_plays 1 1 []) (over_plays 1 0 (mark 1 1 5 ∷ []))))
  pub prior_wide : IsRefused often_paid (worth_nothing (all_but_one (2 ^ 100)) (2 ^ 100) open_tree) 5 9
  pub pay_wide : IsRefused up_and_down (worth_nothing (one_first (2 ^ 97)) (1 + 2 ^ 97) open_tree) 5 9
  pub spread_of_one : IsRefused indifferent (worth_nothing one_alone 1 (Split 1 None (Closed twice_half ∷ Unproved ∷ []))) 7 9
  -- where mu is 1 the bound is formed: 2^110 times 2^20 times 4 doesn't fit
  pub least_bounded : IsRefused rare_players (reported one_alone 1 (over 4194306 1048577) (plain_cap 2 4) (one_type_tree first_fact (over_plays (2 ^ 110) 1 (mark 1 1 (4 * 2 ^ 110) ∷ []))) (over 4194306 1048577) Optimal) 9 9
  -- 5 * 34028236692093846346337460743176821144 + 3 is 5 less than 2^127
  pub targets_fit : IsRefused wide_targets (wide_targets_report 34028236692093846346337460743176821144) 7 6
  pub targets_past : IsRefused wide_targets (wide_targets_report 34028236692093846346337460743176821145) 7 9
