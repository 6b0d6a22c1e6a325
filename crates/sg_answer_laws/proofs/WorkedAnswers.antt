-- The worked search and its reports, by computing.
use Rattle.std.proofs.Common.{◌≡◌, ℕ, ◌^◌, true, List, [], ◌∷◌, length, ℤ, pos, ◌++◌, flat_map, ◌∙◌, refl, arith, ap, ap₂, Option, Some, None, Contains}
use Rattle.std.proofs.lemmas.List.Elements.{All-cons, All-nil}
use Rattle.std.proofs.lemmas.List.Sums.{AllPass-from_list_all}
use Rattle.std.specs.Prelude.{codes}
use Rattle.std.specs.Fmt.{digits}
use Rattle.sg_num.specs.Exact.{fits}
use Rattle.sg_model.specs.Examples.{leads, letters, player, two_players}
use Rattle.sg_model.specs.Names.{is_name}
use Rattle.sg_model.specs.Limits.{IsGame, IsMatrixType}
use Rattle.sg_model.proofs.Deciding.{count_by, names_by, names_test, range_by, table_by, table_test}
use Rattle.sg_bounds.specs.Accepted.{IsAccepted}
use Rattle.sg_tree.specs.declared.fact.Fact.{Fact}
use Rattle.sg_tree.specs.declared.tree.Tree.{Tree}
use Rattle.sg_tree.specs.declared.tree.Tree.TheVariants.{Unproved, Closed, Split}
use Rattle.sg_tree.specs.declared.report.Report.{Report}
use Rattle.sg_cert.specs.Text.{FieldRow, base_rows, cap_rows, fact_rows, head_rows, node_rows, report_text, split_row, tail_rows, text_of}
use Rattle.sg_cert.proofs.Trees.{rows_closed, rows_open, rows_split}
use Rattle.sg_bounds.specs.Examples.{mark, nested_report, one_alone, over_plays}
use Rattle.sg_bounds.proofs.Worked.{open_pair, right, unproved_node}
use Rattle.sg_tree.specs.declared.worked.Worked.{Worked}
use Rattle.sg_bounds.specs.Sizes.{value_sums}
use Rattle.sg_search.specs.declared.held.Stuck.{Stuck}
use Rattle.sg_search.specs.Results.{IsFirst}
use Rattle.sg_programs.specs.NodeTests.{ClosesNode, StopsNode, listed_plays}
use Rattle.sg_programs.proofs.ListedPlays.{listing_is_method}
use Rattle.sg_answer_laws.specs.Examples.{WorkedAnswers, start_report}

-- ---- the game

names_are : names_test (letters 2) ≡ true
unfolding is_name
names_are = refl

type_names_are : names_test (codes "first" ∷ codes "second" ∷ []) ≡ true
unfolding is_name
type_names_are = refl

-- a type with two actions, by its name and what it gets
type_is : (name : List ℕ) (follower : List (List ℤ)) → table_test 2 2 follower ≡ true → IsMatrixType 2 (player name leads follower)
type_is name follower e = record {
  prior = range_by (pos 1) (pos 1048576) (pos 1) refl;
  no_payoffs = refl;
  action_count = count_by 1 64 2 refl;
  action_names = names_by (letters 2) names_are;
  leader = table_by 2 2 leads refl;
  follower = table_by 2 2 follower e;
}

abbrev first_follower : List (List ℤ)
first_follower = (pos 1 ∷ pos 0 ∷ []) ∷ (pos 0 ∷ pos 2 ∷ []) ∷ []

abbrev second_follower : List (List ℤ)
second_follower = (pos 0 ∷ pos 1 ∷ []) ∷ (pos 2 ∷ pos 0 ∷ []) ∷ []

game_is : IsGame two_players
game_is = record {
  rows = names_by (letters 2) names_are;
  row_count = count_by 1 4096 2 refl;
  no_scale = refl;
  no_patrols = refl;
  no_schedules = refl;
  no_resources = refl;
  types = record { count = count_by 1 8 2 refl; names = names_by (codes "first" ∷ codes "second" ∷ []) type_names_are };
  each_type = All-cons (IsMatrixType 2) (player (codes "first") leads first_follower) (player (codes "second") leads second_follower ∷ []) (type_is (codes "first") first_follower refl)
      (All-cons (IsMatrixType 2) (player (codes "second") leads second_follower) [] (type_is (codes "second") second_follower refl) (All-nil (IsMatrixType 2)));
  few_rows = omega arith;
}

accepted : IsAccepted two_players start_report
accepted = right two_players start_report unproved_node (open_pair 1 None) refl refl refl refl

first_is : IsFirst two_players one_alone
first_is = record { commitment = accepted.tickets; lowest = accepted.lowest; narrow = AllPass-from_list_all fits (value_sums two_players one_alone) refl }

-- no node is in an empty list
none_in : (x : Stuck) → Contains [] x → ⊥
none_in x at = let lt = at.1 in omega (arith, lt)

past : fits (pos (2 ^ 127)) ≡ true → ⊥
past e = cc

-- ---- how long the texts are

-- a report's text, with the lines of its tree
text_by : (r : Report) (rows : List FieldRow) → node_rows r.tree ≡ rows → length (report_text r) ≡ length (text_of (head_rows r ++ (flat_map cap_rows r.caps ++ (rows ++ tail_rows r))))
text_by r rows e = ap (λ (x : List FieldRow). length (text_of (head_rows r ++ (flat_map cap_rows r.caps ++ (x ++ tail_rows r))))) e

two_rows : (l : ℕ) (base : Option Fact) (t u : Tree) (first second : List FieldRow) → node_rows t ≡ first → node_rows u ≡ second → node_rows (Split l base (t ∷ u ∷ [])) ≡ (split_row l 2 ∷ base_rows base) ++ (first ++ (second ++ []))
two_rows l base t u first second p q = rows_split l base (t ∷ u ∷ []) ∙ ap₂ (λ (x y : List FieldRow). (split_row l 2 ∷ base_rows base) ++ (x ++ (y ++ []))) p q

start_is : length (report_text start_report) ≡ 119
unfolding digits
start_is = text_by start_report ((split_row 1 2 ∷ base_rows None) ++ (base_rows None ++ (base_rows None ++ []))) (two_rows 1 None Unproved Unproved (base_rows None) (base_rows None) rows_open rows_open)

abbrev last_fact : Fact
last_fact = over_plays 3 22 (mark 1 1 2 ∷ [])

abbrev next_fact : Fact
next_fact = over_plays 3 16 (mark 2 2 2 ∷ [])

abbrev split_fact : Option Fact
split_fact = Some (over_plays 3 11 (mark 1 1 1 ∷ []))

abbrev inner_rows : List FieldRow
inner_rows = (split_row 2 2 ∷ base_rows split_fact) ++ (fact_rows next_fact ++ (fact_rows last_fact ++ []))

whole_is : length (report_text nested_report) ≡ 231
unfolding digits
whole_is =
    text_by nested_report ((split_row 1 2 ∷ base_rows None) ++ (fact_rows (over_plays 1 2 []) ++ (inner_rows ++ [])))
    (two_rows 1 None (Closed (over_plays 1 2 [])) (Split 2 split_fact (Closed next_fact ∷ Closed last_fact ∷ [])) (fact_rows (over_plays 1 2 [])) inner_rows (rows_closed (over_plays 1 2 []))
    (two_rows 2 split_fact (Closed next_fact) (Closed last_fact) (fact_rows next_fact) (fact_rows last_fact) (rows_closed next_fact) (rows_closed last_fact)))

pub worked_answers : WorkedAnswers
worked_answers = record {
  start = record {
    budget = record { some_nodes = omega arith; most_nodes = omega arith; some_pivots = omega arith; most_pivots = omega arith; some_looks = omega arith; most_looks = omega arith };
    task = record { game = game_is; unscaled = refl; nodes = refl; first = first_is; one = refl };
    method = record { pivots = refl; looks = refl; kept = λ fix node. listing_is_method two_players game_is refl fix node.is_fix 10 10 };
    reached = record {
      changes = [];
      run = refl;
      worked = All-nil (λ (w : Worked). ClosesNode two_players (listed_plays two_players 10 10) w.fix w.fact w.point);
      stuck = All-nil (λ (x : Stuck). StopsNode two_players (listed_plays two_players 10 10) x.node x.cause);
    };
    report = record { tickets = refl; total = accepted.total; value = accepted.value; value_reduced = accepted.value_reduced; caps = refl; tree = open_pair 1 None; upper = accepted.upper; upper_reduced = accepted.upper_reduced; ending = accepted.ending };
    ending = refl;
    operands = tt;
  };
  start_long = start_is;
  whole_long = whole_is;
  met = tt;
  spent = refl;
  other_number = λ e. omega (arith, e);
  none_stuck = λ e. none_in e.0 e.1.0;
  operands = (refl, refl);
  past_operands = λ e. past e.0;
}
