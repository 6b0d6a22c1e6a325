-- The worked reports, by computing.
use Rattle.std.proofs.Common.{◌≡◌, ℕ, zero, suc, ◌+◌, ◌-◌, ◌^◌, ◌%◌, Bool, true, false, true≢false, cond, List, [], ◌∷◌, map, pos, sym, ◌∙◌, ap, subst, refl, eqb, int_le, unsigned_abs, Option, Some, None}
use Rattle.std.specs.Int.{IsGcd}
use Rattle.std.specs.Prelude.{min}
use Rattle.std.proofs.lemmas.Bool.Decides.{Decides-eqb}
use Rattle.std.proofs.lemmas.Nat.Gcd.{IsGcd-from_mod, IsGcd-from_zero}
use Rattle.sg_frac.specs.Fractions.{Fraction, IsReduced}
use Rattle.sg_model.specs.Games.{Game}
use Rattle.sg_model.specs.Examples.{in_a_row, minus, neighbours, one_player, ticket, two_players, two_targets}
use Rattle.sg_tree.specs.Claims.{is_claim}
use Rattle.sg_tree.specs.declared.fact.Fact.{Fact}
use Rattle.sg_tree.specs.declared.fact.Fact.TheVariants.{Plays, Water}
use Rattle.sg_tree.specs.declared.tree.Tree.{Tree}
use Rattle.sg_tree.specs.declared.tree.Tree.TheVariants.{Unproved, Closed, Split}
use Rattle.sg_tree.specs.declared.report.Cap.{Cap}
use Rattle.sg_tree.specs.declared.report.Cause.TheVariants.{Nodes}
use Rattle.sg_tree.specs.declared.report.Ending.TheVariants.{Optimal, Gap}
use Rattle.sg_tree.specs.declared.report.Report.{Report}
use Rattle.sg_model.specs.declared.level.Level.TheVariants.{Resources, Target}
use Rattle.sg_bounds.specs.Trees.{Node, unproved, closed, split, node_of, parts_of}
use Rattle.sg_bounds.specs.Accepted.{IsAccepted}
use Rattle.sg_bounds.specs.Checking.{IsRefused}
use Rattle.sg_bounds.specs.Examples.{WorkedReports, based_report, both_dominated, both_dominated_report, cover_report, dominated, dominated_report, empty_fact, first_fact, half_dominated, half_dominated_report, late_fact, level_tree, low_players, low_report, low_water, mark, nested_report, no_target, one_alone, one_target, one_type_report, one_type_tree, open_below, open_report, open_tree, over, over_cover, over_plays, plain_cap, proved_cap, reported, row, row_report, second_fact, shared_fact, shared_report, short_fact, small_mark, spent_report, split_for_scaled, two_to_one, two_types_tree, unbased_report, water_report, weighted_fact, weighted_players, weighted_report, wide_bound, with_caps, with_tickets, with_tree}
use Rattle.sg_model.proofs.Decided.{Decides-le_z}
use Rattle.sg_bounds.proofs.Nodes.{node_of-Closed, node_of-Split, node_of-Unproved}
use Rattle.sg_bounds.proofs.Answering.{accepted_by, answer, refused_by, stops_at}

-- by so many divisions
abbrev coprime : ℕ → ℕ → ℕ → Bool
coprime zero a b = false
coprime (suc n) a b = cond (eqb b 0) (eqb a 1) (coprime n b (a % b))

gcd-by : (n a b : ℕ) → coprime n a b ≡ true → IsGcd a b 1
gcd-by zero a b e = absurd (true≢false (sym e))
gcd-by (suc n) a b e = by (eqb b 0) refl e (gcd-by n b (a % b))
  where
    by : (t : Bool) → eqb b 0 ≡ t → cond t (eqb a 1) (coprime n b (a % b)) ≡ true → (coprime n b (a % b) ≡ true → IsGcd b (a % b) 1) → IsGcd a b 1
    by true z e rest = subst (IsGcd a b) ((Decides-eqb a 1).0 e) (IsGcd-from_zero a b ((Decides-eqb b 0).0 z))
    by false z e rest = IsGcd-from_mod a b 1 (rest e)

abbrev pub reduced_test : Fraction → Bool
reduced_test f = cond (int_le (pos 1) f.den) (coprime 10 (unsigned_abs f.num) (unsigned_abs f.den)) false

pub reduced : (f : Fraction) → reduced_test f ≡ true → IsReduced f
reduced f e = by (int_le (pos 1) f.den) refl e
  where
    by : (t : Bool) → int_le (pos 1) f.den ≡ t → cond t (coprime 10 (unsigned_abs f.num) (unsigned_abs f.den)) false ≡ true → IsReduced f
    by true p e = record { positive = (Decides-le_z (pos 1) f.den).0 p; coprime = gcd-by 10 (unsigned_abs f.num) (unsigned_abs f.den) e }
    by false p e = absurd (true≢false (sym e))

-- ---- the nodes of trees

pub one_more : (t : Tree) (n : Node) (ts : List Tree) (ns : List Node) → node_of t ≡ n → map node_of ts ≡ ns → map node_of (t ∷ ts) ≡ n ∷ ns
one_more t n ts ns e f = rw (e, f) refl

pub split-nodes : (l : ℕ) (base : Option Fact) (ts : List Tree) (ns : List Node) → map node_of ts ≡ ns → node_of (Split l base ts) ≡ split l base (parts_of ns)
split-nodes l base ts ns e = node_of-Split l base ts ∙ ap (λ (ms : List Node). split l base (parts_of ms)) e

pub one_part : (l : ℕ) (base : Option Fact) (f : Fact) → node_of (Split l base (Closed f ∷ [])) ≡ split l base (parts_of (closed f ∷ []))
one_part l base f = split-nodes l base (Closed f ∷ []) (closed f ∷ []) (one_more (Closed f) (closed f) [] [] (node_of-Closed f) refl)

pub two_parts : (l : ℕ) (base : Option Fact) (f h : Fact) → node_of (Split l base (Closed f ∷ Closed h ∷ [])) ≡ split l base (parts_of (closed f ∷ closed h ∷ []))
two_parts l base f h =
    split-nodes l base (Closed f ∷ Closed h ∷ []) (closed f ∷ closed h ∷ [])
    (one_more (Closed f) (closed f) (Closed h ∷ []) (closed h ∷ []) (node_of-Closed f) (one_more (Closed h) (closed h) [] [] (node_of-Closed h) refl))

pub open_part : (f : Fact) → node_of (Split 1 None (Closed f ∷ Unproved ∷ [])) ≡ split 1 None (parts_of (closed f ∷ unproved ∷ []))
open_part f =
    split-nodes 1 None (Closed f ∷ Unproved ∷ []) (closed f ∷ unproved ∷ [])
    (one_more (Closed f) (closed f) (Unproved ∷ []) (unproved ∷ []) (node_of-Closed f) (one_more Unproved unproved [] [] node_of-Unproved refl))

pub nested_parts : (f b h j : Fact) → node_of (Split 1 None (Closed f ∷ Split 2 (Some b) (Closed h ∷ Closed j ∷ []) ∷ []))
    ≡ split 1 None (parts_of (closed f ∷ split 2 (Some b) (parts_of (closed h ∷ closed j ∷ [])) ∷ []))
nested_parts f b h j =
    let inner : Tree = Split 2 (Some b) (Closed h ∷ Closed j ∷ []) in
    let node : Node = split 2 (Some b) (parts_of (closed h ∷ closed j ∷ [])) in
    split-nodes 1 None (Closed f ∷ inner ∷ []) (closed f ∷ node ∷ [])
    (one_more (Closed f) (closed f) (inner ∷ []) (node ∷ []) (node_of-Closed f) (one_more inner node [] [] (two_parts 2 (Some b) h j) refl))

-- ---- the answers

pub right : (g : Game) (r : Report) (t : Node) → node_of r.tree ≡ t → is_claim r.tickets.tickets ≡ true → reduced_test r.value ≡ true → reduced_test r.upper ≡ true → answer g r t (stops_at g r t) ≡ None → IsAccepted g r
right g r t same claim value upper none = accepted_by g r t same (record { tickets = claim; value = reduced r.value value; upper = reduced r.upper upper }) none

pub wrong : (g : Game) (r : Report) (t : Node) → node_of r.tree ≡ t → (line reason : ℕ) → line ≡ min line (2 ^ 64 - 1) → answer g r t (stops_at g r t) ≡ Some (line, reason) → IsRefused g r line reason
wrong g r t same line reason held e = refused_by g r t same line reason line held e

-- a tree of two facts by one type, and one by two types with this last fact
abbrev pub two_facts : Fact → Fact → Node
two_facts f h = split 1 None (parts_of (closed f ∷ closed h ∷ []))

abbrev nested_facts : Fact → Node
nested_facts last = split 1 None (parts_of (closed (over_plays 1 2 []) ∷ split 2 (Some (over_plays 3 11 (mark 1 1 1 ∷ []))) (parts_of (closed (over_plays 3 16 (mark 2 2 2 ∷ [])) ∷ closed last ∷ [])) ∷ []))

nested_is : (last : Fact) → node_of (two_types_tree last) ≡ nested_facts last
nested_is last = nested_parts (over_plays 1 2 []) (over_plays 3 11 (mark 1 1 1 ∷ [])) (over_plays 3 16 (mark 2 2 2 ∷ [])) last

abbrev pub open_node : Node
open_node = split 1 None (parts_of (closed (over_plays 1 2 []) ∷ unproved ∷ []))

pub open_is : node_of open_tree ≡ open_node
open_is = open_part (over_plays 1 2 [])

-- refused with this second fact, or this first fact
second_wrong : (f : Fact) (line reason : ℕ) → line ≡ min line (2 ^ 64 - 1) → answer one_player (with_tree (one_type_tree first_fact f)) (two_facts first_fact f) (stops_at one_player (with_tree (one_type_tree first_fact f)) (two_facts first_fact f)) ≡ Some (line, reason)
    → IsRefused one_player (with_tree (one_type_tree first_fact f)) line reason
second_wrong f = wrong one_player (with_tree (one_type_tree first_fact f)) (two_facts first_fact f) (two_parts 1 None first_fact f)

first_wrong : (f : Fact) (line reason : ℕ) → line ≡ min line (2 ^ 64 - 1) → answer one_player (with_tree (one_type_tree f second_fact)) (two_facts f second_fact) (stops_at one_player (with_tree (one_type_tree f second_fact)) (two_facts f second_fact)) ≡ Some (line, reason)
    → IsRefused one_player (with_tree (one_type_tree f second_fact)) line reason
first_wrong f = wrong one_player (with_tree (one_type_tree f second_fact)) (two_facts f second_fact) (two_parts 1 None f second_fact)

-- refused with the tree that is right
head_wrong : (r : Report) → r.tree ≡ one_type_tree first_fact second_fact → (line reason : ℕ) → line ≡ min line (2 ^ 64 - 1)
    → answer one_player r (two_facts first_fact second_fact) (stops_at one_player r (two_facts first_fact second_fact)) ≡ Some (line, reason) → IsRefused one_player r line reason
head_wrong r e = wrong one_player r (two_facts first_fact second_fact) (ap node_of e ∙ two_parts 1 None first_fact second_fact)

-- refused for these caps
pub caps_wrong : (caps : List Cap) (line reason : ℕ) → line ≡ min line (2 ^ 64 - 1) → answer two_players (with_caps caps) open_node (stops_at two_players (with_caps caps) open_node) ≡ Some (line, reason)
    → IsRefused two_players (with_caps caps) line reason
caps_wrong caps = wrong two_players (with_caps caps) open_node open_is

abbrev cover_node : ℕ → ℕ → Node
cover_node n v = split 1 None (parts_of (closed (over_cover 1 3 (row n v ∷ [])) ∷ []))

cover_is : (n v : ℕ) → node_of (cover_report n v).tree ≡ cover_node n v
cover_is n v = one_part 1 None (over_cover 1 3 (row n v ∷ []))

pub three_parts : (f h j : Fact) → node_of (Split 1 None (Closed f ∷ Closed h ∷ Closed j ∷ [])) ≡ split 1 None (parts_of (closed f ∷ closed h ∷ closed j ∷ []))
three_parts f h j =
    split-nodes 1 None (Closed f ∷ Closed h ∷ Closed j ∷ []) (closed f ∷ closed h ∷ closed j ∷ [])
    (one_more (Closed f) (closed f) (Closed h ∷ Closed j ∷ []) (closed h ∷ closed j ∷ []) (node_of-Closed f)
    (one_more (Closed h) (closed h) (Closed j ∷ []) (closed j ∷ []) (node_of-Closed h) (one_more (Closed j) (closed j) [] [] (node_of-Closed j) refl)))

abbrev pub three_facts : Fact → Fact → Fact → Node
three_facts f h j = split 1 None (parts_of (closed f ∷ closed h ∷ closed j ∷ []))

abbrev row_node : Fact → Node
row_node middle = three_facts (over_plays 2 3 (mark 1 3 1 ∷ [])) middle (over_plays 2 3 (mark 1 1 1 ∷ []))

row_is : (middle : Fact) → node_of (row_report middle).tree ≡ row_node middle
row_is middle = three_parts (over_plays 2 3 (mark 1 3 1 ∷ [])) middle (over_plays 2 3 (mark 1 1 1 ∷ []))

pub open_pair : (l : ℕ) (base : Option Fact) → node_of (Split l base (Unproved ∷ Unproved ∷ [])) ≡ split l base (parts_of (unproved ∷ unproved ∷ []))
open_pair l base =
    split-nodes l base (Unproved ∷ Unproved ∷ []) (unproved ∷ unproved ∷ [])
    (one_more Unproved unproved (Unproved ∷ []) (unproved ∷ []) node_of-Unproved (one_more Unproved unproved [] [] node_of-Unproved refl))

abbrev pub below_node : Fact → ℕ → Option Fact → Node
below_node f l base = split 1 None (parts_of (closed f ∷ split l base (parts_of (unproved ∷ unproved ∷ [])) ∷ []))

pub below_is : (f : Fact) (l : ℕ) (base : Option Fact) → node_of (open_below f l base) ≡ below_node f l base
below_is f l base =
    let inner : Tree = Split l base (Unproved ∷ Unproved ∷ []) in
    let node : Node = split l base (parts_of (unproved ∷ unproved ∷ [])) in
    split-nodes 1 None (Closed f ∷ inner ∷ []) (closed f ∷ node ∷ [])
    (one_more (Closed f) (closed f) (inner ∷ []) (node ∷ []) (node_of-Closed f) (one_more inner node [] [] (open_pair l base) refl))

abbrev weighted_node : Node
weighted_node =
    split 1 None (parts_of (closed (over_plays 1 4 []) ∷ split 2 (Some weighted_fact) (parts_of (closed (over_plays 3 37 (mark 2 2 5 ∷ [])) ∷ closed (over_plays 3 55 (mark 1 1 5 ∷ [])) ∷ [])) ∷ []))

weighted_is : (v : ℕ) → node_of (weighted_report v).tree ≡ weighted_node
weighted_is v = nested_parts (over_plays 1 4 []) weighted_fact (over_plays 3 37 (mark 2 2 5 ∷ [])) (over_plays 3 55 (mark 1 1 5 ∷ []))

abbrev pub first_open : Fact → Node
first_open f = split 1 None (parts_of (closed f ∷ unproved ∷ []))

abbrev pub unproved_node : Node
unproved_node = split 1 None (parts_of (unproved ∷ unproved ∷ []))

abbrev both_dominated_node : Node
both_dominated_node =
    split 1 None (parts_of (split 2 None (parts_of (closed (over_plays 1 8 []) ∷ closed (over_plays 1 0 (mark 2 1 14 ∷ [])) ∷ [])) ∷ closed (over_plays 1 0 (mark 1 1 4 ∷ [])) ∷ []))

both_dominated_is : node_of both_dominated_report.tree ≡ both_dominated_node
both_dominated_is =
    let f = over_plays 1 8 [] in
    let h = over_plays 1 0 (mark 2 1 14 ∷ []) in
    let j = over_plays 1 0 (mark 1 1 4 ∷ []) in
    let inner : Tree = Split 2 None (Closed f ∷ Closed h ∷ []) in
    let node : Node = split 2 None (parts_of (closed f ∷ closed h ∷ [])) in
    split-nodes 1 None (inner ∷ Closed j ∷ []) (node ∷ closed j ∷ [])
    (one_more inner node (Closed j ∷ []) (closed j ∷ []) (two_parts 2 None f h) (one_more (Closed j) (closed j) [] [] (node_of-Closed j) refl))

two_and_open : (f h : Fact) → node_of (Split 1 None (Closed f ∷ Closed h ∷ Unproved ∷ [])) ≡ split 1 None (parts_of (closed f ∷ closed h ∷ unproved ∷ []))
two_and_open f h =
    split-nodes 1 None (Closed f ∷ Closed h ∷ Unproved ∷ []) (closed f ∷ closed h ∷ unproved ∷ [])
    (one_more (Closed f) (closed f) (Closed h ∷ Unproved ∷ []) (closed h ∷ unproved ∷ []) (node_of-Closed f)
    (one_more (Closed h) (closed h) (Unproved ∷ []) (unproved ∷ []) (node_of-Closed h) (one_more Unproved unproved [] [] node_of-Unproved refl)))

pub worked_reports : WorkedReports
worked_reports = record {
  water = right two_targets water_report (closed (Water (over 4 3) Resources)) (node_of-Closed (Water (over 4 3) Resources)) refl refl refl refl;
  low = wrong two_targets low_water (closed (Water (over 1 1) Resources)) (node_of-Closed (Water (over 1 1) Resources)) 6 6 refl refl;
  past_the_targets = wrong two_targets no_target (closed (Water (over 4 3) (Target 3))) (node_of-Closed (Water (over 4 3) (Target 3))) 6 6 refl refl;
  split_of_scaled = wrong two_targets split_for_scaled open_node open_is 6 5 refl refl;
  nested = right two_players nested_report (nested_facts (over_plays 3 22 (mark 1 1 2 ∷ []))) (nested_is (over_plays 3 22 (mark 1 1 2 ∷ []))) refl refl refl refl;
  small = wrong two_players small_mark (nested_facts (over_plays 3 22 (mark 1 1 1 ∷ []))) (nested_is (over_plays 3 22 (mark 1 1 1 ∷ []))) 18 6 refl refl;
  other_game = wrong one_player nested_report (nested_facts (over_plays 3 22 (mark 1 1 2 ∷ []))) (nested_is (over_plays 3 22 (mark 1 1 2 ∷ []))) 6 4 refl refl;
  opened = right two_players open_report open_node open_is refl refl refl refl;
  no_caps = caps_wrong [] 5 4 refl refl;
  low_cap = caps_wrong (plain_cap 2 3) 5 4 refl refl;
  other_type = caps_wrong (plain_cap 1 4) 5 4 refl refl;
  false_fact = caps_wrong (proved_cap 1 (over_plays 3 5 (mark 2 2 1 ∷ [])) (over_plays 1 3 [])) 8 6 refl refl;
  above_cap = caps_wrong (proved_cap 1 (over_plays 3 5 (mark 2 2 1 ∷ [])) (over_plays 1 4 [])) 5 4 refl refl;
  high_cap = right two_players (with_caps (proved_cap 5 (over_plays 3 5 (mark 2 2 1 ∷ [])) (over_plays 1 4 []))) open_node open_is refl refl refl refl;
  bound_wide = wrong two_players wide_bound (split 1 None (parts_of (closed (over_plays 1 (2 ^ 127 - 1) []) ∷ unproved ∷ []))) (open_part (over_plays 1 (2 ^ 127 - 1) [])) 8 9 refl refl;
  one_type = right one_player one_type_report (two_facts first_fact second_fact) (two_parts 1 None first_fact second_fact) refl refl refl refl;
  two_for_one = second_wrong (over_plays 3 11 (mark 1 1 2 ∷ [])) 9 6 refl refl;
  one_part = wrong one_player (with_tree (Split 1 None (Closed second_fact ∷ []))) (split 1 None (parts_of (closed second_fact ∷ []))) (one_part 1 None second_fact) 6 5 refl refl;
  not_legal = head_wrong (with_tickets (ticket 2 (1 ∷ []) ∷ ticket 1 (3 ∷ []) ∷ []) 3) refl 4 1 refl refl;
  other_total = head_wrong (with_tickets two_to_one 4) refl 2 2 refl refl;
  not_lowest = head_wrong (with_tickets (ticket 4 (1 ∷ []) ∷ ticket 2 (2 ∷ []) ∷ []) 6) refl 2 2 refl refl;
  total_wide = head_wrong (with_tickets (ticket (2 ^ 126) (1 ∷ []) ∷ ticket (2 ^ 126) (2 ∷ []) ∷ []) 3) refl 2 9 refl refl;
  sum_wide = head_wrong (with_tickets (ticket (2 ^ 126) (1 ∷ []) ∷ ticket 1 (2 ∷ []) ∷ []) (1 + 2 ^ 126)) refl 5 9 refl refl;
  other_value = head_wrong (reported two_to_one 3 (over 4 1) [] (one_type_tree first_fact second_fact) (over 11 3) Optimal) refl 5 3 refl refl;
  size_wide = second_wrong (over_plays (2 ^ 127 - 1) 11 (mark 1 1 1 ∷ [])) 9 9 refl refl;
  own_action = second_wrong (over_plays 3 11 (mark 1 2 1 ∷ [])) 9 6 refl refl;
  low_mu = second_wrong (over_plays 3 10 (mark 1 1 1 ∷ [])) 9 6 refl refl;
  level_in_tree = first_wrong (Water (over 4 3) Resources) 8 6 refl refl;
  cover_of_rows = first_wrong (over_cover 1 2 []) 8 6 refl refl;
  base_of_root = wrong one_player (with_tree (Split 1 (Some first_fact) (Closed first_fact ∷ Closed second_fact ∷ []))) (split 1 (Some first_fact) (parts_of (closed first_fact ∷ closed second_fact ∷ []))) (two_parts 1 (Some first_fact) first_fact second_fact) 6 5 refl refl;
  level_as_root = wrong one_player (with_tree (level_tree 4 3)) (closed (Water (over 4 3) Resources)) (node_of-Closed (Water (over 4 3) Resources)) 6 5 refl refl;
  high_upper = head_wrong (reported two_to_one 3 (over 11 3) [] (one_type_tree first_fact second_fact) (over 4 1) Optimal) refl 11 7 refl refl;
  no_gap = head_wrong (reported two_to_one 3 (over 11 3) [] (one_type_tree first_fact second_fact) (over 11 3) (Gap (Nodes 5))) refl 12 8 refl refl;
  spent = right one_player spent_report open_node open_is refl refl refl refl;
  covered = right one_target (cover_report 3 2) (cover_node 3 2) (cover_is 3 2) refl refl refl refl;
  less_covered = wrong one_target (cover_report 3 1) (cover_node 3 1) (cover_is 3 1) 7 6 refl refl;
  shared = right neighbours (shared_report shared_fact) (three_facts shared_fact shared_fact shared_fact) (three_parts shared_fact shared_fact shared_fact) refl refl refl refl;
  short = wrong neighbours (shared_report short_fact) (three_facts short_fact short_fact short_fact) (three_parts short_fact short_fact short_fact) 9 6 refl refl;
  late = wrong neighbours (shared_report late_fact) (three_facts late_fact late_fact late_fact) (three_parts late_fact late_fact late_fact) 9 6 refl refl;
  in_row = right in_a_row (row_report (over_plays 2 3 (mark 1 1 1 ∷ mark 1 3 1 ∷ []))) (row_node (over_plays 2 3 (mark 1 1 1 ∷ mark 1 3 1 ∷ []))) (row_is (over_plays 2 3 (mark 1 1 1 ∷ mark 1 3 1 ∷ []))) refl refl refl refl;
  one_mark = wrong in_a_row (row_report (over_plays 2 3 (mark 1 1 1 ∷ []))) (row_node (over_plays 2 3 (mark 1 1 1 ∷ []))) (row_is (over_plays 2 3 (mark 1 1 1 ∷ []))) 10 6 refl refl;
  weighted = right weighted_players (weighted_report 3) weighted_node (weighted_is 3) refl refl refl refl;
  weighted_low = wrong weighted_players (weighted_report 2) weighted_node (weighted_is 2) 6 4 refl refl;
  based = right weighted_players based_report (below_node (over_plays 1 4 []) 2 (Some weighted_fact)) (below_is (over_plays 1 4 []) 2 (Some weighted_fact)) refl refl refl refl;
  unbased = right two_players (unbased_report 2) (below_node (over_plays 1 2 []) 2 None) (below_is (over_plays 1 2 []) 2 None) refl refl refl refl;
  other_split = wrong two_players (unbased_report 1) (below_node (over_plays 1 2 []) 1 None) (below_is (over_plays 1 2 []) 1 None) 9 5 refl refl;
  empty = right dominated dominated_report (two_facts first_fact empty_fact) (two_parts 1 None first_fact empty_fact) refl refl refl refl;
  empty_base = right half_dominated half_dominated_report (below_node (over_plays 1 2 []) 2 (Some empty_fact)) (below_is (over_plays 1 2 []) 2 (Some empty_fact)) refl refl refl refl;
  own_mark = first_wrong (over_plays 1 2 (mark 1 1 1 ∷ [])) 8 6 refl refl;
  no_multiplier = first_wrong (over_plays 1 2 (mark 1 2 0 ∷ [])) 8 6 refl refl;
  no_rho = first_wrong (over_plays 0 2 []) 8 6 refl refl;
  below_empty = wrong dominated (reported one_alone 1 (over 2 1) [] (one_type_tree first_fact (Plays (pos 1) (minus 1) (mark 1 1 5 ∷ []))) (over 2 1) Optimal) (two_facts first_fact (Plays (pos 1) (minus 1) (mark 1 1 5 ∷ []))) (two_parts 1 None first_fact (Plays (pos 1) (minus 1) (mark 1 1 5 ∷ []))) 8 6 refl refl;
  no_row_multiplier = wrong one_target (reported one_alone 1 (over 1 1) [] (Split 1 None (Closed (over_cover 1 3 (row 3 2 ∷ row 2 0 ∷ [])) ∷ [])) (over 1 1) Optimal) (split 1 None (parts_of (closed (over_cover 1 3 (row 3 2 ∷ row 2 0 ∷ [])) ∷ []))) (one_part 1 None (over_cover 1 3 (row 3 2 ∷ row 2 0 ∷ []))) 7 6 refl refl;
  behind_level = wrong two_targets (reported two_to_one 3 (over 2 3) [] (level_tree 4 3) (over 1 1) Optimal) (closed (Water (over 4 3) Resources)) (node_of-Closed (Water (over 4 3) Resources)) 7 7 refl refl;
  empty_above = right both_dominated both_dominated_report both_dominated_node both_dominated_is refl refl refl refl;
  high_plain = caps_wrong (plain_cap 2 5) 5 4 refl refl;
  three_facts_for_two = caps_wrong (record { l = 2; v = pos 5; proof = over_plays 3 5 (mark 2 2 1 ∷ []) ∷ over_plays 1 4 [] ∷ over_plays 1 4 [] ∷ [] } ∷ []) 5 4 refl refl;
  three_for_two = wrong one_player (with_tree (Split 1 None (Closed first_fact ∷ Closed second_fact ∷ Unproved ∷ []))) (split 1 None (parts_of (closed first_fact ∷ closed second_fact ∷ unproved ∷ []))) (two_and_open first_fact second_fact) 6 5 refl refl;
  low_upper = wrong one_player (reported one_alone 1 (over 2 1) [] open_tree (over 2 1) Optimal) open_node open_is 9 7 refl refl;
  least_bound = right low_players low_report (two_facts (over_plays 1 1 []) (over_plays 1 1 [])) (two_parts 1 None (over_plays 1 1 []) (over_plays 1 1 [])) refl refl refl refl;
}
