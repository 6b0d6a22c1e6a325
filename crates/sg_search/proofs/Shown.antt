-- The worked searches, by computing.
use Rattle.std.proofs.Common.{◌≡◌, ◌⊎◌, ℕ, zero, suc, ◌+◌, ◌≤◌, ◌<◌, Bool, true, false, true≢false, List, [], ◌∷◌, ◌++◌, length, sym, ◌∙◌, ap, subst, refl, arith, Option, Some, None, inl, inr, ⊎_elim, Contains, All, AllPairs, ◌&&◌, get_or}
use Rattle.std.specs.List.{list_all}
use Rattle.std.proofs.lemmas.Bool.{and_parts}
use Rattle.std.proofs.lemmas.List.Elements.{All-contains, All-cons, All-nil, Contains-push, Contains-push_cases}
use Rattle.sg_model.specs.Games.{action_count}
use Rattle.sg_model.specs.Examples.{two_players}
use Rattle.sg_commit.specs.Committed.{Committed}
use Rattle.sg_tree.specs.declared.fact.Fact.{Fact}
use Rattle.sg_tree.specs.declared.fix.Fix.{Fix}
use Rattle.sg_tree.specs.declared.worked.Worked.{Worked}
use Rattle.sg_bounds.specs.Regions.{alone, prefix}
use Rattle.sg_bounds.specs.Examples.{mark, over_plays}
use Rattle.sg_search.specs.declared.held.Held.{Held}
use Rattle.sg_search.specs.Searches.{Search, first_search, stuck_count, taken_count, worked_count, IsPartOf, IsCapNode}
use Rattle.sg_search.specs.Bounding.{inherited, is_open, is_over}
use Rattle.sg_search.specs.Changes.{Change, takes, branches, moves, ends, works, sticks, Goes, Holds, Runs, IsFree, MayBegin, MayTake, CapsAreDone, begun}
use Rattle.sg_search.specs.declared.event.Event.{Event}
use Rattle.sg_search.specs.Events.{AreChoices, IsChoice, IsEnabled, IsOf, MayChoose, comes_first}
use Rattle.sg_search.proofs.Chosen.{choice-at, choose-take}
use Rattle.std.specs.Prelude.{slice_get}
use Rattle.sg_search.specs.Examples.{WorkedSearches, after_all, after_four, all_changes, both_rows, cap_part, first_row, four_worked, free_with, last_part, one_held, result, split_part, task, turned, worked_in}

may_begin : (splits : List (List ℕ)) (worked : List Worked) → length worked < 100 → is_open (task 1) (free_with splits worked) ≡ true → MayBegin (task 1) (free_with splits worked) 1
may_begin splits worked lt e = record { free = record { from_one = omega arith; in_range = omega arith; nothing = refl }; room = omega (arith, lt); open_yet = e }

-- the node is the part number `act` of a split
takes_part : (splits : List (List ℕ)) (worked : List Worked) (acts : List ℕ) (act : ℕ) → Contains splits acts → 1 ≤ act → act ≤ action_count two_players (length acts + 1)
    → is_over (task 1) (free_with splits worked) (inherited two_players (free_with splits worked) acts) ≡ true
    → taken_count (free_with splits worked) (prefix (acts ++ (act ∷ []))) ≡ 0
    → MayTake (task 1) (free_with splits worked) (prefix (acts ++ (act ∷ [])))
takes_part splits worked acts act at low high over fresh =
    let below : IsPartOf two_players acts (prefix (acts ++ (act ∷ []))) = record { act = act; from_one = low; in_range = high; node_is = refl } in
    record { waits = (inl (acts, at, below), fresh); worth = inl (acts, below, over) }

takes_cap : (splits : List (List ℕ)) (worked : List Worked) (act : ℕ) → 1 ≤ act → act ≤ 2
    → taken_count (free_with splits worked) (alone 2 act) ≡ 0
    → MayTake (task 1) (free_with splits worked) (alone 2 act)
takes_cap splits worked act low high fresh =
    let lone : IsCapNode two_players (alone 2 act) = record { l = 2; act = act; from_two = omega arith; type_in_range = omega arith; from_one = low; in_range = high; node_is = refl } in
    record { waits = (inr lone, fresh); worth = inr lone }

-- a node's turns and its finish
abbrev all_pairs : List Fix → Bool
all_pairs [] = true
all_pairs (x ∷ xs) = list_all (comes_first x) xs && all_pairs xs

turning : (splits : List (List ℕ)) (worked : List Worked) (turns : ℕ) (node : Fix) (fact : Fact) (point : Option Committed) (rest : List Change) (t : Search)
    → Runs (task 1) (free_with splits (worked ++ (result node fact point ∷ []))) rest t
    → Runs (task 1) (record { lanes = Some (record { node = node; ended = false }) ∷ []; splits = splits; worked = worked; stuck = [] }) (turned turns (works 1 fact point ∷ rest)) t
turning splits worked zero node fact point rest t run = (
  record { lanes = Some (record { node = node; ended = true }) ∷ []; splits = splits; worked = worked; stuck = [] },
  (node, record { from_one = omega arith; in_range = omega arith; held = refl }, refl),
  (
    free_with splits (worked ++ (result node fact point ∷ [])),
    (node, record { from_one = omega arith; in_range = omega arith; held = refl }, refl),
    run,
  ),
)
turning splits worked (suc n) node fact point rest t run = (
  record { lanes = Some (record { node = node; ended = false }) ∷ []; splits = splits; worked = worked; stuck = [] },
  (node, record { from_one = omega arith; in_range = omega arith; held = refl }, refl),
  turning splits worked n node fact point rest t run,
)

-- one node
one_node : (splits : List (List ℕ)) (worked : List Worked) (turns : ℕ) (node : Fix) (fact : Fact) (point : Option Committed) (rest : List Change) (t : Search)
    → MayBegin (task 1) (free_with splits worked) 1 → MayTake (task 1) (free_with splits worked) node
    → Runs (task 1) (free_with splits (worked ++ (result node fact point ∷ []))) rest t
    → Runs (task 1) (free_with splits worked) (worked_in turns node fact point rest) t
one_node splits worked turns node fact point rest t begin may run =
    (record { lanes = Some (record { node = node; ended = false }) ∷ []; splits = splits; worked = worked; stuck = [] }, (begin, may, refl), turning splits worked turns node fact point rest t run)

abbrev root_split : List (List ℕ)
root_split = [] ∷ []

abbrev second : List ℕ
second = 2 ∷ []

abbrev both_split : List (List ℕ)
both_split = [] ∷ second ∷ []

root_in : Contains root_split []
root_in = Contains-push [] []

second_in : Contains both_split second
second_in = Contains-push root_split second

cons≢nil : (n : ℕ) (ns : List ℕ) → (n ∷ ns) ≡ [] → ⊥
cons≢nil n ns e = let l : length (n ∷ ns) ≡ 0 = ap length e in omega (arith, l)

zero-one-two : (n : ℕ) → 1 ≤ n → n ≤ 2 → (n ≡ 1) ⊎ (n ≡ 2)
zero-one-two zero low high = absurd (omega (arith, low))
zero-one-two (suc zero) low high = inl refl
zero-one-two (suc (suc zero)) low high = inr refl
zero-one-two (suc (suc (suc n))) low high = absurd (omega (arith, high))

-- the cap nodes
cap_nodes : (node : Fix) → IsCapNode two_players node → (node ≡ alone 2 1) ⊎ (node ≡ alone 2 2)
cap_nodes node lone =
    let low = lone.from_two in
    let high = lone.type_in_range in
    let l : lone.l ≡ 2 = two lone.l low high in
    let is : node ≡ alone 2 lone.act = lone.node_is ∙ ap (λ (n : ℕ). alone n lone.act) l in
    let most : lone.act ≤ 2 = subst (λ (n : ℕ). lone.act ≤ action_count two_players n) l lone.in_range in
    ⊎_elim (λ e. inl (is ∙ ap (alone 2) e)) (λ e. inr (is ∙ ap (alone 2) e)) (zero-one-two lone.act lone.from_one most)
  where
    two : (n : ℕ) → 2 ≤ n → n ≤ 2 → n ≡ 2
    two n a b = omega (arith, a, b)

-- the parts of the root
root_parts : (acts : List ℕ) (node : Fix) → Contains root_split acts → IsPartOf two_players acts node → (node ≡ prefix (1 ∷ [])) ⊎ (node ≡ prefix (2 ∷ []))
root_parts acts node at below =
    let e : [] ≡ acts = ⊎_elim (λ old. absurd (let lt = old.1 in omega (arith, lt))) (λ new. new) (Contains-push_cases [] [] acts at) in
    by acts e below
  where
    by : (as1 : List ℕ) → [] ≡ as1 → IsPartOf two_players as1 node → (node ≡ prefix (1 ∷ [])) ⊎ (node ≡ prefix (2 ∷ []))
    by [] e q = ⊎_elim (λ e. inl (q.node_is ∙ ap (λ (n : ℕ). prefix (n ∷ [])) e)) (λ e. inr (q.node_is ∙ ap (λ (n : ℕ). prefix (n ∷ [])) e)) (zero-one-two q.act q.from_one q.in_range)
    by (a ∷ as1) e q = absurd (cons≢nil a as1 (sym e))

-- after four nodes none waits
no_take : (node : Fix) → ¬ (MayTake (task 1) after_four node)
no_take node may = ⊎_elim
    (λ below. ⊎_elim
    (λ e. taken node (prefix (1 ∷ [])) e refl may.waits.1)
    (λ e. taken node (prefix (2 ∷ [])) e refl may.waits.1)
    (root_parts below.0 node below.1 below.2))
    (λ lone. ⊎_elim
    (λ e. taken node (alone 2 1) e refl may.waits.1)
    (λ e. taken node (alone 2 2) e refl may.waits.1)
    (cap_nodes node lone))
    may.waits.0
  where
    taken : (x y : Fix) → x ≡ y → taken_count after_four y ≡ 1 → taken_count after_four x ≡ 0 → ⊥
    taken x y e one none = let q : taken_count after_four x ≡ taken_count after_four y = ap (taken_count after_four) e in omega (arith, q, one, none)

caps_done : CapsAreDone two_players after_four
caps_done node lone = ⊎_elim
    (λ e. subst (λ (x : Fix). 1 ≤ worked_count after_four x + stuck_count after_four x) (sym e) (omega arith))
    (λ e. subst (λ (x : Fix). 1 ≤ worked_count after_four x + stuck_count after_four x) (sym e) (omega arith))
    (cap_nodes node lone)

split_run : Runs (task 1) after_four split_part after_all
split_run =
    let e : List Worked = four_worked ++ (result (prefix (2 ∷ 1 ∷ [])) (over_plays 3 16 (mark 2 2 2 ∷ [])) both_rows ∷ []) in (
      record { lanes = begun (prefix (2 ∷ 1 ∷ [])) ∷ []; splits = both_split; worked = four_worked; stuck = [] },
      (may_begin root_split four_worked (omega arith) refl, no_take, caps_done, record { some = cons≢nil 2 []; worked = omega arith; unsplit = refl; short = omega arith; over = refl }, refl),
      turning both_split four_worked 2 (prefix (2 ∷ 1 ∷ [])) (over_plays 3 16 (mark 2 2 2 ∷ [])) both_rows last_part after_all
          (one_node both_split e 2 (prefix (2 ∷ 2 ∷ [])) (over_plays 3 22 (mark 1 1 2 ∷ [])) both_rows [] after_all (may_begin both_split e (omega arith) refl)
          (takes_part both_split e second 2 second_in (omega arith) (omega arith) refl refl) refl),
    )

all_run : Runs (task 1) (first_search (task 1)) all_changes after_all
all_run =
    let a : List Worked = result (prefix (1 ∷ [])) (over_plays 1 2 []) first_row ∷ [] in
    let b : List Worked = a ++ (result (prefix (2 ∷ [])) (over_plays 3 11 (mark 1 1 1 ∷ [])) both_rows ∷ []) in
    let c : List Worked = b ++ (result (alone 2 1) (over_plays 3 5 (mark 2 2 1 ∷ [])) both_rows ∷ []) in
    one_node root_split [] 1 (prefix (1 ∷ [])) (over_plays 1 2 []) first_row (worked_in 2 (prefix (2 ∷ [])) (over_plays 3 11 (mark 1 1 1 ∷ [])) both_rows cap_part) after_all (may_begin root_split [] (omega arith) refl) (takes_part root_split [] [] 1 root_in (omega arith) (omega arith) refl refl)
    (one_node root_split a 2 (prefix (2 ∷ [])) (over_plays 3 11 (mark 1 1 1 ∷ [])) both_rows cap_part after_all (may_begin root_split a (omega arith) refl) (takes_part root_split a [] 2 root_in (omega arith) (omega arith) refl refl)
    (one_node root_split b 2 (alone 2 1) (over_plays 3 5 (mark 2 2 1 ∷ [])) both_rows (worked_in 1 (alone 2 2) (over_plays 1 4 []) first_row split_part) after_all (may_begin root_split b (omega arith) refl) (takes_cap root_split b 1 (omega arith) (omega arith) refl)
    (one_node root_split c 1 (alone 2 2) (over_plays 1 4 []) first_row split_part after_all (may_begin root_split c (omega arith) refl) (takes_cap root_split c 2 (omega arith) (omega arith) refl) split_run)))

-- ---- two lanes

-- the root's parts and the cap nodes
four_nodes : (s : Search) → s.splits ≡ root_split → (node : Fix) → MayTake (task 2) s node → (node ≡ prefix (1 ∷ [])) ⊎ ((node ≡ prefix (2 ∷ [])) ⊎ ((node ≡ alone 2 1) ⊎ (node ≡ alone 2 2)))
four_nodes s e node may = ⊎_elim
    (λ below. ⊎_elim (λ q. inl q) (λ q. inr (inl q)) (root_parts below.0 node (subst (λ (l : List (List ℕ)). Contains l below.0) e below.1) below.2))
    (λ lone. inr (inr (cap_nodes node lone)))
    may.waits.0

part_is : (s : Search) (act : ℕ) → Contains s.splits [] → 1 ≤ act → act ≤ 2 → is_over (task 2) s (inherited two_players s []) ≡ true → taken_count s (prefix (act ∷ [])) ≡ 0 → MayTake (task 2) s (prefix (act ∷ []))
part_is s act at low high over fresh =
    let below : IsPartOf two_players [] (prefix (act ∷ [])) = record { act = act; from_one = low; in_range = high; node_is = refl } in
    record { waits = (inl ([], at, below), fresh); worth = inl ([], below, over) }

cap_is : (s : Search) (act : ℕ) → 1 ≤ act → act ≤ 2 → taken_count s (alone 2 act) ≡ 0 → MayTake (task 2) s (alone 2 act)
cap_is s act low high fresh =
    let lone : IsCapNode two_players (alone 2 act) = record { l = 2; act = act; from_two = omega arith; type_in_range = omega arith; from_one = low; in_range = high; node_is = refl } in
    record { waits = (inr lone, fresh); worth = inr lone }

abbrev three_list : List Fix
three_list = prefix (2 ∷ []) ∷ alone 2 1 ∷ alone 2 2 ∷ []

abbrev four_list : List Fix
four_list = prefix (1 ∷ []) ∷ three_list

-- where both hold of each pair of neighbours and beyond, a list is in order
list_all_holds : (q : Fix → Bool) (xs : List Fix) → list_all q xs ≡ true → (i : ℕ) (d : Fix) → i < length xs → q (get_or xs i d) ≡ true
list_all_holds q [] e i d lt = absurd (omega (arith, lt))
list_all_holds q (x ∷ xs) e zero d lt = (and_parts (q x) (list_all q xs) e).0
list_all_holds q (x ∷ xs) e (suc i) d lt = list_all_holds q xs (and_parts (q x) (list_all q xs) e).1 i d (omega (arith, lt))

pairs-of : (xs : List Fix) → all_pairs xs ≡ true → AllPairs (λ a b. comes_first a b ≡ true) xs
pairs-of [] e i j d low high = absurd (omega (arith, high))
pairs-of (x ∷ xs) e i zero d low high = absurd (omega (arith, low))
pairs-of (x ∷ xs) e zero (suc j) d low high = list_all_holds (comes_first x) xs (and_parts (list_all (comes_first x) xs) (all_pairs xs) e).0 j d (omega (arith, high))
pairs-of (x ∷ xs) e (suc i) (suc j) d low high = pairs-of xs (and_parts (list_all (comes_first x) xs) (all_pairs xs) e).1 i j d (omega (arith, low)) (omega (arith, high))

four_takes : AreChoices (MayTake (task 2) (first_search (task 2))) four_list
four_takes = record {
  in_order = pairs-of four_list refl;
  each = λ node. (λ at. All-contains (MayTake (task 2) (first_search (task 2))) four_list node all at, λ may. found node (four_nodes (first_search (task 2)) refl node may));
}
  where
    all : All (MayTake (task 2) (first_search (task 2))) four_list
    all = All-cons (MayTake (task 2) (first_search (task 2))) (prefix (1 ∷ [])) three_list (part_is (first_search (task 2)) 1 root_in (omega arith) (omega arith) refl refl)
        (All-cons (MayTake (task 2) (first_search (task 2))) (prefix (2 ∷ [])) (alone 2 1 ∷ alone 2 2 ∷ []) (part_is (first_search (task 2)) 2 root_in (omega arith) (omega arith) refl refl)
        (All-cons (MayTake (task 2) (first_search (task 2))) (alone 2 1) (alone 2 2 ∷ []) (cap_is (first_search (task 2)) 1 (omega arith) (omega arith) refl)
        (All-cons (MayTake (task 2) (first_search (task 2))) (alone 2 2) [] (cap_is (first_search (task 2)) 2 (omega arith) (omega arith) refl) (All-nil (MayTake (task 2) (first_search (task 2)))))))

    found : (node : Fix) → (node ≡ prefix (1 ∷ [])) ⊎ ((node ≡ prefix (2 ∷ [])) ⊎ ((node ≡ alone 2 1) ⊎ (node ≡ alone 2 2))) → Contains four_list node
    found node (inl e) = (0, omega arith, sym e)
    found node (inr (inl e)) = (1, omega arith, sym e)
    found node (inr (inr (inl e))) = (2, omega arith, sym e)
    found node (inr (inr (inr e))) = (3, omega arith, sym e)

four_choices : AreChoices (MayChoose (task 2) (first_search (task 2))) four_list
four_choices = choose-take (task 2) (first_search (task 2)) four_list four_takes (alone 2 1) (cap_is (first_search (task 2)) 1 (omega arith) (omega arith) refl)

three_takes : AreChoices (MayTake (task 2) one_held) three_list
three_takes = record {
  in_order = pairs-of three_list refl;
  each = λ node. (λ at. All-contains (MayTake (task 2) one_held) three_list node all at, λ may. found node may (four_nodes one_held refl node may));
}
  where
    all : All (MayTake (task 2) one_held) three_list
    all = All-cons (MayTake (task 2) one_held) (prefix (2 ∷ [])) (alone 2 1 ∷ alone 2 2 ∷ []) (part_is one_held 2 root_in (omega arith) (omega arith) refl refl)
        (All-cons (MayTake (task 2) one_held) (alone 2 1) (alone 2 2 ∷ []) (cap_is one_held 1 (omega arith) (omega arith) refl)
        (All-cons (MayTake (task 2) one_held) (alone 2 2) [] (cap_is one_held 2 (omega arith) (omega arith) refl) (All-nil (MayTake (task 2) one_held))))

    held-one : taken_count one_held (prefix (1 ∷ [])) ≡ 1
    held-one = refl

    found : (node : Fix) → MayTake (task 2) one_held node → (node ≡ prefix (1 ∷ [])) ⊎ ((node ≡ prefix (2 ∷ [])) ⊎ ((node ≡ alone 2 1) ⊎ (node ≡ alone 2 2))) → Contains three_list node
    found node may (inl e) = let q : taken_count one_held node ≡ 1 = ap (taken_count one_held) e ∙ held-one in let w = may.waits.1 in absurd (omega (arith, q, w))
    found node may (inr (inl e)) = (0, omega arith, sym e)
    found node may (inr (inr (inl e))) = (1, omega arith, sym e)
    found node may (inr (inr (inr e))) = (2, omega arith, sym e)

some-none : {X : Type 0} {a : X} → Some a ≡ None → ⊥
some-none h = cc

not_free : IsFree one_held 1 → ⊥
not_free free = some-none free.nothing

held-same : (a b : Held) → Some a ≡ Some b → a.ended ≡ b.ended
held-same a b e = cc

three_choices : AreChoices (MayChoose (task 2) one_held) three_list
three_choices = choose-take (task 2) one_held three_list three_takes (alone 2 1) (cap_is one_held 1 (omega arith) (omega arith) refl)

-- an event that begins a node has a free lane and one of the choices
begins : (s : Search) (lane n : ℕ) → IsEnabled (task 2) s (Event.Begin lane n) → MayBegin (task 2) s lane × ((node : Fix) × IsChoice (task 2) s n node)
begins s lane n e = by e.0 e.1 e.2 e.3
  where
    by : (c : Change) (t : Search) → IsOf (task 2) s (Event.Begin lane n) c → Goes (task 2) s c t → MayBegin (task 2) s lane × ((node : Fix) × IsChoice (task 2) s n node)
    by (takes l node) t of goes = (subst (MayBegin (task 2) s) of.0 goes.0, (node, of.1))
    by (branches l acts) t of goes = (subst (MayBegin (task 2) s) of.0 goes.0, (prefix acts, of.1))
    by (moves l) t of goes = absurd of
    by (ends l) t of goes = absurd of
    by (works l f k) t of goes = absurd of
    by (sticks l c) t of goes = absurd of

past_three : ¬ (IsEnabled (task 2) one_held (Event.Begin 2 3))
past_three e =
    let b = begins one_held 2 3 e in
    let at : slice_get three_list 3 ≡ Some b.1.0 = choice-at (task 2) one_held three_list three_choices 3 b.1.0 b.1.1 in
    some-none (sym at)

nothing_turns : ¬ (IsEnabled (task 2) one_held (Event.Turn 2))
nothing_turns e = by e.0 e.1 e.2 e.3
  where
    by : (c : Change) (t : Search) → IsOf (task 2) one_held (Event.Turn 2) c → Goes (task 2) one_held c t → ⊥
    by (takes l node) t of goes = of
    by (branches l acts) t of goes = of
    by (moves l) t of goes = let h = subst (λ (k : ℕ). Holds one_held k goes.0 false) of goes.1 in some-none (sym h.held)
    by (ends l) t of goes = let h = subst (λ (k : ℕ). Holds one_held k goes.0 false) of goes.1 in some-none (sym h.held)
    by (works l f k) t of goes = of
    by (sticks l c) t of goes = of

not_ended : ¬ (IsEnabled (task 2) one_held (Event.Finish 1))
not_ended e = by e.0 e.1 e.2 e.3
  where
    by : (c : Change) (t : Search) → IsOf (task 2) one_held (Event.Finish 1) c → Goes (task 2) one_held c t → ⊥
    by (takes l node) t of goes = of
    by (branches l acts) t of goes = of
    by (moves l) t of goes = of
    by (ends l) t of goes = of
    by (works l f k) t of goes = let h = subst (λ (k : ℕ). Holds one_held k goes.0 true) of goes.1 in true≢false (sym (held-same _ _ h.held))
    by (sticks l c) t of goes = let h = subst (λ (k : ℕ). Holds one_held k goes.0 true) of goes.1 in true≢false (sym (held-same _ _ h.held))

pub worked_searches : WorkedSearches
worked_searches = record {
  runs = all_run;
  tree = refl;
  caps = refl;
  best = refl;
  meet = refl;
  plain = refl;
  still_open = refl;
  second = refl;
  first = refl;
  four = four_choices;
  three = three_choices;
  busy = λ n e. not_free (begins one_held 1 n e).0.free;
  nothing_turns = nothing_turns;
  not_ended = not_ended;
  past_three = past_three;
  no_lane = λ n. (
    λ e. let free = (begins one_held 0 n e).0.free in let low = free.from_one in omega (arith, low),
    λ e. let free = (begins one_held 3 n e).0.free in let high = free.in_range in omega (arith, high),
  );
}
