-- The ends of small searches, by computing.
use Rattle.std.proofs.Common.{◌≡◌, ℕ, zero, suc, ◌≤◌, Bool, true, false, true≢false, List, [], ◌∷◌, ◌++◌, length, replicate, Option, Some, None, pos, sym, ◌∙◌, ap, subst, refl, arith, inl, inr, ⊎_elim}
use Rattle.std.proofs.lemmas.Int.{ints}
use Rattle.std.proofs.lemmas.List.Elements.{All-cons, All-nil}
use Rattle.sg_num.specs.Exact.{Fits}
use Rattle.sg_frac.specs.Fractions.{Fraction}
use Rattle.sg_model.specs.Examples.{one_player}
use Rattle.sg_model.specs.Limits.{IsGame}
use Rattle.sg_model.specs.Sums.{nth}
use Rattle.sg_model.proofs.Deciding.{at_most_z}
use Rattle.sg_model.proofs.Worked.{worked}
use Rattle.sg_commit.proofs.Standing.{All-back, All-front}
use Rattle.sg_tree.specs.declared.fix.Fix.{Fix}
use Rattle.sg_tree.specs.declared.report.Cause.{Cause}
use Rattle.sg_tree.specs.declared.report.Cause.TheVariants as cause
use Rattle.sg_tree.specs.declared.tree.Tree.TheVariants.{Unproved}
use Rattle.sg_bounds.specs.Accepted.{IsAccepted, IsGreatest, IsNotAbove, IsSame, cap_sums, tree_sums}
use Rattle.sg_bounds.specs.Examples.{one_alone, over, spent_report}
use Rattle.sg_bounds.specs.Leaves.{tree_bounds_of}
use Rattle.sg_bounds.specs.Regions.{prefix}
use Rattle.sg_bounds.specs.Sizes.{value_sums, weight_sums}
use Rattle.sg_bounds.specs.Trees.{Node, node_of, parts_of, split, unproved}
use Rattle.sg_bounds.proofs.Nodes.{node_of-Unproved}
use Rattle.sg_bounds.proofs.Worked.{one_more, reduced, split-nodes, worked_reports}
use Rattle.sg_search.specs.declared.held.Held.{Held}
use Rattle.sg_search.specs.declared.held.Stuck.{Stuck}
use Rattle.sg_search.specs.Searches.{Task, Search, first_search, taken_count, IsKnown, IsPartOf}
use Rattle.sg_search.specs.Bounding.{caps_of, incumbent, is_open, is_over, inherited, tree_of}
use Rattle.sg_search.specs.Changes.{Change, Holds, IsStill, MayBegin, MaySplit, MayTake, Runs, branches, ends, moves, sticks, takes, works}
use Rattle.sg_search.specs.ReportLaws.{IsReportOf}
use Rattle.sg_search.specs.Results.{IsFirst}
use Rattle.sg_search.proofs.Listing.{either-in, none-in}
use Rattle.sg_lp.specs.Moves.{AreAbove}
use Rattle.sg_lp.specs.States.{start_of}
use Rattle.sg_simplex.specs.declared.turn.Turn.TheVariants as turn
use Rattle.sg_programs.specs.NodeTests.{StopsNode}
use Rattle.sg_programs.specs.Plays.{plays_program}
use Rattle.sg_programs.proofs.ListedPlays.{listing_is_method}
use Rattle.sg_gap_laws.specs.Examples.{WorkedEnds, both_open, both_stuck, passed_over, small_task, unseen, without_looks}

-- ---- the game and the first commitment

game : IsGame one_player
game = worked.one_type.game

accepted : IsAccepted one_player spent_report
accepted = worked_reports.spent

first : IsFirst one_player one_alone
first = record {
  commitment = accepted.tickets;
  lowest = accepted.lowest;
  narrow = All-front Fits (value_sums one_player one_alone) (cap_sums one_player 2 spent_report.caps ++ tree_sums one_player spent_report.caps [] (node_of spent_report.tree))
      (All-back Fits (weight_sums one_alone) (value_sums one_player one_alone ++ (cap_sums one_player 2 spent_report.caps ++ tree_sums one_player spent_report.caps [] (node_of spent_report.tree))) accepted.sums);
}

-- ---- where nothing may happen

none-some : {X : Type 0} {x : X} → None ≡ Some x → ⊥
none-some h = cc

not-held : (s : Search) → s.lanes ≡ None ∷ [] → (lane : ℕ) (node : Fix) (b : Bool) → Holds s lane node b → ⊥
not-held s e zero node b h = let low = h.from_one in omega (arith, low)
not-held s e (suc zero) node b h = none-some (sym (ap (λ (ls : List (Option Held)). nth ls 1 None) e) ∙ h.held)
not-held s e (suc (suc n)) node b h = let high = h.in_range in let l = ap length e in omega (arith, high, l)

still-by : (p : Task) (s : Search) → s.lanes ≡ None ∷ [] → ((lane : ℕ) (node : Fix) → MayBegin p s lane → MayTake p s node → ⊥) → ((lane : ℕ) (acts : List ℕ) → MayBegin p s lane → MaySplit p s acts → ⊥) → IsStill p s
still-by p s e no_take no_split (takes lane node) t goes = no_take lane node goes.0 goes.1
still-by p s e no_take no_split (branches lane acts) t goes = no_split lane acts goes.0 goes.3
still-by p s e no_take no_split (moves lane) t goes = not-held s e lane goes.0 false goes.1
still-by p s e no_take no_split (ends lane) t goes = not-held s e lane goes.0 false goes.1
still-by p s e no_take no_split (works lane fact point) t goes = not-held s e lane goes.0 true goes.1
still-by p s e no_take no_split (sticks lane why) t goes = not-held s e lane goes.0 true goes.1

no-room : (lane : ℕ) → MayBegin (small_task 0) (first_search (small_task 0)) lane → ⊥
no-room lane begin = let room = begin.room in omega (arith, room)

-- both nodes are stuck, so none is left to take
none-left : (node : Fix) → MayTake (small_task 10) both_stuck node → ⊥
none-left node may = by may.waits.0 may.waits.1
  where
    at-act : (act : ℕ) → 1 ≤ act → act ≤ 2 → taken_count both_stuck (prefix (act ∷ [])) ≡ 0 → ⊥
    at-act zero low high e = omega (arith, low)
    at-act (suc zero) low high e = let one : taken_count both_stuck (prefix (1 ∷ [])) ≡ 1 = refl in omega (arith, one, e)
    at-act (suc (suc zero)) low high e = let one : taken_count both_stuck (prefix (2 ∷ [])) ≡ 1 = refl in omega (arith, one, e)
    at-act (suc (suc (suc n))) low high e = omega (arith, high)

    below : (acts : List ℕ) → [] ≡ acts → IsPartOf one_player acts node → taken_count both_stuck node ≡ 0 → ⊥
    below acts e of fresh =
        let part = subst (λ (x : List ℕ). IsPartOf one_player x node) (sym e) of in
        at-act part.act part.from_one part.in_range (ap (taken_count both_stuck) (sym part.node_is) ∙ fresh)

    by : IsKnown one_player both_stuck node → taken_count both_stuck node ≡ 0 → ⊥
    by (inl part) fresh = ⊎_elim (λ e. below part.0 e part.2 fresh) (λ later. none-in later) (either-in [] [] part.0 part.1)
    by (inr lone) fresh = let low = lone.from_two in let high = lone.type_in_range in omega (arith, low, high)

-- ---- the search in which both are stuck

abbrev after : List Stuck → Search
after xs = record { lanes = None ∷ []; splits = [] ∷ []; worked = []; stuck = xs }

abbrev holding : List Stuck → Fix → Bool → Search
holding xs node ended = record { lanes = Some (record { node = node; ended = ended }) ∷ []; splits = [] ∷ []; worked = []; stuck = xs }

passes : (xs : List Stuck) (act : ℕ) → 1 ≤ act → act ≤ 2 → taken_count (after xs) (prefix (act ∷ [])) ≡ 0 → is_open (small_task 10) (after xs) ≡ true → is_over (small_task 10) (after xs) (inherited one_player (after xs) []) ≡ true
    → (rest : List Change) (t : Search) → Runs (small_task 10) (after (xs ++ (record { node = prefix (act ∷ []); cause = unseen act } ∷ []))) rest t → Runs (small_task 10) (after xs) (passed_over act rest) t
passes xs act low high fresh open_yet over rest t run =
    let of : IsPartOf one_player [] (prefix (act ∷ [])) = record { act = act; from_one = low; in_range = high; node_is = refl } in (
      holding xs (prefix (act ∷ [])) false,
      (
        record { free = record { from_one = omega arith; in_range = omega arith; nothing = refl }; room = omega arith; open_yet = open_yet },
        record { waits = (inl ([], (0, omega arith, refl), of), fresh); worth = inl ([], of, over) },
        refl,
      ),
      (
        holding xs (prefix (act ∷ [])) true,
        (prefix (act ∷ []), record { from_one = omega arith; in_range = omega arith; held = refl }, refl),
        (
          after (xs ++ (record { node = prefix (act ∷ []); cause = unseen act } ∷ [])),
          (prefix (act ∷ []), record { from_one = omega arith; in_range = omega arith; held = refl }, refl),
          run,
        ),
      ),
    )

runs : Runs (small_task 10) (first_search (small_task 10)) (passed_over 1 (passed_over 2 [])) both_stuck
runs = passes [] 1 (omega arith) (omega arith) refl refl refl (passed_over 2 []) both_stuck
    (passes (record { node = prefix (1 ∷ []); cause = unseen 1 } ∷ []) 2 (omega arith) (omega arith) refl refl refl [] both_stuck refl)

-- no look may be made at the start
stops : (act : ℕ) → StopsNode one_player without_looks (prefix (act ∷ [])) (unseen act)
stops act = record {
  moves = 0;
  state = start_of (plays_program one_player (prefix (act ∷ []))).height;
  answer = turn.LooksSpent;
  end = record {
    other = λ e. cc;
    answers = record { run = refl; cause = record { above = zeros (plays_program one_player (prefix (act ∷ []))).height; answers = refl } };
    first = λ j lt. absurd (omega (arith, lt));
  };
  says = (refl, refl, refl, refl);
}
  where
    zeros : (n : ℕ) → AreAbove (replicate n (pos 0))
    zeros zero k lt = absurd (omega (arith, lt))
    zeros (suc n) zero lt = omega (arith, ints)
    zeros (suc n) (suc k) lt = zeros n k (omega (arith, lt))

-- ---- the reports

abbrev open_node : Node
open_node = split 1 None (parts_of (unproved ∷ unproved ∷ []))

node-is : (why : Cause) → node_of (both_open why).tree ≡ open_node
node-is why = split-nodes 1 None (Unproved ∷ Unproved ∷ []) (unproved ∷ unproved ∷ []) (one_more Unproved unproved (Unproved ∷ []) (unproved ∷ []) node_of-Unproved (one_more Unproved unproved [] [] node_of-Unproved refl))

reads : (nodes : ℕ) (s : Search) (why : Cause) → incumbent (small_task nodes) s ≡ one_alone → caps_of one_player s ≡ [] → tree_of one_player s ≡ open_node → IsReportOf (small_task nodes) s (both_open why)
reads nodes s why best caps tree = record {
  tickets = sym best;
  total = refl;
  value = record { positive = at_most_z refl; same = refl };
  value_reduced = reduced (over 2 1) refl;
  caps = sym caps;
  tree = node-is why ∙ sym tree;
  upper = subst (λ (n : Node). IsGreatest (over 4 1) (over 2 1 ∷ tree_bounds_of one_player [] n)) (sym (node-is why)) greatest_is;
  upper_reduced = reduced (over 4 1) refl;
  ending = (λ e. absurd (true≢false (sym e)), λ e. absurd (apart e));
}
  where
    apart : IsSame (over 2 1) (over 4 1) → ⊥
    apart e = let q : pos 2 ≡ pos 4 = e in omega (arith, ints, q)

    greatest_is : IsGreatest (over 4 1) (over 2 1 ∷ tree_bounds_of one_player [] open_node)
    greatest_is =
        let P : Fraction → Type 0 = λ x. IsNotAbove x (over 4 1) in
        record {
          bounds = All-cons P (over 2 1) (over 4 1 ∷ over 4 1 ∷ []) (at_most_z refl) (All-cons P (over 4 1) (over 4 1 ∷ []) (at_most_z refl) (All-cons P (over 4 1) [] (at_most_z refl) (All-nil P)));
          reached = (over 4 1, (1, omega arith, refl), refl);
        }

pub worked_ends : WorkedEnds
worked_ends = record {
  at_once = record {
    game = game;
    unscaled = refl;
    about = refl;
    lanes = omega arith;
    first = first;
    changes = [];
    runs = refl;
    still = still-by (small_task 0) (first_search (small_task 0)) refl (λ lane node begin may. no-room lane begin) (λ lane acts begin may. no-room lane begin);
    methods = λ fix node. listing_is_method one_player game refl fix node.is_fix 100 0;
    closes = All-nil _;
    stops = All-nil _;
  };
  no_nodes = refl;
  spent = record { reads = reads 0 (first_search (small_task 0)) (cause.Nodes 0) refl refl refl; verdict = inr refl };
  stuck = record {
    game = game;
    unscaled = refl;
    about = refl;
    lanes = omega arith;
    first = first;
    changes = passed_over 1 (passed_over 2 []);
    runs = runs;
    still = still-by (small_task 10) both_stuck refl (λ lane node begin may. none-left node may) (λ lane acts begin may. let w = may.worked in omega (arith, w));
    methods = λ fix node. listing_is_method one_player game refl fix node.is_fix 100 0;
    closes = All-nil _;
    stops =
        let P : Stuck → Type 0 = λ x. StopsNode one_player without_looks x.node x.cause in
        All-cons P (record { node = prefix (1 ∷ []); cause = unseen 1 }) (record { node = prefix (2 ∷ []); cause = unseen 2 } ∷ []) (stops 1)
        (All-cons P (record { node = prefix (2 ∷ []); cause = unseen 2 }) [] (stops 2) (All-nil P));
  };
  ten_nodes = refl;
  first = record { reads = reads 10 both_stuck (unseen 1) refl refl refl; verdict = inr refl };
}
