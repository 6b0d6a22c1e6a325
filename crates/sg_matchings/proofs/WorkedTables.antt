-- Tables worked out by hand.
use Rattle.std.proofs.Common.{◌≡◌, ◌≢◌, ℕ, zero, suc, ◌<◌, List, [], ◌∷◌, pos, refl, arith, get_or}
use Rattle.std.specs.Prelude.{ℤ, ◌≤ℤ◌}
use Rattle.std.proofs.lemmas.Int.{ints}
use Rattle.std.proofs.lemmas.List.Elements.{All-push}
use Rattle.sg_model.specs.Sums.{total}
use Rattle.sg_matchings.specs.declared.part.Part.{Part}
use Rattle.sg_matchings.specs.Tables.{cell, IsPerfectMatching}
use Rattle.sg_matchings.specs.Decompositions.{IsMatching, cell_weight}
use Rattle.sg_matchings.specs.Laws.{DecompositionsAreWorked}

-- what holds at 0 and 1 holds below 2
below_two : (P : ℕ → Type 0) → P 0 → P 1 → (i : ℕ) → i < 2 → P i
below_two P a b zero lt = a
below_two P a b (suc zero) lt = b
below_two P a b (suc (suc i)) lt = absurd (omega (arith, lt))

abbrev mixed : List (List ℤ)
mixed = (pos 1 ∷ pos 2 ∷ []) ∷ (pos 2 ∷ pos 1 ∷ []) ∷ []

abbrev at_straight : List ℕ
at_straight = 0 ∷ 1 ∷ []

straight_is : IsPerfectMatching mixed at_straight
straight_is = record {
  each_row = refl;
  within = below_two (λ i. get_or at_straight i 0 < 2) (omega arith) (omega arith);
  positive = below_two (λ i. pos 1 ≤ℤ cell mixed i (get_or at_straight i 0)) (omega (arith, ints)) (omega (arith, ints));
  different = λ i k before lt. below_two (λ x. i < x → get_or at_straight i 0 ≢ get_or at_straight x 0) (λ b. absurd (omega (arith, b))) (λ b. first i b) k lt before;
  each_column = below_two _ refl refl;
}
  where
    first : (i : ℕ) → i < 1 → get_or at_straight i 0 ≡ 1 → ⊥
    first zero b = λ e. absurd (omega (arith, e))
    first (suc i) b = absurd (omega (arith, b))

abbrev at_crossed : List ℕ
at_crossed = 1 ∷ 0 ∷ []

crossed_is : IsPerfectMatching mixed at_crossed
crossed_is = record {
  each_row = refl;
  within = below_two (λ i. get_or at_crossed i 0 < 2) (omega arith) (omega arith);
  positive = below_two (λ i. pos 1 ≤ℤ cell mixed i (get_or at_crossed i 0)) (omega (arith, ints)) (omega (arith, ints));
  different = λ i k before lt. below_two (λ x. i < x → get_or at_crossed i 0 ≢ get_or at_crossed x 0) (λ b. absurd (omega (arith, b))) (λ b. first i b) k lt before;
  each_column = below_two _ refl refl;
}
  where
    first : (i : ℕ) → i < 1 → get_or at_crossed i 0 ≡ 0 → ⊥
    first zero b = λ e. absurd (omega (arith, e))
    first (suc i) b = absurd (omega (arith, b))

abbrev few_counts : List (List ℤ)
few_counts = (pos 1 ∷ pos 1 ∷ []) ∷ (pos 0 ∷ pos 1 ∷ []) ∷ []

abbrev at_second : List ℕ
at_second = 1 ∷ 2 ∷ []

second_is : IsMatching few_counts 2 at_second
second_is = record {
  each_row = refl;
  positive = below_two (λ i. get_or at_second i 0 < 2 → pos 1 ≤ℤ cell few_counts i (get_or at_second i 0)) (λ l. omega (arith, ints)) (λ l. absurd (omega (arith, l)));
  different = λ i k before lt. below_two (λ x. i < x → get_or at_second i 0 < 2 → get_or at_second i 0 ≢ get_or at_second x 0) (λ b. absurd (omega (arith, b))) (λ b l e. absurd (omega (arith, l, e))) k lt before;
}

first_is : IsMatching few_counts 2 at_straight
first_is = record {
  each_row = refl;
  positive = below_two (λ i. get_or at_straight i 0 < 2 → pos 1 ≤ℤ cell few_counts i (get_or at_straight i 0)) (λ l. omega (arith, ints)) (λ l. omega (arith, ints));
  different = λ i k before lt low. below_two (λ x. i < x → get_or at_straight i 0 ≢ get_or at_straight x 0) (λ b. absurd (omega (arith, b))) (λ b. first i b) k lt before;
}
  where
    first : (i : ℕ) → i < 1 → get_or at_straight i 0 ≡ 1 → ⊥
    first zero b = λ e. absurd (omega (arith, e))
    first (suc i) b = absurd (omega (arith, b))

abbrev two_parts : List Part
two_parts = record { columns = 1 ∷ 2 ∷ []; weight = pos 1 } ∷ record { columns = 0 ∷ 1 ∷ []; weight = pos 1 } ∷ []

pub tables_worked : DecompositionsAreWorked
tables_worked = record {
  table = record {
    some_row = omega arith;
    square = below_two _ refl refl;
    nonnegative = λ i j li lj. below_two (λ x. pos 0 ≤ℤ cell mixed x j) (below_two (λ y. pos 0 ≤ℤ cell mixed 0 y) (omega (arith, ints)) (omega (arith, ints)) j lj) (below_two (λ y. pos 0 ≤ℤ cell mixed 1 y) (omega (arith, ints)) (omega (arith, ints)) j lj) i li;
    rows_sum = below_two _ refl refl;
    columns_sum = below_two _ refl refl;
  };
  straight = straight_is;
  crossed = crossed_is;
  parts = record {
    matchings = All-push (λ (x : Part). IsMatching few_counts 2 x.columns) (record { columns = 1 ∷ 2 ∷ []; weight = pos 1 } ∷ []) (record { columns = 0 ∷ 1 ∷ []; weight = pos 1 })
        (All-push (λ (x : Part). IsMatching few_counts 2 x.columns) [] (record { columns = 1 ∷ 2 ∷ []; weight = pos 1 }) (λ i x lt. absurd (omega (arith, lt))) second_is) first_is;
    positive = All-push (λ (x : Part). pos 1 ≤ℤ x.weight) (record { columns = 1 ∷ 2 ∷ []; weight = pos 1 } ∷ []) (record { columns = 0 ∷ 1 ∷ []; weight = pos 1 })
        (All-push (λ (x : Part). pos 1 ≤ℤ x.weight) [] (record { columns = 1 ∷ 2 ∷ []; weight = pos 1 }) (λ i x lt. absurd (omega (arith, lt))) (omega (arith, ints))) (omega (arith, ints));
    each_cell = λ i j li lj. below_two (λ x. total (cell_weight x j) two_parts ≡ cell few_counts x j) (below_two (λ y. total (cell_weight 0 y) two_parts ≡ cell few_counts 0 y) refl refl j lj) (below_two (λ y. total (cell_weight 1 y) two_parts ≡ cell few_counts 1 y) refl refl j lj) i li;
    whole = refl;
    few = omega (arith, ints);
  };
  no_straight = λ is. absurd (omega (arith, ints, is.positive 0 (omega arith)));
  not_twice = λ is. is.different 0 1 (omega arith) (omega arith) refl;
  no_table = λ sum is. absurd (omega (arith, ints, is.columns_sum 0 (omega arith), is.columns_sum 1 (omega arith)));
}
