-- Counts by resource and choice within a point: each target is filled from the first choices that hold it on.
use Rattle.std.proofs.Common.{◌≡◌, ◌⊎◌, ℕ, zero, suc, ◌+◌, ◌-◌, ◌≤◌, Bool, true, false, cond, List, [], map, length, sym, ◌∙◌, ap, arith, inl, inr, eqb, slice_index, slice_index_or}
use Rattle.std.specs.List.{All}
use Rattle.std.specs.Int.{int_max, int_min}
use Rattle.std.specs.Prelude.{ℤ, pos, ◌+ℤ◌, ◌-ℤ◌, ◌≤ℤ◌}
use Rattle.std.proofs.lemmas.Bool.{cases_Bool, eqb-true}
use Rattle.std.proofs.lemmas.Int.{ints, int_max_is, int_min_is}
use Rattle.std.proofs.lemmas.List.{length-map}
use Rattle.std.proofs.lemmas.List.Elements.{All-map}
use Rattle.sg_model.specs.declared.kind.Kind.TheVariants.{Security}
use Rattle.sg_model.specs.Sums.{nth, numbers, numbers_from, total}
use Rattle.sg_model.specs.Games.{Game, resource_count, resource_schedules, schedule_targets}
use Rattle.sg_model.specs.Limits.{IsGame}
use Rattle.sg_model.proofs.Numbers.{All-numbers, All-numbers_from, length-numbers_from, nth-map, nth-numbers_from}
use Rattle.sg_model.proofs.Promises.{game_cases, yes_matrix}
use Rattle.sg_model.proofs.Sums.{total-le, total-nonneg, total-same}
use Rattle.sg_game.specs.Counting.{IsSingle}
use Rattle.sg_tree.specs.declared.fix.Fix.{Fix}
use Rattle.sg_bounds.specs.Coverage as table
use Rattle.sg_bounds.specs.Regions.{IsFix}
use Rattle.sg_bounds.proofs.Cover.{total-map}
use Rattle.sg_split.specs.ByTarget.{IsTargetOf}
use Rattle.sg_split.specs.Matched.{asked, target_share}
use Rattle.sg_split.proofs.Singles.{holds_is, target_of_choice}
use Rattle.sg_lp.specs.Programs.{IsWithinLimits}
use Rattle.sg_lp.specs.States.{IsTableau, Tableau}
use Rattle.sg_programs.specs.CoverPointLaws.{CountsAreChoiceCounts, KeepsTable, PointHasCounts}
use Rattle.sg_programs.specs.CoverFilling.{amount_before, amount_left, filled_count, filled_counts, filled_row, held_amount, resource_amount, taken_of, target_in}
use Rattle.sg_programs.specs.CoverPoints.{AreCountsUnder, amount_of}
use Rattle.sg_programs.specs.CoverPrograms.{cover_program}
use Rattle.sg_programs.proofs.CoverColumns.{listed-again}
use Rattle.sg_programs.proofs.CoverKeeps.{point_keeps_table}
use Rattle.sg_programs.proofs.CoverSized.{cover_is_sized}
use Rattle.sg_programs.proofs.PlayPoints.{any-default}
use Rattle.sg_programs.proofs.PointSums.{whole-above}

-- a game of single targets is in security form
pub single-secure : (g : Game) → IsGame g → IsSingle g → g.kind ≡ Security
single-secure g h single = elim (game_cases g h) [
  | inl s ↦ s.kind
  | inr m ↦ absurd (let a = yes_matrix g m.kind in let e : true ≡ false = sym a ∙ single.security in cc)
]

-- ---- what is taken of a number where so much is left

taken_of-low : (left x : ℤ) → pos 0 ≤ℤ taken_of left x
taken_of-low left x = let a = int_max_is (pos 0) (int_min left x) in omega (arith, ints, a)

taken_of-high : (left x : ℤ) → pos 0 ≤ℤ x → taken_of left x ≤ℤ x
taken_of-high left x low = let a = int_max_is (pos 0) (int_min left x) in let b = int_min_is left x in omega (arith, ints, a, b, low)

taken_of-none : (left : ℤ) → taken_of left (pos 0) ≡ pos 0
taken_of-none left = let a = int_max_is (pos 0) (int_min left (pos 0)) in let b = int_min_is left (pos 0) in omega (arith, ints, a, b)

taken_of-all : (left x : ℤ) → pos 0 ≤ℤ left → left ≤ℤ x → taken_of (left -ℤ pos 0) x ≡ left
taken_of-all left x low high = let a = int_max_is (pos 0) (int_min (left -ℤ pos 0) x) in let b = int_min_is (left -ℤ pos 0) x in omega (arith, ints, a, b, low, high)

-- first of one number, and then of the others
taken_of-two : (left x y : ℤ) → pos 0 ≤ℤ x → pos 0 ≤ℤ y → taken_of left x +ℤ taken_of (left -ℤ x) y ≡ taken_of left (x +ℤ y)
taken_of-two left x y px py =
    let a = int_max_is (pos 0) (int_min left x) in let b = int_min_is left x in
    let c = int_max_is (pos 0) (int_min (left -ℤ x) y) in let d = int_min_is (left -ℤ x) y in
    let e = int_max_is (pos 0) (int_min left (x +ℤ y)) in let f = int_min_is left (x +ℤ y) in
    omega (arith, ints, a, b, c, d, e, f, px, py)

-- one number after another, of which so much was there before
taken : (f : ℕ → ℤ) → ((n : ℕ) → pos 0 ≤ℤ f n) → (need before : ℤ) (a n : ℕ) → total (λ j. taken_of (need -ℤ (before +ℤ total f (numbers_from a (j - a)))) (f j)) (numbers_from a n) ≡ taken_of (need -ℤ before) (total f (numbers_from a n))
taken f low need before a zero = sym (taken_of-none (need -ℤ before))
taken f low need before a (suc n) =
    let none : a - a ≡ 0 = omega arith in
    let first : taken_of (need -ℤ (before +ℤ total f (numbers_from a (a - a)))) (f a) ≡ taken_of (need -ℤ before) (f a) =
    ap (λ (k : ℕ). taken_of (need -ℤ (before +ℤ total f (numbers_from a k))) (f a)) none ∙ (let e : need -ℤ (before +ℤ pos 0) ≡ need -ℤ before = omega (arith, ints) in ap (λ (z : ℤ). taken_of z (f a)) e) in
    let later : total (λ j. taken_of (need -ℤ (before +ℤ total f (numbers_from a (j - a)))) (f j)) (numbers_from (a + 1) n)
    ≡ total (λ j. taken_of (need -ℤ ((before +ℤ f a) +ℤ total f (numbers_from (a + 1) (j - (a + 1))))) (f j)) (numbers_from (a + 1) n) =
    total-same (λ j. taken_of (need -ℤ (before +ℤ total f (numbers_from a (j - a)))) (f j)) (λ j. taken_of (need -ℤ ((before +ℤ f a) +ℤ total f (numbers_from (a + 1) (j - (a + 1))))) (f j)) (numbers_from (a + 1) n)
    (All-numbers_from (λ j. taken_of (need -ℤ (before +ℤ total f (numbers_from a (j - a)))) (f j) ≡ taken_of (need -ℤ ((before +ℤ f a) +ℤ total f (numbers_from (a + 1) (j - (a + 1))))) (f j)) (a + 1) n
    (λ j from high.
    let k : j - a ≡ suc (j - (a + 1)) = omega (arith, from) in
    let e : need -ℤ (before +ℤ total f (numbers_from a (j - a))) ≡ need -ℤ ((before +ℤ f a) +ℤ total f (numbers_from (a + 1) (j - (a + 1)))) =
    ap (λ (m : ℕ). need -ℤ (before +ℤ total f (numbers_from a m))) k ∙ omega (arith, ints) in
    ap (λ (z : ℤ). taken_of z (f j)) e)) in
    let rest = taken f low need (before +ℤ f a) (a + 1) n in
    let left : need -ℤ (before +ℤ f a) ≡ (need -ℤ before) -ℤ f a = omega (arith, ints) in
    let two = taken_of-two (need -ℤ before) (f a) (total f (numbers_from (a + 1) n)) (low a) (total-nonneg f (numbers_from (a + 1) n) (λ i d lt. low (slice_index_or (numbers_from (a + 1) n) i d))) in
    omega (arith, ints, first, later, rest, ap (λ (z : ℤ). taken_of z (total f (numbers_from (a + 1) n))) left, two)

-- ---- the counts

module _ (g : Game) (h : IsGame g) (single : IsSingle g) (a : table.Column → ℤ) (low : (c : table.Column) → pos 0 ≤ℤ a c) where
  abbrev choice_count : ℕ → ℕ
  choice_count r = length (resource_schedules g r)

  held-low : (u r j : ℕ) → pos 0 ≤ℤ held_amount g a u r j
  held-low u r j = let some = low (table.chooses r j) in elim (table.choice_holds g r j u) as (λ b. pos 0 ≤ℤ cond b (a (table.chooses r j)) (pos 0)) [ true ↦ some | false ↦ omega (arith, ints) ]

  resource-low : (u r : ℕ) → pos 0 ≤ℤ resource_amount g a u r
  resource-low u r = total-nonneg (held_amount g a u r) (numbers (choice_count r)) (λ i d lt. held-low u r (slice_index_or (numbers (choice_count r)) i d))

  row-is : (r : ℕ) → 1 ≤ r → r ≤ resource_count g → nth (filled_counts g a) r [] ≡ filled_row g a r
  row-is r from_one in_range =
      let e : 1 + (r - 1) ≡ r = omega (arith, from_one) in
      nth-map (filled_row g a) (numbers (resource_count g)) r [] 0 from_one (omega (arith, in_range, length-numbers_from 1 (resource_count g)))
      ∙ ap (filled_row g a) (nth-numbers_from 1 (resource_count g) (r - 1) 0 (omega (arith, from_one, in_range)) ∙ e)

  count-is : (r j : ℕ) → 1 ≤ r → r ≤ resource_count g → 1 ≤ j → j ≤ choice_count r → nth (nth (filled_counts g a) r []) j (pos 0) ≡ filled_count g a r j
  count-is r j from_one in_range some in_list =
      let e : 1 + (j - 1) ≡ j = omega (arith, some) in
      ap (λ (row : List ℤ). nth row j (pos 0)) (row-is r from_one in_range)
      ∙ nth-map (filled_count g a r) (numbers (choice_count r)) j (pos 0) 0 some (omega (arith, in_list, length-numbers_from 1 (choice_count r)))
      ∙ ap (filled_count g a r) (nth-numbers_from 1 (choice_count r) (j - 1) 0 (omega (arith, some, in_list)) ∙ e)

  -- a choice counts for its own target alone
  counted : (u r j : ℕ) → 1 ≤ r → r ≤ resource_count g → 1 ≤ j → j ≤ choice_count r → cond (table.choice_holds g r j u) (filled_count g a r j) (pos 0) ≡ taken_of (amount_left g a u r j) (held_amount g a u r j)
  counted u r j from_one in_range some in_list = go (cases_Bool (eqb own u))
    where
      found : (x : ℕ) × IsTargetOf g r j x
      found = target_of_choice g h single r j from_one in_range some in_list

      own : ℕ
      own = found.0

      holds : table.choice_holds g r j u ≡ eqb own u
      holds = holds_is g r j own found.1 u

      own-is : target_in g r j ≡ own
      own-is = ap (λ (xs : List ℕ). slice_index xs 0) found.1.own

      go : (eqb own u ≡ true) ⊎ (eqb own u ≡ false) → cond (table.choice_holds g r j u) (filled_count g a r j) (pos 0) ≡ taken_of (amount_left g a u r j) (held_amount g a u r j)
      go (inl e) =
          let at : table.choice_holds g r j u ≡ true = holds ∙ e in
          let same : target_in g r j ≡ u = own-is ∙ eqb-true own u e in
          ap (λ (b : Bool). cond b (filled_count g a r j) (pos 0)) at ∙ ap (λ (x : ℕ). taken_of (amount_left g a x r j) (a (table.chooses r j))) same ∙ sym (ap (λ (b : Bool). taken_of (amount_left g a u r j) (cond b (a (table.chooses r j)) (pos 0))) at)
      go (inr e) =
          let at : table.choice_holds g r j u ≡ false = holds ∙ e in
          ap (λ (b : Bool). cond b (filled_count g a r j) (pos 0)) at ∙ sym (taken_of-none (amount_left g a u r j)) ∙ sym (ap (λ (b : Bool). taken_of (amount_left g a u r j) (cond b (a (table.chooses r j)) (pos 0))) at)

  -- of one resource
  share-is : (u r : ℕ) → 1 ≤ r → r ≤ resource_count g → target_share g r (nth (filled_counts g a) r []) u ≡ taken_of (a (table.covering u) -ℤ amount_before g a u r) (resource_amount g a u r)
  share-is u r from_one in_range =
      total-same (λ j. cond (table.choice_holds g r j u) (nth (nth (filled_counts g a) r []) j (pos 0)) (pos 0)) (λ j. taken_of (amount_left g a u r j) (held_amount g a u r j)) (numbers (choice_count r))
      (All-numbers (λ j. cond (table.choice_holds g r j u) (nth (nth (filled_counts g a) r []) j (pos 0)) (pos 0) ≡ taken_of (amount_left g a u r j) (held_amount g a u r j)) (choice_count r)
      (λ j some in_list. ap (λ (z : ℤ). cond (table.choice_holds g r j u) z (pos 0)) (count-is r j from_one in_range some in_list) ∙ counted u r j from_one in_range some in_list))
      ∙ taken (held_amount g a u r) (held-low u r) (a (table.covering u)) (amount_before g a u r) 1 (choice_count r)

  -- the choices of a target have enough for it
  abbrev pub AreEnough : Type 0
  AreEnough = (u : ℕ) → 1 ≤ u → u ≤ length g.goals → a (table.covering u) ≤ℤ total (resource_amount g a u) (numbers (resource_count g))

  -- of all
  asked-is : AreEnough → (u : ℕ) → 1 ≤ u → u ≤ length g.goals → asked g (filled_counts g a) u ≡ a (table.covering u)
  asked-is enough u from_one in_range =
      total-same (λ r. target_share g r (nth (filled_counts g a) r []) u) (λ r. taken_of (a (table.covering u) -ℤ amount_before g a u r) (resource_amount g a u r)) (numbers (resource_count g))
      (All-numbers (λ r. target_share g r (nth (filled_counts g a) r []) u ≡ taken_of (a (table.covering u) -ℤ amount_before g a u r) (resource_amount g a u r)) (resource_count g) (λ r some last. share-is u r some last))
      ∙ taken (resource_amount g a u) (resource-low u) (a (table.covering u)) (pos 0) 1 (resource_count g)
      ∙ taken_of-all (a (table.covering u)) (total (resource_amount g a u) (numbers (resource_count g))) (low (table.covering u)) (enough u from_one in_range)

  pub filled_under : AreEnough → AreCountsUnder g a (filled_counts g a)
  filled_under enough = record {
    one_each = length-map (numbers (resource_count g)) (filled_row g a) ∙ length-numbers_from 1 (resource_count g);
    each_choice = λ r from_one in_range. ap length (row-is r from_one in_range) ∙ length-map (numbers (choice_count r)) (filled_count g a r) ∙ length-numbers_from 1 (choice_count r);
    none_below = All-map (λ row. All (λ z. pos 0 ≤ℤ z) row) (filled_row g a) (numbers (resource_count g))
        (λ i d lt. let r : ℕ = slice_index_or (numbers (resource_count g)) i d in
        All-map (λ z. pos 0 ≤ℤ z) (filled_count g a r) (numbers (choice_count r)) (λ k e in_list. let j : ℕ = slice_index_or (numbers (choice_count r)) k e in taken_of-low (amount_left g a (target_in g r j) r j) (a (table.chooses r j))));
    none_above = λ r j from_one in_range some in_list.
        let e = count-is r j from_one in_range some in_list in
        let le = taken_of-high (amount_left g a (target_in g r j) r j) (a (table.chooses r j)) (low (table.chooses r j)) in
        omega (arith, ints, e, le);
    asked_is = asked-is enough;
  }

pub point_has_counts : PointHasCounts
point_has_counts g h unscaled single fix is_fix t st =
    let keeps = point_keeps_table g h unscaled (single-secure g h single) fix is_fix t st in
    (filled_counts g (amount_of g fix t), filled_under g h single (amount_of g fix t) keeps.nonnegative keeps.held)

-- ---- counts that can be had

list-total : (xs : List ℤ) → total (λ z. z) xs ≡ total (λ j. nth xs j (pos 0)) (numbers (length xs))
list-total xs = ap (total (λ (z : ℤ). z)) (sym (listed-again [] xs (pos 0))) ∙ total-map (λ (z : ℤ). z) (λ (j : ℕ). nth xs j (pos 0)) (numbers (length xs))

pub counts_are_choice_counts : CountsAreChoiceCounts
counts_are_choice_counts g h unscaled single fix is_fix t st above counts are =
    let security = single-secure g h single in
    let keeps = point_keeps_table g h unscaled security fix is_fix t st in
    let sized : IsWithinLimits (cover_program g fix) = cover_is_sized g h unscaled security fix is_fix in
    let whole = whole-above (cover_program g fix) t sized st in
    let all = keeps.filled above in
    record {
      single = single;
      positive = omega (arith, ints, whole);
      one_each = are.one_each;
      each_choice = are.each_choice;
      none_below = are.none_below;
      resources_within = λ i d lt.
          let r : ℕ = suc i in
          let low : 1 ≤ r = omega arith in
          let high : r ≤ resource_count g = omega (arith, lt, are.one_each) in
          let row : List ℤ = nth counts r [] in
          let same : slice_index_or counts i d ≡ row = any-default counts i d [] lt in
          let long = are.each_choice r low high in
          let sum : total (λ z. z) row ≡ total (λ j. nth row j (pos 0)) (numbers (length (resource_schedules g r))) = list-total row ∙ ap (λ (n : ℕ). total (λ j. nth row j (pos 0)) (numbers n)) long in
          let le = total-le (λ j. nth row j (pos 0)) (λ j. amount_of g fix t (table.chooses r j)) (numbers (length (resource_schedules g r)))
          (All-numbers (λ j. nth row j (pos 0) ≤ℤ amount_of g fix t (table.chooses r j)) (length (resource_schedules g r)) (λ j from_one in_list. are.none_above r j low high from_one in_list)) in
          omega (arith, ints, ap (total (λ (z : ℤ). z)) same, sum, le, keeps.choices r low high, all);
      targets_within = λ u low high. let e = are.asked_is u low high in omega (arith, ints, e, keeps.within u low high, all);
    }
