-- Counts by target: their sums, and how many are above 0.
use Rattle.std.proofs.Common.{◌≡◌, ◌∙◌, ◌≢◌, ℕ, zero, suc, ◌+◌, ◌-◌, ◌<◌, ◌≤◌, Bool, true, false, cond, eqb, List, [], ◌∷◌, ◌++◌, length, get_or, set, ap, subst, sym, refl, arith, inl, inr, get_or-set_same, get_or-set_other}
use Rattle.std.specs.Prelude.{ℤ, pos, ◌+ℤ◌, ◌≤ℤ◌, int_lt, filter, sum_by, All}
use Rattle.std.proofs.Math.ListN.{length-set}
use Rattle.std.proofs.lemmas.Int.{ints}
use Rattle.std.proofs.lemmas.Bool.{cases_eq, cond-true, cond-false, eq-eqb, ne_eqb}
use Rattle.sg_model.specs.Sums.{total, numbers, nth}
use Rattle.sg_model.specs.Games.{Game, resource_count, resource_schedules}
use Rattle.sg_model.specs.Limits.{IsGame}
use Rattle.sg_game.specs.Counting.{IsSingle}
use Rattle.sg_bounds.specs.Coverage.{choice_holds}
use Rattle.sg_linear.specs.Sums.{sum_below}
use Rattle.sg_matchings.specs.Tables.{cell}
use Rattle.sg_matchings.specs.Padding.{AreWithin, column_total, row_total}
use Rattle.sg_matchings.specs.Decompositions.{positive_counts}
use Rattle.sg_matchings.proofs.Places.{sum_below-le, sum_below-same, sum_below-nonnegative}
use Rattle.sg_matchings.proofs.PadSteps.{each-pushed, length-pushed, sum_below-front, sum_below-next}
use Rattle.sg_split.specs.ByTarget.{AreTargetRows, HasChoiceTo, IsTargetOf, IsTargetRow}
use Rattle.sg_split.specs.Matched.{AreChoiceCounts, asked, positive_entries, target_share}
use Rattle.sg_split.proofs.Shares.{entries-sum, flag, flags_spread, on, target_share-low, target_share-places, target_share-some, spread, total-numbers, total-places}
use Rattle.sg_split.proofs.Singles.{holds_is, target_of_choice}

-- ---- one row, choice by choice

-- the counts of the first choices, by target
pub record IsRowUpTo (g : Game) (r : ℕ) (counts row : List ℤ) (k : ℕ) : Type 0 where
  pub long : length row ≡ length g.goals
  pub each : (t : ℕ) → t < length g.goals → get_or row t (pos 0) ≡ sum_below k (λ j. on g r (λ i. get_or counts i (pos 0)) j t)

module _ (g : Game) (r : ℕ) (counts : List ℤ) where
  abbrev c : ℕ → ℤ
  c j = get_or counts j (pos 0)

  pub row-none : (row : List ℤ) → length row ≡ length g.goals → ((t : ℕ) → t < length row → get_or row t (pos 0) ≡ pos 0) → IsRowUpTo g r counts row 0
  row-none row long zeros = record { long = long; each = λ t lt. zeros t (omega (arith, lt, long)) }

  -- the target's place
  at_target : (k x t : ℕ) → IsTargetOf g r (suc k) x → t ≡ x - 1 → on g r c k t ≡ c k
  at_target k x t is e = cond-true (choice_holds g r (suc k) (suc t)) (c k) (pos 0) (holds_is g r (suc k) x is (suc t) ∙ eq-eqb x (suc t) (omega (arith, e, is.known.0)))

  elsewhere : (k x t : ℕ) → IsTargetOf g r (suc k) x → t ≢ x - 1 → on g r c k t ≡ pos 0
  elsewhere k x t is ne = cond-false (choice_holds g r (suc k) (suc t)) (c k) (pos 0) (holds_is g r (suc k) x is (suc t) ∙ ne_eqb x (suc t) (λ q. ne (omega (arith, q))))

  pub row-more : (row row' : List ℤ) (k x : ℕ) (v : ℤ) → IsTargetOf g r (k + 1) x → v ≡ c k → IsRowUpTo g r counts row k → row' ≡ set row (x - 1) (get_or row (x - 1) (pos 0) +ℤ v) → IsRowUpTo g r counts row' (k + 1)
  row-more row row' k x v is' e are f =
      let p : k + 1 ≡ suc k = omega arith in
      let is : IsTargetOf g r (suc k) x = subst (λ (i : ℕ). IsTargetOf g r i x) p is' in
      let w : ℤ = get_or row (x - 1) (pos 0) +ℤ v in
      let inside : x - 1 < length row = omega (arith, is.known.0, is.known.1, are.long) in
      rw f (record {
        long = length-set row (x - 1) w ∙ are.long;
        each = λ t lt. elim (cases_eq t (x - 1)) [
          | inl q ↦ (
              let here : get_or (set row (x - 1) w) t (pos 0) ≡ w = ap (λ (i : ℕ). get_or (set row (x - 1) w) i (pos 0)) q ∙ get_or-set_same row (x - 1) w (pos 0) inside in
              let old : get_or row (x - 1) (pos 0) ≡ sum_below k (λ j. on g r c j t) = ap (λ (i : ℕ). get_or row i (pos 0)) (sym q) ∙ are.each t lt in
              omega (arith, ints, here, old, e, at_target k x t is q, sum_below-next k (λ j. on g r c j t)))
          | inr ne ↦ omega (arith, ints, get_or-set_other row (x - 1) t w (pos 0) ne, are.each t lt, elsewhere k x t is ne, sum_below-next k (λ j. on g r c j t))
        ];
      })

  on-low : (j t : ℕ) → j < length counts → All (λ z. pos 0 ≤ℤ z) counts → pos 0 ≤ℤ on g r c j t
  on-low j t lt low = elim (choice_holds g r (suc j) (suc t)) as (λ b. pos 0 ≤ℤ cond b (c j) (pos 0)) [ true ↦ low j (pos 0) lt | false ↦ omega (arith, ints) ]

  on-high : (j t : ℕ) → j < length counts → All (λ z. pos 0 ≤ℤ z) counts → on g r c j t ≤ℤ c j
  on-high j t lt low = elim (choice_holds g r (suc j) (suc t)) as (λ b. cond b (c j) (pos 0) ≤ℤ c j) [ true ↦ omega (arith, ints) | false ↦ low j (pos 0) lt ]

  -- one more count at its target is from 0 to the sum of all
  pub more_fits : (row : List ℤ) (k x : ℕ) (v most : ℤ) → k < length counts → IsTargetOf g r (k + 1) x → v ≡ c k → All (λ z. pos 0 ≤ℤ z) counts → total (λ z. z) counts ≤ℤ most → IsRowUpTo g r counts row k
      → (pos 0 ≤ℤ (get_or row (x - 1) (pos 0) +ℤ v)) × ((get_or row (x - 1) (pos 0) +ℤ v) ≤ℤ most)
  more_fits row k x v most lt is' e low within are =
      let t : ℕ = x - 1 in
      let p : k + 1 ≡ suc k = omega arith in
      let is : IsTargetOf g r (suc k) x = subst (λ (i : ℕ). IsTargetOf g r i x) p is' in
      let f = λ (j : ℕ). on g r c j t in
      let inside : t < length g.goals = omega (arith, is.known.0, is.known.1) in
      let whole = total-places (λ (z : ℤ). z) counts (pos 0) in
      let front = sum_below-front (length counts) (k + 1) f (omega (arith, lt)) (λ j l. on-low j t l low) in
      let under = sum_below-le (length counts) f c (λ j l. on-high j t l low) in
      let from = sum_below-nonnegative (k + 1) f (λ j l. on-low j t (omega (arith, l, lt)) low) in
      let next = sum_below-next k f in
      let at = at_target k x t is refl in
      (omega (arith, ints, are.each t inside, next, from, at, e), omega (arith, ints, are.each t inside, next, front, under, whole, within, at, e))

  pub row-all : (row : List ℤ) (k : ℕ) → k ≡ length (resource_schedules g r) → IsRowUpTo g r counts row k → IsTargetRow g r counts row
  row-all row k e are = record {
    long = are.long;
    each = λ t lt.
        let p : t + 1 ≡ suc t = omega arith in
        are.each t lt ∙ sym (ap (λ (x : ℕ). target_share g r counts x) p ∙ (total-numbers (λ j. cond (choice_holds g r j (suc t)) (nth counts j (pos 0)) (pos 0)) (length (resource_schedules g r)) ∙ ap (λ (i : ℕ). sum_below i (λ j. on g r c j t)) (sym e)));
  }

-- ---- all rows

module _ (g : Game) (game : IsGame g) (counts : List (List ℤ)) (tickets : ℤ) (are : AreChoiceCounts g counts tickets) (rows : List (List ℤ)) (target : AreTargetRows g counts rows) where
  abbrev m : ℕ
  m = length g.goals

  abbrev row : ℕ → List ℤ
  row i = get_or counts i []

  abbrev n : ℕ → ℕ
  n i = length (resource_schedules g (suc i))

  fact : (i : ℕ) → i < length rows → (j : ℕ) → j < n i → (x : ℕ) × IsTargetOf g (suc i) (suc j) x
  fact i li j lj = target_of_choice g game are.single (suc i) (suc j) (omega arith) (omega (arith, li, target.long)) (omega arith) (omega (arith, lj))

  long : (i : ℕ) → i < length rows → length (row i) ≡ n i
  long i li = are.each_choice (suc i) (omega arith) (omega (arith, li, target.long))

  low : (i : ℕ) → i < length rows → All (λ z. pos 0 ≤ℤ z) (row i)
  low i li = are.none_below i [] (omega (arith, li, target.long, are.one_each))

  cell_is : (i t : ℕ) → i < length rows → t < m → cell rows i t ≡ target_share g (suc i) (row i) (suc t)
  cell_is i t li lt =
      let p : i + 1 ≡ suc i = omega arith in
      let q : t + 1 ≡ suc t = omega arith in
      let one : IsTargetRow g (suc i) (row i) (get_or rows i []) = subst (λ (x : ℕ). IsTargetRow g x (nth counts x []) (get_or rows i [])) p (target.each i li) in
      one.each t lt ∙ ap (λ (x : ℕ). target_share g (suc i) (row i) x) q

  cell_sum : (i t : ℕ) → i < length rows → t < m → cell rows i t ≡ sum_below (n i) (λ j. on g (suc i) (λ k. get_or (row i) k (pos 0)) j t)
  cell_sum i t li lt = cell_is i t li lt ∙ target_share-places g (suc i) (n i) (fact i li) (row i) t refl

  row_is : (i : ℕ) → i < length rows → row_total rows m i ≡ total (λ z. z) (row i)
  row_is i li =
      let c = λ (j : ℕ). get_or (row i) j (pos 0) in
      sum_below-same m (λ t. cell rows i t) (λ t. sum_below (n i) (λ j. on g (suc i) c j t)) (λ t lt. cell_sum i t li lt)
      ∙ (spread g (suc i) (n i) (fact i li) c ∙ (ap (λ (k : ℕ). sum_below k c) (sym (long i li)) ∙ sym (total-places (λ (z : ℤ). z) (row i) (pos 0))))

  pub column_is : (t : ℕ) → t < m → column_total rows t ≡ asked g counts (suc t)
  column_is t lt =
      sum_below-same (length rows) (λ i. cell rows i t) (λ i. target_share g (suc i) (nth counts (suc i) []) (suc t)) (λ i li. cell_is i t li lt)
      ∙ (ap (λ (k : ℕ). sum_below k (λ i. target_share g (suc i) (nth counts (suc i) []) (suc t))) target.long ∙ sym (total-numbers (λ r. target_share g r (nth counts r []) (suc t)) (resource_count g)))

  pub rows_within : AreWithin rows m tickets
  rows_within = record {
    wide = λ i li. (target.each i li).long;
    nonnegative = λ i t li lt. omega (arith, ints, cell_is i t li lt, target_share-low g (suc i) (n i) (fact i li) (row i) t refl (long i li) (low i li));
    rows_within = λ i li. omega (arith, ints, row_is i li, are.resources_within i [] (omega (arith, li, target.long, are.one_each)));
    columns_within = λ t lt. omega (arith, ints, column_is t lt, are.targets_within (suc t) (omega arith) (omega (arith, lt)));
  }

  pub positive_few : positive_counts rows m ≤ℤ pos (positive_entries counts)
  positive_few =
      let each : (i : ℕ) → i < length rows → sum_below m (λ t. flag (cell rows i t)) ≤ℤ total flag (row i) = λ i li.
      let c = λ (j : ℕ). get_or (row i) j (pos 0) in
      let a = sum_below-same m (λ t. flag (cell rows i t)) (λ t. flag (sum_below (n i) (λ j. on g (suc i) c j t))) (λ t lt. ap flag (cell_sum i t li lt)) in
      let b = flags_spread g (suc i) (n i) (fact i li) c in
      let d : sum_below (n i) (λ j. flag (c j)) ≡ total flag (row i) = ap (λ (k : ℕ). sum_below k (λ j. flag (c j))) (sym (long i li)) ∙ sym (total-places flag (row i) (pos 0)) in
      omega (arith, ints, a, b, d) in
      let all = sum_below-le (length rows) (λ i. sum_below m (λ t. flag (cell rows i t))) (λ i. total flag (row i)) each in
      let sums : sum_below (length rows) (λ i. total flag (row i)) ≡ pos (positive_entries counts) =
      ap (λ (k : ℕ). sum_below k (λ i. total flag (row i))) (target.long ∙ sym are.one_each) ∙ (sym (total-places (λ xs. total flag xs) counts []) ∙ sym (entries-sum counts)) in
      omega (arith, ints, all, sums)

  pub cell_some : (i t : ℕ) → i < length rows → t < m → pos 1 ≤ℤ cell rows i t → HasChoiceTo g (suc i) (suc t)
  cell_some i t li lt up = target_share-some g (suc i) (n i) (fact i li) (row i) t refl (omega (arith, ints, up, cell_is i t li lt))

-- ---- resource by resource

pub record AreRowsUpTo (g : Game) (counts : List (List ℤ)) (rows : List (List ℤ)) (k : ℕ) : Type 0 where
  pub long : length rows ≡ k
  pub each : (i : ℕ) → i < length rows → IsTargetRow g (i + 1) (nth counts (i + 1) []) (get_or rows i [])

pub rows-none : (g : Game) (counts : List (List ℤ)) → AreRowsUpTo g counts [] 0
rows-none g counts = record { long = refl; each = λ i lt. absurd (omega (arith, lt)) }

pub rows-more : (g : Game) (counts rows rows' : List (List ℤ)) (k : ℕ) (row : List ℤ) → AreRowsUpTo g counts rows k → IsTargetRow g (k + 1) (nth counts (k + 1) []) row → rows' ≡ rows ++ row ∷ [] → AreRowsUpTo g counts rows' (k + 1)
rows-more g counts rows rows' k row are is e = rw e (record {
  long = length-pushed rows row ∙ ap (λ (x : ℕ). x + 1) are.long;
  each = each-pushed [] (λ i z. IsTargetRow g (i + 1) (nth counts (i + 1) []) z) rows row are.each (subst (λ (x : ℕ). IsTargetRow g (x + 1) (nth counts (x + 1) []) row) (sym are.long) is);
})

pub rows-all : (g : Game) (counts rows : List (List ℤ)) (k : ℕ) → k ≡ resource_count g → AreRowsUpTo g counts rows k → AreTargetRows g counts rows
rows-all g counts rows k e are = record { long = are.long ∙ e; each = are.each }
