-- From the sums over lines to the inequalities of the columns, and from tests one by one to tests of all.
use Rattle.std.proofs.Common.{◌≡◌, ◌≢◌, ◌∙◌, ℕ, suc, ◌+◌, ◌-◌, ◌<◌, ◌≤◌, List, length, take, get_or, ap, subst, arith, slice_index_or, inl, inr, eqb, false}
use Rattle.std.specs.Prelude.{ℤ, pos, ◌+ℤ◌, ◌*ℤ◌, slice_set}
use Rattle.std.specs.List.{All}
use Rattle.std.proofs.lemmas.Bool.{cases_eq}
use Rattle.std.proofs.lemmas.Bool.Decides.{nat_tests}
use Rattle.std.proofs.lemmas.Int.{ints}
use Rattle.std.proofs.lemmas.List.{get_or-set_other, get_or-set_same, length-set, take_all}
use Rattle.sg_model.specs.Sums.{nth}
use Rattle.sg_model.proofs.Promises.{nth-all}
use Rattle.sg_bounds.specs.Coverage.{where_same}

-- ---- tests of all, by number

pub holds-at : (P : ℕ → Type 0) (xs : List ℕ) (i : ℕ) → i < length xs → ((j : ℕ) → 1 ≤ j → j ≤ length xs → P (nth xs j 0)) → P (get_or xs i 0)
holds-at P xs i lt h = h (suc i) (omega arith) (omega (arith, lt))

pub holds-all : (P : ℕ → Type 0) (xs : List ℕ) (i : ℕ) → length xs ≤ i → All P (take i xs) → (j : ℕ) → 1 ≤ j → j ≤ length xs → P (nth xs j 0)
holds-all P xs i le h j low high = nth-all P xs 0 (subst (All P) (take_all i xs le) h) j low high

pub from-one : (P : ℕ → Type 0) (m : ℕ) → ((i : ℕ) → i < m → P (i + 1)) → (j : ℕ) → 1 ≤ j → j ≤ m → P j
from-one P m h j low high = let e : j - 1 + 1 ≡ j = omega (arith, low) in subst P e (h (j - 1) (omega (arith, low, high)))

-- ---- a number added at two places

pub touched-one : (f : ℕ → ℤ) (xs : List ℤ) (a : ℕ) → a < length xs → ((t : ℕ) → t ≢ a → f t ≡ pos 0) → (t : ℕ) → slice_index_or (slice_set xs a (slice_index_or xs a (pos 0) +ℤ f a)) t (pos 0) ≡ slice_index_or xs t (pos 0) +ℤ f t
touched-one f xs a lt none t =
    elim (cases_eq t a) [
      | inl e ↦ rw e (get_or-set_same xs a (slice_index_or xs a (pos 0) +ℤ f a) (pos 0) lt)
      | inr ne ↦ (let other = get_or-set_other xs a t (slice_index_or xs a (pos 0) +ℤ f a) (pos 0) ne in omega (arith, ints, other, none t ne))
    ]

module _ (f : ℕ → ℤ) (xs ys zs : List ℤ) (a b : ℕ) (apart : b ≢ a) (in_a : a < length xs) (in_b : b < length xs)
    (first : ys ≡ slice_set xs a (slice_index_or xs a (pos 0) +ℤ f a)) (second : zs ≡ slice_set ys b (slice_index_or ys b (pos 0) +ℤ f b)) where
  pub second-same : slice_index_or ys b (pos 0) ≡ slice_index_or xs b (pos 0)
  second-same = ap (λ (l : List ℤ). slice_index_or l b (pos 0)) first ∙ get_or-set_other xs a b (slice_index_or xs a (pos 0) +ℤ f a) (pos 0) apart

  long : length ys ≡ length xs
  long = ap length first ∙ length-set xs a (slice_index_or xs a (pos 0) +ℤ f a)

  pub touched-two : ((t : ℕ) → t ≢ a → t ≢ b → f t ≡ pos 0) → (t : ℕ) → slice_index_or zs t (pos 0) ≡ slice_index_or xs t (pos 0) +ℤ f t
  touched-two none t =
      ap (λ (l : List ℤ). slice_index_or l t (pos 0)) second
      ∙ elim (cases_eq t b) [
        | inl e ↦ rw e (get_or-set_same ys b (slice_index_or ys b (pos 0) +ℤ f b) (pos 0) (omega (arith, long, in_b)) ∙ ap (λ (z : ℤ). z +ℤ f b) second-same)
        | inr ne ↦ (
            get_or-set_other ys b t (slice_index_or ys b (pos 0) +ℤ f b) (pos 0) ne
            ∙ (ap (λ (l : List ℤ). slice_index_or l t (pos 0)) first
            ∙ elim (cases_eq t a) [
              | inl e ↦ rw e (get_or-set_same xs a (slice_index_or xs a (pos 0) +ℤ f a) (pos 0) in_a)
              | inr other ↦ (let kept = get_or-set_other xs a t (slice_index_or xs a (pos 0) +ℤ f a) (pos 0) other in omega (arith, ints, kept, none t other ne))
            ]))
      ]

-- an entry of a row that compares two targets, in the column of a third
pub elsewhere : (m x y : ℤ) (a b t : ℕ) → t ≢ a → t ≢ b → m *ℤ (where_same a t x +ℤ where_same b t y) ≡ pos 0
elsewhere m x y a b t na nb =
    let e : eqb a t ≡ false = grind (arith, nat_tests, na) in
    let f : eqb b t ≡ false = grind (arith, nat_tests, nb) in
    rw (e, f) (omega (arith, ints))
