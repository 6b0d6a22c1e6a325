-- What the choices of a resource ask for each target, in all just their counts.
use Rattle.std.proofs.Common.{◌≡◌, ◌∙◌, ◌≢◌, ℕ, zero, suc, ◌+◌, ◌-◌, ◌<◌, ◌≤◌, Bool, true, false, cond, eqb, List, [], ◌∷◌, length, get_or, ap, subst, sym, refl, arith, inl, inr}
use Rattle.std.specs.Prelude.{ℤ, pos, ◌+ℤ◌, ◌≤ℤ◌, int_lt, filter, sum_by, All}
use Rattle.std.proofs.lemmas.Int.{ints, by_lt_z}
use Rattle.std.proofs.lemmas.List.Sums.{sum_by-cons}
use Rattle.std.proofs.lemmas.Bool.{cases_eq, cases_Bool, cond-true, cond-false, eq-eqb, ne_eqb}
use Rattle.sg_model.specs.Sums.{total, numbers, numbers_from, nth}
use Rattle.sg_model.specs.Games.{Game, resource_count, resource_schedules}
use Rattle.sg_bounds.specs.Coverage.{choice_holds}
use Rattle.sg_linear.specs.Sums.{sum_below}
use Rattle.sg_matchings.proofs.Places.{some_positive, sum_below-exchange, sum_below-le, sum_below-member, sum_below-nonnegative, sum_below-once, sum_below-same}
use Rattle.sg_split.specs.ByTarget.{HasChoiceTo, IsTargetOf}
use Rattle.sg_split.specs.Matched.{asked, positive_entries, target_share}
use Rattle.sg_split.proofs.Singles.{holds_is}

-- ---- sums of lists by place

pub sum_below-head : (n : ℕ) (f : ℕ → ℤ) → sum_below (suc n) f ≡ f 0 +ℤ sum_below n (λ k. f (suc k))
sum_below-head zero f = omega (arith, ints)
sum_below-head (suc n) f = omega (arith, ints, sum_below-head n f)

pub total-places : {X : Type 0} (f : X → ℤ) (xs : List X) (d : X) → total f xs ≡ sum_below (length xs) (λ i. f (get_or xs i d))
total-places f [] d = refl
total-places f (x ∷ xs) d = ap (λ (z : ℤ). f x +ℤ z) (total-places f xs d) ∙ sym (sum_below-head (length xs) (λ i. f (get_or (x ∷ xs) i d)))

total-numbers_from : (f : ℕ → ℤ) (a n : ℕ) → total f (numbers_from a n) ≡ sum_below n (λ i. f (a + i))
total-numbers_from f a zero = refl
total-numbers_from f a (suc n) =
    let e : a + 0 ≡ a = omega arith in
    let rest = total-numbers_from f (a + 1) n ∙ sum_below-same n (λ i. f ((a + 1) + i)) (λ i. f (a + suc i)) (λ i lt. ap f (omega arith)) in
    omega (arith, ints, rest, sum_below-head n (λ i. f (a + i)), ap f e)

pub total-numbers : (f : ℕ → ℤ) (n : ℕ) → total f (numbers n) ≡ sum_below n (λ i. f (suc i))
total-numbers f n = total-numbers_from f 1 n ∙ sum_below-same n (λ i. f (1 + i)) (λ i. f (suc i)) (λ i lt. ap f (omega arith))

-- ---- a flag for what is above 0

abbrev pub flag : ℤ → ℤ
flag z = cond (int_lt (pos 0) z) (pos 1) (pos 0)

flag-up : (z : ℤ) → pos 1 ≤ℤ z → flag z ≡ pos 1
flag-up z h = cond-true (int_lt (pos 0) z) (pos 1) (pos 0) (grind (arith, ints))

flag-down : (z : ℤ) → z ≤ℤ pos 0 → flag z ≡ pos 0
flag-down z h = cond-false (int_lt (pos 0) z) (pos 1) (pos 0) (grind (arith, ints))

flag-low : (z : ℤ) → pos 0 ≤ℤ flag z
flag-low z = elim (int_lt (pos 0) z) as (λ b. pos 0 ≤ℤ cond b (pos 1) (pos 0)) [ true ↦ omega (arith, ints) | false ↦ omega (arith, ints) ]

cond-low : (b : Bool) (z : ℤ) → pos 0 ≤ℤ z → pos 0 ≤ℤ cond b z (pos 0)
cond-low true z h = h
cond-low false z h = omega (arith, ints)

cond-up : (b : Bool) (z : ℤ) → pos 1 ≤ℤ cond b z (pos 0) → (b ≡ true) × (pos 1 ≤ℤ z)
cond-up true z h = (refl, h)
cond-up false z h = absurd (omega (arith, ints, h))

length-filter : (xs : List ℤ) → pos (length (filter (int_lt (pos 0)) xs)) ≡ total flag xs
length-filter [] = refl
length-filter (x ∷ xs) = elim (cases_Bool (int_lt (pos 0) x)) [
  | inl t ↦ rw t (omega (arith, ints, length-filter xs))
  | inr f ↦ rw f (omega (arith, ints, length-filter xs))
]

pub entries-sum : (counts : List (List ℤ)) → pos (positive_entries counts) ≡ total (λ row. total flag row) counts
entries-sum [] = refl
entries-sum (row ∷ rows) =
    let first : positive_entries (row ∷ rows) ≡ length (filter (int_lt (pos 0)) row) + positive_entries rows = sum_by-cons (λ (xs : List ℤ). length (filter (int_lt (pos 0)) xs)) row rows in
    let rest : pos (positive_entries rows) ≡ total (λ xs. total flag xs) rows = entries-sum rows in
    let all : total (λ xs. total flag xs) (row ∷ rows) ≡ total flag row +ℤ total (λ xs. total flag xs) rows = refl in
    omega (arith, ints, length-filter row, rest, first, all)

-- ---- the choices of a resource

-- a number of a choice of resource r, where it holds a target, both counted from 0
abbrev pub on : Game → ℕ → (ℕ → ℤ) → ℕ → ℕ → ℤ
on g r c j t = cond (choice_holds g r (suc j) (suc t)) (c j) (pos 0)

module _ (g : Game) (r n : ℕ) (fact : (j : ℕ) → j < n → (x : ℕ) × IsTargetOf g r (suc j) x) where
  abbrev m : ℕ
  m = length g.goals

  holds_at : (j x k t : ℕ) → x ≡ suc k → IsTargetOf g r (suc j) x → choice_holds g r (suc j) (suc t) ≡ eqb k t
  holds_at j x k t e is = holds_is g r (suc j) x is (suc t) ∙ elim (cases_eq k t) [
    | inl q ↦ eq-eqb x (suc t) (omega (arith, e, q)) ∙ sym (eq-eqb k t q)
    | inr ne ↦ ne_eqb x (suc t) (λ q. ne (omega (arith, e, q))) ∙ sym (ne_eqb k t ne)
  ]

  once_on : (c : ℕ → ℤ) (j : ℕ) → j < n → sum_below m (λ t. on g r c j t) ≡ c j
  once_on c j lt =
      let x : ℕ = (fact j lt).0 in
      let is = (fact j lt).1 in
      let k : ℕ = x - 1 in
      let e : x ≡ suc k = omega (arith, is.known.0) in
      let inside : k < m = omega (arith, is.known.1, e) in
      sum_below-same m (λ t. on g r c j t) (λ t. cond (eqb k t) (c j) (pos 0)) (λ t l. ap (λ (b : Bool). cond b (c j) (pos 0)) (holds_at j x k t e is)) ∙ sum_below-once m k (c j) inside

  pub spread : (c : ℕ → ℤ) → sum_below m (λ t. sum_below n (λ j. on g r c j t)) ≡ sum_below n c
  spread c = sum_below-exchange m n (λ t j. on g r c j t) ∙ sum_below-same n (λ j. sum_below m (λ t. on g r c j t)) c (λ j lt. once_on c j lt)

  flag_on : (c : ℕ → ℤ) (t : ℕ) → flag (sum_below n (λ j. on g r c j t)) ≤ℤ sum_below n (λ j. on g r (λ i. flag (c i)) j t)
  flag_on c t =
      let all = λ (j : ℕ). cond-low (choice_holds g r (suc j) (suc t)) (flag (c j)) (flag-low (c j)) in
      by_lt_z (pos 0) (sum_below n (λ j. on g r c j t))
      (λ up.
      let some = some_positive n (λ j. on g r c j t) (omega (arith, ints, up)) in
      let j : ℕ = some.0 in
      let both = cond-up (choice_holds g r (suc j) (suc t)) (c j) some.1.1 in
      let one : on g r (λ i. flag (c i)) j t ≡ pos 1 = cond-true (choice_holds g r (suc j) (suc t)) (flag (c j)) (pos 0) both.0 ∙ flag-up (c j) both.1 in
      let member = sum_below-member n j (λ i. on g r (λ i. flag (c i)) i t) some.1.0 all in
      omega (arith, ints, flag-up (sum_below n (λ j. on g r c j t)) (omega (arith, ints, up)), member, one))
      (λ down. omega (arith, ints, flag-down (sum_below n (λ j. on g r c j t)) down, sum_below-nonnegative n (λ j. on g r (λ i. flag (c i)) j t) (λ j l. all j)))

  pub flags_spread : (c : ℕ → ℤ) → sum_below m (λ t. flag (sum_below n (λ j. on g r c j t))) ≤ℤ sum_below n (λ j. flag (c j))
  flags_spread c = omega (
    arith,
    ints,
    sum_below-le m (λ t. flag (sum_below n (λ j. on g r c j t))) (λ t. sum_below n (λ j. on g r (λ i. flag (c i)) j t)) (λ t l. flag_on c t),
    spread (λ i. flag (c i)),
  )

  -- a share, by place
  pub target_share-places : (counts : List ℤ) (t : ℕ) → n ≡ length (resource_schedules g r) → target_share g r counts (suc t) ≡ sum_below n (λ j. on g r (λ i. get_or counts i (pos 0)) j t)
  target_share-places counts t e =
      total-numbers (λ j. cond (choice_holds g r j (suc t)) (nth counts j (pos 0)) (pos 0)) (length (resource_schedules g r))
      ∙ ap (λ (k : ℕ). sum_below k (λ j. on g r (λ i. get_or counts i (pos 0)) j t)) (sym e)

  pub target_share-low : (counts : List ℤ) (t : ℕ) → n ≡ length (resource_schedules g r) → length counts ≡ n → All (λ z. pos 0 ≤ℤ z) counts → pos 0 ≤ℤ target_share g r counts (suc t)
  target_share-low counts t e long low =
      let from = sum_below-nonnegative n (λ j. on g r (λ i. get_or counts i (pos 0)) j t) (λ j lt. cond-low (choice_holds g r (suc j) (suc t)) (get_or counts j (pos 0)) (low j (pos 0) (omega (arith, lt, long)))) in
      omega (arith, ints, from, target_share-places counts t e)

  -- a share above 0 has a choice
  pub target_share-some : (counts : List ℤ) (t : ℕ) → n ≡ length (resource_schedules g r) → pos 1 ≤ℤ target_share g r counts (suc t) → HasChoiceTo g r (suc t)
  target_share-some counts t e up =
      let some = some_positive n (λ j. on g r (λ i. get_or counts i (pos 0)) j t) (omega (arith, ints, up, target_share-places counts t e)) in
      let both = cond-up (choice_holds g r (suc some.0) (suc t)) (get_or counts some.0 (pos 0)) some.1.1 in
      (suc some.0, record { from_one = omega arith; in_list = omega (arith, some.1.0, e); holds = both.0 })
