-- The columns of a state's point with their whole weights, summed.
use Rattle.std.proofs.Common.{◌≡◌, ℕ, zero, suc, ◌+◌, ◌<◌, Bool, true, false, cond, ◌&&◌, List, [], ◌∷◌, ◌++◌, ◌⊎◌, inl, inr, sym, ◌∙◌, ap, subst, refl, arith, slice_index_or, add-zero}
use Rattle.std.specs.List.{All, Contains, filter, range_with_len}
use Rattle.std.specs.Int.{◌∣◌}
use Rattle.std.specs.Prelude.{ℤ, pos, ◌+ℤ◌, ◌-ℤ◌, ◌*ℤ◌, ◌≤ℤ◌, ◌<ℤ◌, int_lt, unsigned_abs, ◌/◌}
use Rattle.std.proofs.lemmas.Int.{ints}
use Rattle.std.proofs.lemmas.List.Elements.{All-append, All-cons, All-map, All-nil, All-same}
use Rattle.std.proofs.lemmas.List.FromFn.{get_or-range_with_len, length-range_with_len}
use Rattle.std.proofs.Math.Nat.{mul-div_cancel'}
use Rattle.sg_num.proofs.Ring.{var, num, ◌⊕◌, ◌⊖◌, ◌⊗◌, ring}
use Rattle.sg_num.proofs.Signs.{cancel, mul-nonneg, mul-pos, pos-from_mul, sign}
use Rattle.sg_frac.specs.Fractions.{Fraction, IsReducedForm}
use Rattle.sg_model.specs.Sums.{total}
use Rattle.sg_model.proofs.Sums.{total-append}
use Rattle.sg_model.proofs.Best.{All-from_map, passes_have}
use Rattle.sg_linear.specs.Sums.{LexPositive, dot, sum_below, unit}
use Rattle.sg_linear.proofs.Lex.{First, first-of, same_or}
use Rattle.sg_linear.proofs.SumLaws.{sum_below-add, sum_below-ext, sum_below-nonneg, sum_below-scale, sum_below-zero}
use Rattle.sg_linear.proofs.Products.{others, product, shares-exist, dot-unit_right, unit-apart, unit-same}
use Rattle.sg_linear.proofs.BasisLaws.{spans-unit, strong}
use Rattle.sg_rows.specs.Rows.{place}
use Rattle.sg_lp.specs.declared.column.Column.{Column}
use Rattle.sg_lp.specs.declared.column.Enter.{Enter}
use Rattle.sg_lp.specs.declared.column.Enter.TheVariants.{Slack, Col}
use Rattle.sg_lp.specs.Programs.{IsMember, IsWithinLimits, Program, member_cost, member_entry}
use Rattle.sg_lp.specs.States.{IsTableau, Tableau, member_at, row_at}
use Rattle.sg_lp.proofs.Dots.{dot_from-is}
use Rattle.sg_lp.proofs.Multiplied.{row_long}
use Rattle.sg_programs.specs.Points.{column_in, is_column, is_point_row, own_product, point_rows, point_rows_below, point_weight, point_whole, weight_at, weights_of}
use Rattle.sg_programs.specs.PointLaws.{AreWeights, HasPointValue, PointReachesValue, WeightsAreShares}
use Rattle.sg_programs.proofs.Multiples.{common_multiple_is_least, lowest-form, whole_share}

-- ---- sums over the rows that pass a test

range-more : (a n : ℕ) → range_with_len a (suc n) ≡ range_with_len a n ++ ((a + n) ∷ [])
range-more a zero = ap (λ (k : ℕ). k ∷ []) (sym (add-zero a))
range-more a (suc n) = let e : a + 1 + n ≡ a + suc n = omega arith in ap (λ (xs : List ℕ). a ∷ xs) (range-more (a + 1) n ∙ ap (λ (k : ℕ). range_with_len (a + 1) n ++ (k ∷ [])) e)

filter-more : (test : ℕ → Bool) (xs : List ℕ) (k : ℕ) → filter test (xs ++ (k ∷ [])) ≡ filter test xs ++ cond (test k) (k ∷ []) []
filter-more test [] k = refl
filter-more test (x ∷ xs) k = elim (test x) as (λ (b : Bool). cond b (x ∷ filter test (xs ++ (k ∷ []))) (filter test (xs ++ (k ∷ []))) ≡ cond b (x ∷ filter test xs) (filter test xs) ++ cond (test k) (k ∷ []) []) [
  | true ↦ ap (λ (ys : List ℕ). x ∷ ys) (filter-more test xs k)
  | false ↦ filter-more test xs k
]

one-total : (f : ℕ → ℤ) (b : Bool) (k : ℕ) → total f (cond b (k ∷ []) []) ≡ cond b (f k) (pos 0)
one-total f true k = omega (arith, ints)
one-total f false k = refl

pub rows-more : (t : Tableau) (n : ℕ) → point_rows_below t (suc n) ≡ point_rows_below t n ++ cond (is_point_row t n) (n ∷ []) []
rows-more t n = let e : 0 + n ≡ n = omega arith in ap (filter (is_point_row t)) (range-more 0 n ∙ ap (λ (k : ℕ). range_with_len 0 n ++ (k ∷ [])) e) ∙ filter-more (is_point_row t) (range_with_len 0 n) n

pub total-rows : (f : ℕ → ℤ) (t : Tableau) (n : ℕ) → total f (point_rows_below t n) ≡ sum_below n (λ k. cond (is_point_row t k) (f k) (pos 0))
total-rows f t zero = refl
total-rows f t (suc n) =
    ap (total f) (rows-more t n)
    ∙ total-append f (point_rows_below t n) (cond (is_point_row t n) (n ∷ []) [])
    ∙ ap (λ (z : ℤ). z +ℤ total f (cond (is_point_row t n) (n ∷ []) [])) (total-rows f t n)
    ∙ ap (λ (z : ℤ). sum_below n (λ k. cond (is_point_row t k) (f k) (pos 0)) +ℤ z) (one-total f (is_point_row t n) n)

-- what holds of the rows that pass holds of each row that passes
pub at-row : (P : ℕ → Type 0) (t : Tableau) (n : ℕ) → All P (point_rows_below t n) → (k : ℕ) → k < n → is_point_row t k ≡ true → P k
at-row P t n all k lt test =
    let h = passes_have (is_point_row t) P (range_with_len 0 n) all k 0 (omega (arith, length-range_with_len 0 n)) in
    let e : slice_index_or (range_with_len 0 n) k 0 ≡ k = get_or-range_with_len 0 n k 0 lt ∙ omega arith in
    subst (λ (i : ℕ). is_point_row t i ≡ true → P i) e h test

-- and the other way round
pub over-rows : (P : ℕ → Type 0) (t : Tableau) (m : ℕ) → ((k : ℕ) → k < m → is_point_row t k ≡ true → P k) → All P (point_rows_below t m)
over-rows P t zero h = All-nil P
over-rows P t (suc m) h =
    All-same P (point_rows_below t (suc m)) (point_rows_below t m ++ cond (is_point_row t m) (m ∷ []) []) (rows-more t m)
    (All-append P (point_rows_below t m) (cond (is_point_row t m) (m ∷ []) []) (over-rows P t m (λ k lt. h k (omega (arith, lt)))) (last (is_point_row t m) (h m (omega arith))))
  where
    last : (b : Bool) → (b ≡ true → P m) → All P (cond b (m ∷ []) [])
    last true k = All-cons P m [] (k refl) (All-nil P)
    last false k = All-nil P

-- ---- small steps over whole numbers

pub le-cancel : (g x y : ℤ) → pos 0 <ℤ g → (g *ℤ x) ≤ℤ (g *ℤ y) → x ≤ℤ y
le-cancel g x y h k = go (sign (y -ℤ x))
  where
    go : ((y -ℤ x) <ℤ pos 0) ⊎ (((y -ℤ x) ≡ pos 0) ⊎ (pos 0 <ℤ (y -ℤ x))) → x ≤ℤ y
    go (inr (inr up)) = omega (arith, ints, up)
    go (inr (inl nil)) = omega (arith, ints, nil)
    go (inl down) = absurd (let p = mul-pos g (x -ℤ y) h (omega (arith, ints, down)) in omega (arith, ints, k, p, ring (g ∷ x ∷ y ∷ []) (var 0 ⊗ (var 1 ⊖ var 2)) (var 0 ⊗ var 1 ⊖ var 0 ⊗ var 2) tt))

below-false : (z : ℤ) → int_lt (pos 0) z ≡ false → z ≤ℤ pos 0
below-false z e = grind (arith, ints, e)

above-true : (z : ℤ) → int_lt (pos 0) z ≡ true → pos 0 <ℤ z
above-true z e = grind (arith, ints, e)

pub both : (a b : Bool) → (a && b) ≡ true → (a ≡ true) × (b ≡ true)
both true b e = (refl, e)
both false b e = absurd (cc)

-- a list that stands above zeros has no first place below 0
first_place : (n : ℕ) (x : ℕ → ℤ) → LexPositive n x → pos 0 ≤ℤ x 0
first_place n x l = let f = first-of n x l in go f.place refl f
  where
    go : (k : ℕ) → k ≡ (first-of n x l).place → First n x → pos 0 ≤ℤ x 0
    go zero e g = let a = (first-of n x l).above in omega (arith, ints, a, ap x e)
    go (suc k) e g = let b = (first-of n x l).before 0 (omega arith) in omega (arith, ints, b)

-- one row's part: its whole weight w times h, and its share f of the product D, times g
part-is : (column above : Bool) (m0 w own f D m h g : ℤ) → (column ≡ true → h ≡ g) → (column ≡ false → g ≡ pos 0) → f *ℤ own ≡ D
    → (above ≡ false → m0 ≡ pos 0) → ((column && above) ≡ true → w *ℤ own ≡ m *ℤ m0)
    → D *ℤ cond (column && above) (w *ℤ h) (pos 0) ≡ m *ℤ ((f *ℤ m0) *ℤ g)
part-is false above m0 w own f D m h g on off sh low is =
    omega (arith, ints) ∙ sym (ap (λ (z : ℤ). m *ℤ ((f *ℤ m0) *ℤ z)) (off refl) ∙ ring (m ∷ f ∷ m0 ∷ []) (var 0 ⊗ ((var 1 ⊗ var 2) ⊗ num (pos 0))) (num (pos 0)) tt)
part-is true false m0 w own f D m h g on off sh low is =
    omega (arith, ints) ∙ sym (ap (λ (z : ℤ). m *ℤ ((f *ℤ z) *ℤ g)) (low refl) ∙ ring (m ∷ f ∷ g ∷ []) (var 0 ⊗ ((var 1 ⊗ num (pos 0)) ⊗ var 2)) (num (pos 0)) tt)
part-is true true m0 w own f D m h g on off sh low is =
    ap (λ (z : ℤ). D *ℤ (w *ℤ z)) (on refl)
    ∙ ap (λ (z : ℤ). z *ℤ (w *ℤ g)) (sym sh)
    ∙ ring (f ∷ own ∷ w ∷ g ∷ []) ((var 0 ⊗ var 1) ⊗ (var 2 ⊗ var 3)) ((var 0 ⊗ (var 2 ⊗ var 1)) ⊗ var 3) tt
    ∙ ap (λ (z : ℤ). (f *ℤ z) *ℤ g) (is refl)
    ∙ ring (f ∷ m ∷ m0 ∷ g ∷ []) ((var 0 ⊗ (var 1 ⊗ var 2)) ⊗ var 3) (var 1 ⊗ ((var 0 ⊗ var 2) ⊗ var 3)) tt

-- a function of columns, at members: 0 at slacks
abbrev pub on_column : (Column → ℤ) → Enter → ℤ
on_column g (Slack i) = pos 0
on_column g (Col c) = g c

-- what a slack has in a row
abbrev on_slack : ℕ → Enter → ℤ
on_slack j (Slack i) = unit i j
on_slack j (Col c) = pos 0

on : (g : Column → ℤ) (b : Enter) → is_column b ≡ true → g (column_in b) ≡ on_column g b
on g (Slack i) e = absurd (cc)
on g (Col c) e = refl

off : (g : Column → ℤ) (b : Enter) → is_column b ≡ false → on_column g b ≡ pos 0
off g (Slack i) e = refl
off g (Col c) e = absurd (cc)

entry-parts : (p : Program) (j : ℕ) (b : Enter) → member_entry p b j ≡ on_column (λ c. p.entry c j) b +ℤ on_slack j b
entry-parts p j (Slack i) = omega (arith, ints)
entry-parts p j (Col c) = omega (arith, ints)

cost-parts : (p : Program) (b : Enter) → member_cost p b ≡ on_column p.cost b
cost-parts p (Slack i) = refl
cost-parts p (Col c) = refl

unit-nonneg : (i j : ℕ) → pos 0 ≤ℤ unit i j
unit-nonneg i j = elim (same_or i j) [ inl e ↦ rw (e, unit-same j) (omega (arith, ints)) | inr ne ↦ rw (unit-apart i j ne) (omega (arith, ints)) ]

slack-nonneg : (j : ℕ) (b : Enter) → pos 0 ≤ℤ on_slack j b
slack-nonneg j (Slack i) = unit-nonneg i j
slack-nonneg j (Col c) = omega (arith, ints)

-- ---- a member that is a column

pub column-is : (p : Program) (t : Tableau) → IsTableau p t → (k : ℕ) → k < p.height → is_column (member_at t k) ≡ true → Contains p.columns (column_in (member_at t k)) × (member_at t k ≡ Col (column_in (member_at t k)))
column-is p t st k h e = go (member_at t k) refl e
  where
    member : IsMember p (member_at t k)
    member = st.shaped.members k (Slack 0) (let l = st.shaped.basis_long in omega arith)

    go : (b : Enter) → b ≡ member_at t k → is_column b ≡ true → Contains p.columns (column_in b) × (b ≡ Col (column_in b))
    go (Slack i) q e = absurd (cc)
    go (Col c) q e = (member.column c (sym q), refl)

module _ (p : Program) (t : Tableau) (sized : IsWithinLimits p) (st : IsTableau p t) where
  abbrev pub n : ℕ
  n = p.height

  abbrev A : ℕ → ℕ → ℤ
  A k = member_entry p (member_at t k)

  abbrev M : ℕ → ℕ → ℤ
  M i = place (row_at t i)

  abbrev own : ℕ → ℤ
  own k = dot n (M k) (A k)

  own-is : (i : ℕ) → i < n → own_product p t i ≡ own i
  own-is i h = dot_from-is n (row_at t i) (A i) (row_long p t st i h)

  pub own-above : (i : ℕ) → i < n → pos 0 <ℤ own_product p t i
  own-above i h = rw (own-is i h) (st.state.own i h)

  first-nonneg : (i : ℕ) → i < n → pos 0 ≤ℤ M i 0
  first-nonneg i h = first_place n (M i) (st.state.positive i h)

  -- ---- the weights

  abbrev pub Passing : (ℕ → Type 0) → Type 0
  Passing P = (k : ℕ) → k < n → is_point_row t k ≡ true → P k

  form : (i : ℕ) → i < n → is_point_row t i ≡ true → IsReducedForm (M i 0) (own_product p t i) (weight_at p t i)
  form i h test = lowest-form (M i 0) (own_product p t i) (above-true (M i 0) (both (is_column (member_at t i)) (int_lt (pos 0) (M i 0)) test).1) (own-above i h)

  abbrev pub whole : ℕ
  whole = point_whole p t

  pub dens : All (λ (f : Fraction). pos 1 ≤ℤ f.den) (weights_of p t)
  dens = All-map (λ (f : Fraction). pos 1 ≤ℤ f.den) (weight_at p t) (point_rows p t) (over-rows (λ i. pos 1 ≤ℤ (weight_at p t i).den) t n (λ i h test. (form i h test).reduced.positive))

  pub whole-above : 0 < whole
  whole-above = (common_multiple_is_least (weights_of p t) dens).above

  divides : Passing (λ i. unsigned_abs (weight_at p t i).den ∣ whole)
  divides = at-row (λ i. unsigned_abs (weight_at p t i).den ∣ whole) t n
      (All-from_map (weight_at p t) (λ (f : Fraction). unsigned_abs f.den ∣ whole) (point_rows p t) (common_multiple_is_least (weights_of p t) dens).multiple)

  share : Passing (λ i. point_weight p t i *ℤ own_product p t i ≡ pos whole *ℤ M i 0)
  share i h test =
      let w : Fraction = weight_at p t i in
      let k : ℕ = unsigned_abs w.den in
      whole_share w.num (own_product p t i) (M i 0) k (whole / k) whole (form i h test).equal (mul-div_cancel' k (divides i h test))

  pub weight-above : Passing (λ i. pos 0 <ℤ point_weight p t i)
  weight-above i h test =
      let first = above-true (M i 0) (both (is_column (member_at t i)) (int_lt (pos 0) (M i 0)) test).1 in
      let some = mul-pos (pos whole) (M i 0) (omega (arith, ints, whole-above)) first in
      pos-from_mul (own_product p t i) (point_weight p t i) (own-above i h) (omega (arith, ints, some, share i h test))

  pub are_weights : AreWeights p t
  are_weights = record {
    over_one = over-rows (λ i. IsReducedForm (M i 0) (own_product p t i) (weight_at p t i)) t n form;
    over_whole = over-rows (λ i. point_weight p t i *ℤ own_product p t i ≡ pos whole *ℤ M i 0) t n share;
    above = over-rows (λ i. pos 0 <ℤ point_weight p t i) t n weight-above;
  }

  -- ---- the sums

  abbrev D : ℤ
  D = product n own

  abbrev f : ℕ → ℤ
  f = others n own

  D-above : pos 0 <ℤ D
  D-above = (shares-exist n own st.state.own).above

  f-nonneg : (k : ℕ) → k < n → pos 0 ≤ℤ (f k *ℤ M k 0)
  f-nonneg k h =
      let e = (shares-exist n own st.state.own).shares k h in
      let some : pos 0 <ℤ f k = pos-from_mul (own k) (f k) (st.state.own k h) (omega (arith, ints, e, D-above)) in
      mul-nonneg (f k) (M k 0) (omega (arith, ints, some)) (first-nonneg k h)

  -- a sum over the point, and over all members
  point-sum : (g : Column → ℤ) → D *ℤ total (λ i. point_weight p t i *ℤ g (column_in (member_at t i))) (point_rows p t) ≡ pos whole *ℤ sum_below n (λ k. f k *ℤ M k 0 *ℤ on_column g (member_at t k))
  point-sum g =
      ap (λ (z : ℤ). D *ℤ z) (total-rows (λ i. point_weight p t i *ℤ g (column_in (member_at t i))) t n)
      ∙ sym (sum_below-scale n D (λ k. cond (is_point_row t k) (point_weight p t k *ℤ g (column_in (member_at t k))) (pos 0)))
      ∙ sum_below-ext n _ _ (λ k h. part-is (is_column (member_at t k)) (int_lt (pos 0) (M k 0)) (M k 0) (point_weight p t k) (own k) (f k) D (pos whole) (g (column_in (member_at t k))) (on_column g (member_at t k))
      (on g (member_at t k)) (off g (member_at t k)) ((shares-exist n own st.state.own).shares k h)
      (λ e. omega (arith, ints, below-false (M k 0) e, first-nonneg k h))
      (λ test. ap (λ (z : ℤ). point_weight p t k *ℤ z) (sym (own-is k h)) ∙ share k h test))
      ∙ sum_below-scale n (pos whole) (λ k. f k *ℤ M k 0 *ℤ on_column g (member_at t k))

  abbrev slacks : ℕ → ℤ
  slacks j = sum_below n (λ k. f k *ℤ M k 0 *ℤ on_slack j (member_at t k))

  abbrev columns : (Column → ℤ) → ℤ
  columns g = sum_below n (λ k. f k *ℤ M k 0 *ℤ on_column g (member_at t k))

  some : 0 < n
  some = let s = sized.some in omega arith

  both-parts : (j : ℕ) → j < n → columns (λ c. p.entry c j) +ℤ slacks j ≡ D *ℤ unit 0 j
  both-parts j h =
      sym (sum_below-add n (λ k. f k *ℤ M k 0 *ℤ on_column (λ c. p.entry c j) (member_at t k)) (λ k. f k *ℤ M k 0 *ℤ on_slack j (member_at t k)))
      ∙ sum_below-ext n _ _ (λ k l. ring ((f k *ℤ M k 0) ∷ on_column (λ c. p.entry c j) (member_at t k) ∷ on_slack j (member_at t k) ∷ []) (var 0 ⊗ var 1 ⊕ var 0 ⊗ var 2) (var 0 ⊗ (var 1 ⊕ var 2)) tt
      ∙ ap (λ (z : ℤ). f k *ℤ M k 0 *ℤ z) (sym (entry-parts p j (member_at t k))))
      ∙ spans-unit n (member_entry p) (member_cost p) (member_at t) M (place t.y) t.rho st.state D f (shares-exist n own st.state.own) 0 j some h

  slacks-nonneg : (j : ℕ) → pos 0 ≤ℤ slacks j
  slacks-nonneg j = sum_below-nonneg n _ (λ k h. mul-nonneg (f k *ℤ M k 0) (on_slack j (member_at t k)) (f-nonneg k h) (slack-nonneg j (member_at t k)))

  abbrev point_total : (Column → ℤ) → ℤ
  point_total g = total (λ i. point_weight p t i *ℤ g (column_in (member_at t i))) (point_rows p t)

  rows-le : (j : ℕ) → j < n → point_total (λ c. p.entry c j) ≤ℤ (pos whole *ℤ unit 0 j)
  rows-le j h =
      le-cancel D (point_total (λ c. p.entry c j)) (pos whole *ℤ unit 0 j) D-above
      (omega (
        arith,
        ints,
        point-sum (λ c. p.entry c j),
        ap (λ (z : ℤ). pos whole *ℤ z) (both-parts j h),
        ring (pos whole ∷ columns (λ c. p.entry c j) ∷ slacks j ∷ []) (var 0 ⊗ (var 1 ⊕ var 2)) (var 0 ⊗ var 1 ⊕ var 0 ⊗ var 2) tt,
        ring (pos whole ∷ D ∷ unit 0 j ∷ []) (var 0 ⊗ (var 1 ⊗ var 2)) (var 1 ⊗ (var 0 ⊗ var 2)) tt,
        mul-nonneg (pos whole) (slacks j) (omega (arith, ints)) (slacks-nonneg j),
      ))

  -- where the multiplier of row 0 isn't 0 its slack is no member
  no_slack : pos 0 <ℤ place t.y 0 → (k : ℕ) → k < n → (b : Enter) → b ≡ member_at t k → on_slack 0 b ≡ pos 0
  no_slack above k h (Col c) e = refl
  no_slack above k h (Slack zero) e = absurd
      (let price : dot n (place t.y) (member_entry p (Slack 0)) ≡ t.rho *ℤ member_cost p (Slack 0) = subst (λ (b : Enter). dot n (place t.y) (member_entry p b) ≡ t.rho *ℤ member_cost p b) (sym e) (st.state.prices k h) in
      let first = dot-unit_right n 0 (place t.y) some in
      omega (arith, ints, above, price, first))
  no_slack above k h (Slack (suc i)) e = unit-apart (suc i) 0 (λ q. absurd (omega (arith, q)))

  filled : pos 0 <ℤ place t.y 0 → point_total (λ c. p.entry c 0) ≡ pos whole
  filled above =
      let none : slacks 0 ≡ pos 0 = sum_below-zero n _ (λ k h. ap (λ (z : ℤ). f k *ℤ M k 0 *ℤ z) (no_slack above k h (member_at t k) refl) ∙ omega (arith, ints)) in
      let all : columns (λ c. p.entry c 0) ≡ D = (let b = both-parts 0 some in let u = ap (λ (z : ℤ). D *ℤ z) (unit-same 0) in omega (arith, ints, b, u, none)) in
      cancel D (point_total (λ c. p.entry c 0)) (pos whole) D-above
      (point-sum (λ c. p.entry c 0) ∙ ap (λ (z : ℤ). pos whole *ℤ z) all ∙ ring (pos whole ∷ D ∷ []) (var 0 ⊗ var 1) (var 1 ⊗ var 0) tt)

  value : t.rho *ℤ point_total p.cost ≡ pos whole *ℤ place t.y 0
  value =
      let costs : columns p.cost ≡ sum_below n (λ k. f k *ℤ M k 0 *ℤ member_cost p (member_at t k)) = sum_below-ext n _ _ (λ k h. ap (λ (z : ℤ). f k *ℤ M k 0 *ℤ z) (sym (cost-parts p (member_at t k)))) in
      let reach = strong n (member_entry p) (member_cost p) (member_at t) M (place t.y) t.rho st.state D f (shares-exist n own st.state.own) (omega (arith, ints)) some in
      cancel D (t.rho *ℤ point_total p.cost) (pos whole *ℤ place t.y 0) D-above
      (ring (D ∷ t.rho ∷ point_total p.cost ∷ []) (var 0 ⊗ (var 1 ⊗ var 2)) (var 1 ⊗ (var 0 ⊗ var 2)) tt
      ∙ ap (λ (z : ℤ). t.rho *ℤ z) (point-sum p.cost ∙ ap (λ (z : ℤ). pos whole *ℤ z) costs)
      ∙ ring (t.rho ∷ pos whole ∷ sum_below n (λ k. f k *ℤ M k 0 *ℤ member_cost p (member_at t k)) ∷ []) (var 0 ⊗ (var 1 ⊗ var 2)) (var 1 ⊗ (var 0 ⊗ var 2)) tt
      ∙ ap (λ (z : ℤ). pos whole *ℤ z) reach
      ∙ ring (pos whole ∷ D ∷ place t.y 0 ∷ []) (var 0 ⊗ (var 1 ⊗ var 2)) (var 1 ⊗ (var 0 ⊗ var 2)) tt)

  pub has_point_value : HasPointValue p t
  has_point_value = record { rows = rows-le; filled = filled; value = value }

pub weights_are_shares : WeightsAreShares
weights_are_shares p t sized st = are_weights p t sized st

pub point_reaches_value : PointReachesValue
point_reaches_value p t sized st = has_point_value p t sized st
