-- The amounts of a point over the coverage table, summed.
use Rattle.std.proofs.Common.{◌≡◌, ◌≢◌, ◌⊎◌, ℕ, zero, suc, ◌<◌, Bool, true, false, cond, List, [], ◌∷◌, map, flat_map, length, sym, ◌∙◌, ap, subst, refl, arith, inl, inr, slice_index_or, ◌&&◌}
use Rattle.std.specs.List.{All, AllPairs, Contains}
use Rattle.std.specs.Prelude.{ℤ, pos, ◌+ℤ◌, ◌*ℤ◌, nat_eq}
use Rattle.std.proofs.lemmas.Bool.{cases_Bool, eq-eqb, eqb-true}
use Rattle.std.proofs.lemmas.Int.{ints}
use Rattle.std.proofs.lemmas.List.Elements.{All-head, All-tail}
use Rattle.sg_num.proofs.Laws.{add-mul, zero-mul}
use Rattle.sg_model.specs.Sums.{numbers, total}
use Rattle.sg_model.specs.Games.{Game, resource_count, resource_schedules}
use Rattle.sg_model.proofs.Before.{pairs-head, pairs-tail}
use Rattle.sg_model.proofs.Sums.{total-append, total-exchange, total-same}
use Rattle.sg_tree.specs.declared.fix.Fix.{Fix}
use Rattle.sg_bounds.specs.Coverage as table
use Rattle.sg_bounds.proofs.Cover.{total-map}
use Rattle.sg_bounds.proofs.Listed.{columns_are_all}
use Rattle.sg_lp.specs.Programs.{Program}
use Rattle.sg_lp.specs.States.{IsTableau, Tableau, member_at}
use Rattle.sg_programs.specs.CoverPoints.{amount_of, is_same_column}
use Rattle.sg_programs.specs.CoverPrograms.{cover_program, table_column}
use Rattle.sg_programs.specs.Points.{column_in, is_column, is_point_row, point_rows, point_weight}
use Rattle.sg_programs.proofs.CoverColumns.{columns-told}
use Rattle.sg_programs.proofs.PointSums.{both, column-is, over-rows}
use Rattle.sg_model.proofs.Payoffs.{Contains-map}

-- ---- the same column

pub same-is : (c d : table.Column) → is_same_column c d ≡ true → c ≡ d
same-is table.always table.always e = refl
same-is table.always (table.chooses s k) e = absurd (cc)
same-is table.always (table.covering u) e = absurd (cc)
same-is (table.chooses r j) table.always e = absurd (cc)
same-is (table.chooses r j) (table.chooses s k) e = let p = both (nat_eq r s) (nat_eq j k) e in ap (λ (n : ℕ). table.chooses n j) (eqb-true r s p.0) ∙ ap (table.chooses s) (eqb-true j k p.1)
same-is (table.chooses r j) (table.covering u) e = absurd (cc)
same-is (table.covering t) table.always e = absurd (cc)
same-is (table.covering t) (table.chooses s k) e = absurd (cc)
same-is (table.covering t) (table.covering u) e = ap table.covering (eqb-true t u e)

pub same-self : (c : table.Column) → is_same_column c c ≡ true
same-self table.always = refl
same-self (table.chooses r j) = let a = eq-eqb r r refl in let b = eq-eqb j j refl in ap (λ (x : Bool). x && nat_eq j j) a ∙ b
same-self (table.covering t) = eq-eqb t t refl

-- ---- one column among all

abbrev picked_part : (w : ℤ) → (table.Column → ℤ) → table.Column → table.Column → ℤ
picked_part w f c d = cond (is_same_column c d) w (pos 0) *ℤ f d

other-part : (w : ℤ) (f : table.Column → ℤ) (c d : table.Column) → c ≢ d → picked_part w f c d ≡ pos 0
other-part w f c d ne = go (cases_Bool (is_same_column c d))
  where
    go : (is_same_column c d ≡ true) ⊎ (is_same_column c d ≡ false) → picked_part w f c d ≡ pos 0
    go (inl e) = absurd (ne (same-is c d e))
    go (inr e) = ap (λ (b : Bool). cond b w (pos 0) *ℤ f d) e ∙ zero-mul (f d)

none-picked : (w : ℤ) (f : table.Column → ℤ) (c : table.Column) (ds : List table.Column) → All (λ d. c ≢ d) ds → total (picked_part w f c) ds ≡ pos 0
none-picked w f c [] h = refl
none-picked w f c (d ∷ ds) h = omega (arith, ints, other-part w f c d (All-head (λ d. c ≢ d) d ds h), none-picked w f c ds (All-tail (λ d. c ≢ d) d ds h))

one-picked : (w : ℤ) (f : table.Column → ℤ) (c : table.Column) (ds : List table.Column) → AllPairs (λ x y. x ≢ y) ds → Contains ds c → total (picked_part w f c) ds ≡ w *ℤ f c
one-picked w f c [] pairs at = absurd (omega (arith, at.1))
one-picked w f c (d ∷ ds) pairs (zero, lt, e) =
    let later : All (λ x. c ≢ x) ds = subst (λ (y : table.Column). All (λ x. y ≢ x) ds) e (pairs-head (λ x y. x ≢ y) d ds pairs) in
    let here : picked_part w f c d ≡ w *ℤ f c =
    ap (λ (x : table.Column). picked_part w f c x) e ∙ ap (λ (b : Bool). cond b w (pos 0) *ℤ f c) (same-self c) in
    omega (arith, ints, here, none-picked w f c ds later)
one-picked w f c (d ∷ ds) pairs (suc i, lt, e) =
    let differs : c ≢ d = λ same. pairs-head (λ x y. x ≢ y) d ds pairs i c (omega (arith, lt)) (sym same ∙ sym e) in
    omega (arith, ints, other-part w f c d differs, one-picked w f c ds (pairs-tail (λ x y. x ≢ y) d ds pairs) (i, omega (arith, lt), e))

-- ---- the amounts

total-times : {X : Type 0} (f : X → ℤ) (z : ℤ) (xs : List X) → total f xs *ℤ z ≡ total (λ x. f x *ℤ z) xs
total-times f z [] = zero-mul z
total-times f z (x ∷ xs) = add-mul (f x) (total f xs) z ∙ ap (λ (w : ℤ). (f x *ℤ z) +ℤ w) (total-times f z xs)

module _ (g : Game) (fix : Fix) (t : Tableau) (st : IsTableau (cover_program g fix) t) where
  abbrev p : Program
  p = cover_program g fix

  abbrev pub column_at : ℕ → table.Column
  column_at i = table_column g (column_in (member_at t i))

  -- a column of the point is one of the table
  pub in-table : (i : ℕ) → i < p.height → is_point_row t i ≡ true → Contains (table.columns g) (column_at i)
  in-table i lt test =
      subst (λ (cs : List table.Column). Contains cs (column_at i)) (columns-told g)
      (Contains-map (table_column g) p.columns (column_in (member_at t i)) (column-is p t st i lt (both (is_column (member_at t i)) _ test).0).0)

  -- a sum over the amounts is one over the point
  pub over-amounts : (f : table.Column → ℤ) → total (λ c. amount_of g fix t c *ℤ f c) (table.columns g) ≡ total (λ (i : ℕ). point_weight p t i *ℤ f (column_at i)) (point_rows p t)
  over-amounts f =
      let part : table.Column → ℕ → ℤ = λ c i. picked_part (point_weight p t i) f (column_at i) c in
      total-same (λ c. amount_of g fix t c *ℤ f c) (λ c. total (part c) (point_rows p t)) (table.columns g)
      (λ k d lt. let c : table.Column = slice_index_or (table.columns g) k d in total-times (λ (i : ℕ). cond (is_same_column (column_at i) c) (point_weight p t i) (pos 0)) (f c) (point_rows p t))
      ∙ total-exchange part (table.columns g) (point_rows p t)
      ∙ total-same (λ (i : ℕ). total (λ c. part c i) (table.columns g)) (λ (i : ℕ). point_weight p t i *ℤ f (column_at i)) (point_rows p t)
      (over-rows (λ (i : ℕ). total (λ c. part c i) (table.columns g) ≡ point_weight p t i *ℤ f (column_at i)) t p.height
      (λ i lt test. one-picked (point_weight p t i) f (column_at i) (table.columns g) (columns_are_all g).distinct (in-table i lt test)))

-- ---- a sum over the columns of the table, by kind

total-flat : {X Y : Type 0} (f : Y → ℤ) (h : X → List Y) (xs : List X) → total f (flat_map h xs) ≡ total (λ x. total f (h x)) xs
total-flat f h [] = refl
total-flat f h (x ∷ xs) = omega (arith, ints, total-append f (h x) (flat_map h xs), total-flat f h xs)

pub split-amounts : (g : Game) (f : table.Column → ℤ) → total f (table.columns g)
    ≡ f table.always +ℤ (total (λ (r : ℕ). total (λ (j : ℕ). f (table.chooses r j)) (numbers (length (resource_schedules g r)))) (numbers (resource_count g)) +ℤ total (λ (t : ℕ). f (table.covering t)) (numbers (length g.goals)))
split-amounts g f =
    let own : ℕ → List table.Column = λ r. map (table.chooses r) (numbers (length (resource_schedules g r))) in
    let choices : List table.Column = flat_map own (numbers (resource_count g)) in
    let targets : List table.Column = map table.covering (numbers (length g.goals)) in
    let a = total-append f choices targets in
    let b = total-flat f own (numbers (resource_count g)) in
    let c = total-same (λ (r : ℕ). total f (own r)) (λ (r : ℕ). total (λ (j : ℕ). f (table.chooses r j)) (numbers (length (resource_schedules g r)))) (numbers (resource_count g))
    (λ k d lt. let r : ℕ = slice_index_or (numbers (resource_count g)) k d in total-map f (table.chooses r) (numbers (length (resource_schedules g r)))) in
    omega (arith, ints, a, b, c, total-map f table.covering (numbers (length g.goals)))
