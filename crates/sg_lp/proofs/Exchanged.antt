-- Rows exchanged one after the other.
use Rattle.std.proofs.Common.{◌≡◌, ◌≢◌, ℕ, ◌+◌, ◌<◌, ◌≤◌, ◌⊎◌, inl, inr, false, List, [], ◌∷◌, ◌++◌, length, map, take, slice_index_or, slice_set, None, refl, ap, arith, sym, ◌∙◌, subst}
use Rattle.std.specs.Prelude.{ℤ, pos, nat_eq}
use Rattle.std.proofs.lemmas.List.{get_or-map, get_or-set_other, get_or-set_same, get_or_read, length-map, length-set}
use Rattle.sg_linear.proofs.Lex.{same_or}
use Rattle.sg_num.specs.Operations.{first_wide}
use Rattle.sg_rows.specs.Rows.{IsLowest, combine_steps, combined_rows, place}
use Rattle.sg_rows.proofs.Fitting.{part-fits}
use Rattle.sg_lp.specs.Exchanging.{ListsExchanged, OthersCombined, OthersFit, denominated, front_of}
use Rattle.sg_lp.specs.States.{Tableau, held_tableau}
use Rattle.sg_lp.specs.Moves.{Exchanges, multiplier_steps, row_steps, row_steps_at}
use Rattle.sg_lp.specs.declared.column.Enter.{Enter}

last : (m k : ℕ) → k < m + 1 → (k < m) ⊎ (k ≡ m)
last m k h = grind arith

-- the rows before place k are combined, and those from there on are as before
pub record AreCombined (height : ℕ) (before now : List (List ℤ)) (q : List ℤ) (r : ℕ) (pivot : List ℤ) (k : ℕ) : Type 0 where
  pub many : length now ≡ length before
  pub wide : (j : ℕ) → j < length before → length (slice_index_or now j []) ≡ length (slice_index_or before j [])
  pub left : (j : ℕ) → k ≤ j → slice_index_or now j [] ≡ slice_index_or before j []
  pub kept : slice_index_or now r [] ≡ slice_index_or before r []
  pub lowest : (j : ℕ) → j < k → j ≢ r → IsLowest (combined_rows (place q r) (place q j) (front_of height before j) (take height pivot)) (front_of height now j)

pub none_combined : (height : ℕ) (before : List (List ℤ)) (q : List ℤ) (r : ℕ) (pivot : List ℤ) → AreCombined height before before q r pivot 0
none_combined height before q r pivot = record { many = refl; wide = λ j h. refl; left = λ j h. refl; kept = refl; lowest = λ j h ne. absurd (omega arith) }

module _ (height : ℕ) (before now : List (List ℤ)) (q : List ℤ) (r : ℕ) (pivot : List ℤ) (k : ℕ) (m : AreCombined height before now q r pivot k) where
  -- the leaving row is passed by
  pub passed : k ≡ r → AreCombined height before now q r pivot (k + 1)
  passed e = record {
    many = m.many;
    wide = m.wide;
    left = λ j h. m.left j (omega arith);
    kept = m.kept;
    lowest = λ j h ne. elim (last k j h) [ inl lt ↦ m.lowest j lt ne | inr is ↦ absurd (ne (is ∙ e)) ];
  }

  -- a further row
  pub one_more : (x u : List ℤ) → k < length now → k ≢ r → x ≡ slice_index_or now k x → length u ≡ length x → IsLowest (combined_rows (place q r) (place q k) (take height x) (take height pivot)) (take height u)
      → AreCombined height before (slice_set now k u) q r pivot (k + 1)
  one_more x u h ne is wide low = record {
    many = length-set now k u ∙ m.many;
    wide = λ j l. elim (same_or j k) [
      | inl e ↦ rw (e, get_or-set_same now k u [] h) (wide ∙ ap length here)
      | inr no_k ↦ ap length (get_or-set_other now k j u [] no_k) ∙ m.wide j l
    ];
    left = λ j l. get_or-set_other now k j u [] (omega arith) ∙ m.left j (omega arith);
    kept = get_or-set_other now k r u [] (λ e. ne (sym e)) ∙ m.kept;
    lowest = λ j l nr. elim (last k j l) [
      | inl lt ↦ subst (λ (z : List ℤ). IsLowest (combined_rows (place q r) (place q j) (front_of height before j) (take height pivot)) (take height z)) (sym (get_or-set_other now k j u [] (omega arith))) (m.lowest j lt nr)
      | inr e ↦ rw e (subst (λ (z : List ℤ). IsLowest (combined_rows (place q r) (place q k) (front_of height before k) (take height pivot)) (take height z)) (sym (get_or-set_same now k u [] h))
          (subst (λ (z : List ℤ). IsLowest (combined_rows (place q r) (place q k) (take height z) (take height pivot)) (take height u)) here low))
    ];
  }
    where
      here : x ≡ slice_index_or before k []
      here = get_or_read now k x h is [] ∙ m.left k (omega arith)

  pub all_combined : length now ≤ k → OthersCombined height before now q r pivot
  all_combined h = record { many = m.many; wide = m.wide; kept = m.kept; lowest = λ j l ne. m.lowest j (let e = m.many in omega arith) ne }

-- the leaving row lies apart while the others are combined
module _ (height : ℕ) (rows rows1 rows2 rows3 : List (List ℤ)) (y y1 y2 : List ℤ) (q : List ℤ) (r : ℕ) (within : r < length rows)
    (first : rows1 ≡ slice_set rows r y) (aside : y1 ≡ slice_index_or rows r []) (others : OthersCombined height rows1 rows2 q r y1) (again : rows3 ≡ slice_set rows2 r y1) (back : y2 ≡ slice_index_or rows2 r []) where
  many1 : length rows1 ≡ length rows
  many1 = ap length first ∙ length-set rows r y

  many2 : length rows2 ≡ length rows
  many2 = others.many ∙ many1

  many3 : length rows3 ≡ length rows
  many3 = ap length again ∙ length-set rows2 r y1 ∙ many2

  apart1 : (k : ℕ) → k ≢ r → slice_index_or rows1 k [] ≡ slice_index_or rows k []
  apart1 k ne = ap (λ (z : List (List ℤ)). slice_index_or z k []) first ∙ get_or-set_other rows r k y [] ne

  apart3 : (k : ℕ) → k ≢ r → slice_index_or rows3 k [] ≡ slice_index_or rows2 k []
  apart3 k ne = ap (λ (z : List (List ℤ)). slice_index_or z k []) again ∙ get_or-set_other rows2 r k y1 [] ne

  at_r : slice_index_or rows3 r [] ≡ slice_index_or rows r []
  at_r = ap (λ (z : List (List ℤ)). slice_index_or z r []) again ∙ get_or-set_same rows2 r y1 [] (let e = many2 in omega arith) ∙ aside

  pub y_back : y2 ≡ y
  y_back = back ∙ others.kept ∙ ap (λ (z : List (List ℤ)). slice_index_or z r []) first ∙ get_or-set_same rows r y [] within

  pub pivot_back : (x : List ℤ) → x ≡ slice_index_or rows3 r x → x ≡ slice_index_or rows r []
  pivot_back x is = get_or_read rows3 r x (let e = many3 in omega arith) is [] ∙ at_r

  pub rows_combined : OthersCombined height rows rows3 q r (slice_index_or rows r [])
  rows_combined = record {
    many = many3;
    wide = λ k h. elim (same_or k r) [
      | inl e ↦ rw e (ap length at_r)
      | inr ne ↦ ap length (apart3 k ne) ∙ others.wide k (let e = many1 in omega arith) ∙ ap length (apart1 k ne)
    ];
    kept = at_r;
    lowest = λ k h ne. turned (front_of height rows1 k) (front_of height rows k) (take height y1) (take height (slice_index_or rows r [])) (front_of height rows2 k) (front_of height rows3 k) (place q r) (place q k)
        (ap (take height) (apart1 k ne)) (ap (take height) aside) (ap (take height) (sym (apart3 k ne))) (others.lowest k (let e = many1 in omega arith) ne);
  }
    where
      turned : (a b c d u w : List ℤ) (s t : ℤ) → a ≡ b → c ≡ d → u ≡ w → IsLowest (combined_rows s t a c) u → IsLowest (combined_rows s t b d) w
      turned a b c d u w s t e f g l = subst (λ (z : List ℤ). IsLowest (combined_rows s t b d) z) g (subst (λ (z : List ℤ). IsLowest (combined_rows s t b z) u) f (subst (λ (z : List ℤ). IsLowest (combined_rows s t z c) u) e l))

-- while it lies apart, what fits still fits
pub aside_fits : (height : ℕ) (rows rows1 : List (List ℤ)) (y y1 : List ℤ) (q : List ℤ) (r : ℕ) → rows1 ≡ slice_set rows r y → y1 ≡ slice_index_or rows r [] → OthersFit height rows q r (slice_index_or rows r []) → OthersFit height rows1 q r y1
aside_fits height rows rows1 y y1 q r first aside fits k h ne =
    turned (front_of height rows k) (front_of height rows1 k) (take height (slice_index_or rows r [])) (take height y1) (place q r) (place q k)
    (ap (take height) (sym (get_or-set_other rows r k y [] ne) ∙ ap (λ (z : List (List ℤ)). slice_index_or z k []) (sym first))) (ap (take height) (sym aside))
    (fits k (let e = ap length first ∙ length-set rows r y in omega arith) ne)
  where
    turned : (a b c d : List ℤ) (s t : ℤ) → a ≡ b → c ≡ d → first_wide (combine_steps s t a c) ≡ None → first_wide (combine_steps s t b d) ≡ None
    turned a b c d s t e f l = subst (λ (z : List ℤ). first_wide (combine_steps s t b z) ≡ None) f (subst (λ (z : List ℤ). first_wide (combine_steps s t z c) ≡ None) e l)

-- ---- as tableaux
front_at : (height : ℕ) (rows : List (List ℤ)) (k : ℕ) → k < length rows → slice_index_or (map (take height) rows) k [] ≡ front_of height rows k
front_at height rows k h = get_or-map (take height) rows k [] [] h

apart_false : (k r : ℕ) → k ≢ r → nat_eq k r ≡ false
apart_false k r ne = grind arith

-- where all that the lists form fits, each row's does
pub others_fit : (height : ℕ) (rows : List (List ℤ)) (q : List ℤ) (r : ℕ) → r < length rows → first_wide (row_steps (map (take height) rows) q r) ≡ None → OthersFit height rows q r (slice_index_or rows r [])
others_fit height rows q r within fits k h ne =
    let lists = map (take height) rows in
    let many = length-map rows (take height) in
    let one = part-fits (row_steps_at lists q r) 0 (length lists) k k (omega arith) (omega arith) fits in
    let two = rw (apart_false k r ne) at one in
    turned (slice_index_or lists k []) (front_of height rows k) (slice_index_or lists r []) (take height (slice_index_or rows r [])) (place q r) (place q k) (front_at height rows k h) (front_at height rows r within) two
  where
    turned : (a b c d : List ℤ) (s t : ℤ) → a ≡ b → c ≡ d → first_wide (combine_steps s t a c) ≡ None → first_wide (combine_steps s t b d) ≡ None
    turned a b c d s t e f l = subst (λ (z : List ℤ). first_wide (combine_steps s t b z) ≡ None) f (subst (λ (z : List ℤ). first_wide (combine_steps s t z c) ≡ None) e l)

pub multipliers_fit : (basis : List Enter) (rows : List (List ℤ)) (y : List ℤ) (rho : ℤ) (q : List ℤ) (gap : ℤ) (r : ℕ) → r < length rows → first_wide (multiplier_steps (held_tableau basis rows y rho) q gap r) ≡ None
    → first_wide (combine_steps (place q r) gap (denominated (length basis) y rho) (denominated (length basis) (slice_index_or rows r []) (pos 0))) ≡ None
multipliers_fit basis rows y rho q gap r within fits =
    subst (λ (z : List ℤ). first_wide (combine_steps (place q r) gap (denominated (length basis) y rho) (z ++ (pos 0 ∷ []))) ≡ None) (front_at (length basis) rows r within) fits

module _ (basis : List Enter) (rows rows' : List (List ℤ)) (y y' : List ℤ) (rho rho' : ℤ) (q : List ℤ) (gap : ℤ) (s : Enter) (r : ℕ) (within : r < length rows) (x : ListsExchanged (length basis) rows rows' y y' rho rho' q r gap) where
  height_kept : length (slice_set basis r s) ≡ length basis
  height_kept = length-set basis r s

  abbrev after : Tableau
  after = record { basis = slice_set basis r s; rows = map (take (length basis)) rows'; y = take (length basis) y'; rho = rho' }

  exchanged_after : Exchanges (held_tableau basis rows y rho) s r q gap after
  exchanged_after =
      let n = length basis in
      let many = length-map rows (take n) in
      let many' = length-map rows' (take n) in
      let same = x.rows.many in
      record {
        basis = refl;
        many = many' ∙ same ∙ sym many;
        kept = front_at n rows' r (omega arith) ∙ ap (take n) x.rows.kept ∙ sym (front_at n rows r within);
        others = λ k h ne. turned (front_of n rows k) _ (front_of n rows r) _ (front_of n rows' k) _ (place q r) (place q k)
            (sym (front_at n rows k (omega arith))) (sym (front_at n rows r within)) (sym (front_at n rows' k (omega arith))) (x.rows.lowest k (omega arith) ne);
        multipliers = subst (λ (z : List ℤ). IsLowest (combined_rows (place q r) gap (denominated n y rho) (z ++ (pos 0 ∷ []))) (denominated n y' rho')) (sym (front_at n rows r within)) x.multipliers;
      }
    where
      turned : (a b c d u w : List ℤ) (s t : ℤ) → a ≡ b → c ≡ d → u ≡ w → IsLowest (combined_rows s t a c) u → IsLowest (combined_rows s t b d) w
      turned a b c d u w s t e f g l = subst (λ (z : List ℤ). IsLowest (combined_rows s t b d) z) g (subst (λ (z : List ℤ). IsLowest (combined_rows s t b z) u) f (subst (λ (z : List ℤ). IsLowest (combined_rows s t z c) u) e l))

  pub exchanged : Exchanges (held_tableau basis rows y rho) s r q gap (held_tableau (slice_set basis r s) rows' y' rho')
  exchanged = subst (λ (n : ℕ). Exchanges (held_tableau basis rows y rho) s r q gap (record { basis = slice_set basis r s; rows = map (take n) rows'; y = take n y'; rho = rho' })) (sym height_kept) exchanged_after
