-- The first places of rows.
use Rattle.std.proofs.Common.{◌≡◌, ℕ, ◌+◌, ◌-◌, ◌<◌, List, [], ◌∷◌, ◌++◌, length, map, take, slice_index_or, replicate, ap, arith, sym, ◌∙◌, subst}
use Rattle.std.specs.Prelude.{ℤ, pos, All}
use Rattle.std.specs.List.{range_with_len}
use Rattle.std.proofs.lemmas.List.{ext_get_or, get_or-replicate, length-replicate, length-take, map_push, take-take}
use Rattle.std.proofs.lemmas.List.Elements.{All-append, All-cons, All-from_get_or, All-nil}
use Rattle.std.proofs.lemmas.List.FromFn.{get_or-map-range_with_len, length-map-range_with_len, map-range_with_len_more}
use Rattle.sg_linear.specs.Sums.{unit}
use Rattle.sg_linear.proofs.Products.{unit-apart}
use Rattle.sg_rows.specs.Rows.{IsLowest, combined_rows}
use Rattle.sg_pool.specs.Pools.{PoolView}
use Rattle.sg_pool.specs.Lending.{with_places}
use Rattle.sg_pool.proofs.Places.{with_places-is}
use Rattle.sg_lp.specs.Exchanging.{denominated}
use Rattle.sg_lp.specs.Pooled.{taken_from}
use Rattle.sg_lp.specs.States.{AreHeld, StateView, held_tableau, start_of, unit_row}
use Rattle.sg_lp.specs.declared.column.Enter.{Enter}
use Rattle.sg_lp.specs.declared.column.Enter.TheVariants.{Slack}

pub front_of_places : (height : ℕ) (row numbers : List ℤ) → length numbers ≡ length row → take height (with_places row numbers) ≡ take height numbers
front_of_places height row numbers long = ap (take height) (with_places-is row numbers long)

pub length-with_places : (row numbers : List ℤ) → length numbers ≡ length row → length (with_places row numbers) ≡ length row
length-with_places row numbers long = ap length (with_places-is row numbers long) ∙ long

-- what was combined in places that were lent is combined in the row
pub lowest_of_front : (h : ℕ) (p q : ℤ) (row places pivot other numbers : List ℤ) → places ≡ row → other ≡ take h pivot → length numbers ≡ length row → IsLowest (combined_rows p q (take h places) other) (take h numbers)
    → IsLowest (combined_rows p q (take h row) (take h pivot)) (take h (with_places row numbers))
lowest_of_front h p q row places pivot other numbers er ep long l =
    subst (λ (z : List ℤ). IsLowest (combined_rows p q (take h row) (take h pivot)) z) (sym (front_of_places h row numbers long))
    (subst (λ (z : List ℤ). IsLowest (combined_rows p q (take h row) z) (take h numbers)) ep (subst (λ (z : List ℤ). IsLowest (combined_rows p q (take h z) other) (take h numbers)) er l))

pub lowest_of_front_with : (h : ℕ) (rho rho' p gap : ℤ) (row places pivot other numbers : List ℤ) → places ≡ row → other ≡ take h pivot → length numbers ≡ length row
    → IsLowest (combined_rows p gap (denominated h places rho) (other ++ (pos 0 ∷ []))) (denominated h numbers rho') → IsLowest (combined_rows p gap (denominated h row rho) (denominated h pivot (pos 0))) (denominated h (with_places row numbers) rho')
lowest_of_front_with h rho rho' p gap row places pivot other numbers er ep long l =
    subst (λ (z : List ℤ). IsLowest (combined_rows p gap (denominated h row rho) (denominated h pivot (pos 0))) (z ++ (rho' ∷ []))) (sym (front_of_places h row numbers long))
    (subst (λ (z : List ℤ). IsLowest (combined_rows p gap (denominated h row rho) (z ++ (pos 0 ∷ []))) (denominated h numbers rho')) ep
    (subst (λ (z : List ℤ). IsLowest (combined_rows p gap (denominated h z rho) (other ++ (pos 0 ∷ []))) (denominated h numbers rho')) er l))

-- rows of the same number and width hold a tableau of the same height
pub held_after : (h h' w : ℕ) (rows rows' : List (List ℤ)) (y y' : List ℤ) → AreHeld h w rows y → h' ≡ h → length rows' ≡ length rows → ((k : ℕ) → k < length rows → length (slice_index_or rows' k []) ≡ length (slice_index_or rows k [])) → length y' ≡ length y → AreHeld h' w rows' y'
held_after h h' w rows rows' y y' held e many wide y_wide = record {
  fits = (let f = held.fits in omega arith);
  many = many ∙ held.many ∙ sym e;
  wide = All-from_get_or (λ (r : List ℤ). length r ≡ w) rows' [] (λ k l. let lt : k < length rows = (let m = many in omega arith) in wide k lt ∙ held.wide k [] lt);
  y_wide = y_wide ∙ held.y_wide;
}

-- the list of a place past the end has zeros alone
pub zeros_is : (n : ℕ) → unit_row n n ≡ replicate n (pos 0)
zeros_is n = ext_get_or (pos 0) (unit_row n n) (replicate n (pos 0)) (long ∙ sym (length-replicate n (pos 0)))
    (λ j h. let l = long in let in_n : j < n = omega arith in get_or-map-range_with_len (unit n) 0 n j j (pos 0) in_n (omega arith) ∙ unit-apart n j (omega arith) ∙ sym (get_or-replicate n j (pos 0) (pos 0) in_n))
  where
    long : length (unit_row n n) ≡ n
    long = length-map-range_with_len (unit n) 0 n

pub wide_push : (w : ℕ) (rows more : List (List ℤ)) (row : List ℤ) → more ≡ rows ++ (row ∷ []) → All (λ r. length r ≡ w) rows → length row ≡ w → All (λ r. length r ≡ w) more
wide_push w rows more row e all h = subst (λ (z : List (List ℤ)). All (λ (r : List ℤ). length r ≡ w) z) (sym e)
    (All-append (λ (r : List ℤ). length r ≡ w) rows (row ∷ []) all (All-cons (λ (r : List ℤ). length r ≡ w) row [] h (All-nil (λ (r : List ℤ). length r ≡ w))))

pub fronts_push : (height i : ℕ) (rows more : List (List ℤ)) (row : List ℤ) → more ≡ rows ++ (row ∷ []) → map (take height) rows ≡ map (unit_row height) (range_with_len 0 i) → take height row ≡ unit_row height i
    → map (take height) more ≡ map (unit_row height) (range_with_len 0 (i + 1))
fronts_push height i rows more row e all h =
    ap (map (take height)) e ∙ map_push (take height) rows row
    ∙ ap (λ (z : List (List ℤ)). z ++ (take height row ∷ [])) all
    ∙ ap (λ (z : List ℤ). map (unit_row height) (range_with_len 0 i) ++ (z ∷ [])) h
    ∙ sym (map-range_with_len_more (unit_row height) 0 i i (omega arith))

-- a pool from which one row more was taken
pub taken_more : (before pool now : PoolView) (i : ℕ) → i < length before.free → pool ≡ taken_from before i → now ≡ taken_from pool 1 → now ≡ taken_from before (i + 1)
taken_more before pool now i h e f = f ∙ ap (λ (p : PoolView). taken_from p 1) e ∙ ap (λ (z : List (List ℤ)). record before { free = z }) frees
  where
    frees : take (length (take (length before.free - i) before.free) - 1) (take (length before.free - i) before.free) ≡ take (length before.free - (i + 1)) before.free
    frees = let n = length before.free in
        let long = length-take (n - i) before.free in
        let same : length (take (n - i) before.free) - 1 ≡ n - (i + 1) = omega arith in
        ap (λ (k : ℕ). take k (take (n - i) before.free)) same ∙ take-take (n - (i + 1)) (n - i) before.free (omega arith)

-- the slacks in rows of a pool
pub started : (height : ℕ) (basis : List Enter) (rows : List (List ℤ)) (y : List ℤ) (w width : ℕ) → basis ≡ map Slack (range_with_len 0 height) → map (take height) rows ≡ map (unit_row height) (range_with_len 0 height)
    → take height y ≡ unit_row height height → w ≡ width → ◌≡◌ {A = StateView} (record { tableau = held_tableau basis rows y (pos 1); width = w }) (record { tableau = start_of height; width = width })
started height basis rows y w width eb er ey ew =
    let long : length basis ≡ height = ap length eb ∙ length-map-range_with_len Slack 0 height in
    parts (λ b r z v. record { tableau = record { basis = b; rows = r; y = z; rho = pos 1 }; width = v }) basis _ (map (take (length basis)) rows) _ (take (length basis) y) _ w width
    eb (ap (λ (n : ℕ). map (take n) rows) long ∙ er) (ap (λ (n : ℕ). take n y) long ∙ ey ∙ zeros_is height) ew
  where
    parts : (f : List Enter → List (List ℤ) → List ℤ → ℕ → StateView) (a a' : List Enter) (b b' : List (List ℤ)) (c c' : List ℤ) (d d' : ℕ) → a ≡ a' → b ≡ b' → c ≡ c' → d ≡ d' → f a b c d ≡ f a' b' c' d'
    parts f a a' b b' c c' d d' p q r s = cc
