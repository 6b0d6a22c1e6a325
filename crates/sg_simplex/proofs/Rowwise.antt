-- The products and the combinations of the lists, one row at a time.
use Rattle.std.proofs.Common.{◌≡◌, ◌≢◌, ℕ, suc, ◌+◌, ◌-◌, ◌<◌, ◌≤◌, Bool, true, false, cond, List, [], ◌∷◌, ◌++◌, map, flat_map, drop, length, slice_index_or, slice_set, pos, ℤ, refl, sym, ◌∙◌, ap, arith, Result, Ok, Err}
use Rattle.std.specs.Prelude.{nat_eq}
use Rattle.std.specs.List.{range_with_len}
use Rattle.std.proofs.lemmas.List.{drop_all, drop_more, ext_get_or, get_or-map, length-map}
use Rattle.sg_num.specs.declared.step.Wide.{Wide}
use Rattle.sg_num.specs.Exact.{and_then}
use Rattle.sg_num.specs.Operations.{formed, is_formed}
use Rattle.sg_rows.specs.Rows.{combine_steps, dot_from, dot_steps, place}
use Rattle.sg_rows.proofs.Fitting.{Ok-fits, fits-formed, formed-append}
use Rattle.sg_lp.specs.Moves.{row_steps, row_steps_at}
use Rattle.sg_lp.proofs.Ranges.{place_written}

-- what stops one value stops each, and what fits for one fits for each
pub stops_any : {A B : Type 0} (steps : List Wide) (v : A) (u : B) (w : Wide) → ◌≡◌ {A = Result A Wide} (Err w) (formed steps v) → ◌≡◌ {A = Result B Wide} (formed steps u) (Err w)
stops_any {A} {B} [] v u w e = absurd (clash e)
  where
    clash : ◌≡◌ {A = Result A Wide} (Err w) (Ok v) → ⊥
    clash q = cc
stops_any {A} {B} (s ∷ ss) v u w e = go (is_formed s) (λ q. stops_any ss v u w q) e
  where
    go : (t : Bool) → (◌≡◌ {A = Result A Wide} (Err w) (formed ss v) → ◌≡◌ {A = Result B Wide} (formed ss u) (Err w)) → ◌≡◌ {A = Result A Wide} (Err w) (cond t (formed ss v) (Err s)) → ◌≡◌ {A = Result B Wide} (cond t (formed ss u) (Err s)) (Err w)
    go true rec q = rec q
    go false rec q = let same : w ≡ s = cc in ap (λ (x : Wide). Err x) (sym same)

pub fits_any : {A B : Type 0} (steps : List Wide) (v x : A) (u : B) → ◌≡◌ {A = Result A Wide} (Ok x) (formed steps v) → ◌≡◌ {A = Result B Wide} (formed steps u) (Ok u)
fits_any {A} {B} steps v x u e = fits-formed steps u (Ok-fits steps v x e)

abbrev pub Told : Type 0
Told = Result (Unit {0}) Wide

-- a part that is formed goes, and one that stops decides
pub goes : (part rest : List Wide) → ◌≡◌ {A = Told} (formed part tt) (Ok tt) → ◌≡◌ {A = Told} (formed (part ++ rest) tt) (formed rest tt)
goes part rest e = formed-append part rest tt ∙ ap (λ (r : Told). and_then r (λ _. formed rest tt)) e

pub stops : (part rest : List Wide) (w : Wide) → ◌≡◌ {A = Told} (formed part tt) (Err w) → ◌≡◌ {A = Told} (formed (part ++ rest) tt) (Err w)
stops part rest w e = formed-append part rest tt ∙ ap (λ (r : Told). and_then r (λ _. formed rest tt)) e

-- ---- products
abbrev pub steps_of : List ℤ → List (List ℤ) → List Wide
steps_of entries rows = flat_map (λ (row : List ℤ). dot_steps (pos 0) row entries) rows

abbrev pub value_at : List ℤ → List (List ℤ) → ℕ → ℤ
value_at entries rows k = dot_from (pos 0) (slice_index_or rows k []) entries

-- the products before row k are written, and what is left to form is what is formed
pub record AreMultiplied (entries : List ℤ) (rows : List (List ℤ)) (n : ℕ) (all : List ℤ) (k : ℕ) : Type 0 where
  pub long : length all ≡ n
  pub written : (j : ℕ) → j < k → place all j ≡ value_at entries rows j
  pub left : ◌≡◌ {A = Told} (formed (steps_of entries rows) tt) (formed (steps_of entries (drop k rows)) tt)

module _ (entries : List ℤ) (rows : List (List ℤ)) (n : ℕ) (all : List ℤ) (k : ℕ) (m : AreMultiplied entries rows n all k) (lt : k < length rows) where
  opened : steps_of entries (drop k rows) ≡ dot_steps (pos 0) (slice_index_or rows k []) entries ++ steps_of entries (drop (k + 1) rows)
  opened = ap (steps_of entries) (drop_more rows k [] lt)

  pub one_multiplied : (v : ℤ) → k < length all → Ok v ≡ formed (dot_steps (pos 0) (slice_index_or rows k []) entries) (value_at entries rows k) → v ≡ value_at entries rows k → AreMultiplied entries rows n (slice_set all k v) (k + 1)
  one_multiplied v h e is =
      let w = place_written (value_at entries rows) n all k v m.long m.written h is in
      record {
        long = w.0;
        written = w.1;
        left = m.left ∙ ap (λ (ws : List Wide). formed ws tt) opened ∙ goes (dot_steps (pos 0) (slice_index_or rows k []) entries) (steps_of entries (drop (k + 1) rows)) (fits_any (dot_steps (pos 0) (slice_index_or rows k []) entries) (value_at entries rows k) v tt e);
      }

  pub one_stops : (w : Wide) → ◌≡◌ {A = Result ℤ Wide} (Err w) (formed (dot_steps (pos 0) (slice_index_or rows k []) entries) (value_at entries rows k)) → ◌≡◌ {A = Told} (Err w) (formed (steps_of entries rows) tt)
  one_stops w e = sym (m.left ∙ ap (λ (ws : List Wide). formed ws tt) opened ∙ stops (dot_steps (pos 0) (slice_index_or rows k []) entries) (steps_of entries (drop (k + 1) rows)) w (stops_any (dot_steps (pos 0) (slice_index_or rows k []) entries) (value_at entries rows k) tt w e))

-- the product of a list with the entries
abbrev product_of : List ℤ → List ℤ → ℤ
product_of entries row = dot_from (pos 0) row entries

pub all_multiplied : (entries : List ℤ) (rows : List (List ℤ)) (all : List ℤ) (k : ℕ) → AreMultiplied entries rows (length rows) all k → length rows ≤ k
    → (◌≡◌ {A = Told} (Ok tt) (formed (steps_of entries rows) tt)) × (all ≡ map (λ (row : List ℤ). dot_from (pos 0) row entries) rows)
all_multiplied entries rows all k m h = (
  sym (m.left ∙ ap (λ (z : List (List ℤ)). formed (steps_of entries z) tt) (drop_all k rows h)),
  ext_get_or (pos 0) all (map (product_of entries) rows) (m.long ∙ sym (length-map rows (product_of entries))) (λ j l. m.written j (let e = m.long in omega arith) ∙ sym (get_or-map (product_of entries) rows j [] (pos 0) (let e = m.long in omega arith))),
)

-- ---- combinations
same_true : (k r : ℕ) → k ≡ r → nat_eq k r ≡ true
same_true k r e = grind arith

apart_false : (k r : ℕ) → k ≢ r → nat_eq k r ≡ false
apart_false k r ne = grind arith

pub leaving_steps : (rows : List (List ℤ)) (q : List ℤ) (r k : ℕ) → k ≡ r → row_steps_at rows q r k ≡ []
leaving_steps rows q r k e = rw (same_true k r e) refl

pub other_steps : (rows : List (List ℤ)) (q : List ℤ) (r k : ℕ) → k ≢ r → row_steps_at rows q r k ≡ combine_steps (place q r) (place q k) (slice_index_or rows k []) (slice_index_or rows r [])
other_steps rows q r k ne = rw (apart_false k r ne) refl

-- from row k on
abbrev pub from_row : List (List ℤ) → List ℤ → ℕ → ℕ → List Wide
from_row rows q r k = flat_map (row_steps_at rows q r) (range_with_len k (length rows - k))

range-first : (k n : ℕ) → k < n → range_with_len k (n - k) ≡ k ∷ range_with_len (k + 1) (n - (k + 1))
range-first k n h = let e : n - k ≡ suc (n - (k + 1)) = omega arith in ap (range_with_len k) e

row-first : (rows : List (List ℤ)) (q : List ℤ) (r k : ℕ) → k < length rows → from_row rows q r k ≡ row_steps_at rows q r k ++ from_row rows q r (k + 1)
row-first rows q r k h = ap (flat_map (row_steps_at rows q r)) (range-first k (length rows) h)

pub from_start : (rows : List (List ℤ)) (q : List ℤ) (r : ℕ) → ◌≡◌ {A = Told} (formed (row_steps rows q r) tt) (formed (from_row rows q r 0) tt)
from_start rows q r = let e : length rows ≡ length rows - 0 = omega arith in ap (λ (z : ℕ). formed (flat_map (row_steps_at rows q r) (range_with_len 0 z)) tt) e

pub row_goes : (rows : List (List ℤ)) (q : List ℤ) (r k : ℕ) → k < length rows → ◌≡◌ {A = Told} (Ok tt) (formed (row_steps_at rows q r k) tt) → ◌≡◌ {A = Told} (formed (from_row rows q r k) tt) (formed (from_row rows q r (k + 1)) tt)
row_goes rows q r k h e = ap (λ (ws : List Wide). formed ws tt) (row-first rows q r k h) ∙ goes (row_steps_at rows q r k) (from_row rows q r (k + 1)) (sym e)

pub row_stops : (rows : List (List ℤ)) (q : List ℤ) (r k : ℕ) (w : Wide) → k < length rows → ◌≡◌ {A = Told} (Err w) (formed (row_steps_at rows q r k) tt) → ◌≡◌ {A = Told} (formed (from_row rows q r k) tt) (Err w)
row_stops rows q r k w h e = ap (λ (ws : List Wide). formed ws tt) (row-first rows q r k h) ∙ stops (row_steps_at rows q r k) (from_row rows q r (k + 1)) w (sym e)

pub row_ends : (rows : List (List ℤ)) (q : List ℤ) (r k : ℕ) → length rows ≤ k → ◌≡◌ {A = Told} (formed (from_row rows q r k) tt) (Ok tt)
row_ends rows q r k h = let e : length rows - k ≡ 0 = omega arith in ap (λ (z : ℕ). formed (flat_map (row_steps_at rows q r) (range_with_len k z)) tt) e
