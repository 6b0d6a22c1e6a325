-- Entries other than 0: as they are written, and what is formed of them.
use Rattle.std.proofs.Common.{◌≡◌, ◌∙◌, ℕ, zero, suc, ◌+◌, ◌<◌, ◌≤◌, Bool, true, false, List, [], ◌∷◌, ◌++◌, length, map, drop, sym, ap, refl, arith, get_or}
use Rattle.std.specs.Prelude.{ℤ, pos, negsuc, ◌+ℤ◌, ◌*ℤ◌, if◌then◌else◌}
use Rattle.std.specs.List.{All}
use Rattle.std.proofs.lemmas.Int.{ints}
use Rattle.std.proofs.lemmas.List.{append-nil, append_assoc, drop_all, drop_more}
use Rattle.std.proofs.lemmas.List.Elements.{All-cons, All-nil}
use Rattle.sg_num.proofs.Laws.{mul-comm, zero-mul}
use Rattle.sg_num.specs.Exact.{fits}
use Rattle.sg_num.specs.Operations.{first_wide, plus, times}
use Rattle.sg_linear.specs.Sums.{is_zero_int}
use Rattle.sg_rows.specs.Rows.{dot_from, dot_steps, place}
use Rattle.sg_programs.proofs.Kept.{Gives, after-two, after-zero, gives-first, gives-rest}
use Rattle.sg_eraser.specs.declared.sparse.RowEntry.{RowEntry}
use Rattle.sg_eraser.specs.Nonzero.{nonzero_from, nonzero_steps, nonzero_sum}

-- ---- as they are written: what is written, and what is left to write

module _ {X : Type 0} (h : X → ℤ) (xs : List X) (k : ℕ) (d : X) (written : List RowEntry) (lt : k < length xs) (so-far : written ++ nonzero_from k (map h (drop k xs)) ≡ nonzero_from 0 (map h xs)) where
  opened : written ++ nonzero_from k (h (get_or xs k d) ∷ map h (drop (k + 1) xs)) ≡ nonzero_from 0 (map h xs)
  opened = ap (λ (ys : List X). written ++ nonzero_from k (map h ys)) (sym (drop_more xs k d lt)) ∙ so-far

  pub next-zero : (value : ℤ) (all : List RowEntry) → value ≡ h (get_or xs k d) → is_zero_int value ≡ true → all ≡ written → all ++ nonzero_from (k + 1) (map h (drop (k + 1) xs)) ≡ nonzero_from 0 (map h xs)
  next-zero value all v e is =
      let rest : List ℤ = map h (drop (k + 1) xs) in
      ap (λ (ys : List RowEntry). ys ++ nonzero_from (k + 1) rest) is
      ∙ sym (ap (λ (b : Bool). written ++ (if b then nonzero_from (k + 1) rest else record { row = k; value = h (get_or xs k d) } ∷ nonzero_from (k + 1) rest)) (sym (ap is_zero_int v) ∙ e))
      ∙ opened

  pub next-nonzero : (value : ℤ) (all : List RowEntry) → value ≡ h (get_or xs k d) → is_zero_int value ≡ false → all ≡ written ++ record { row = k; value = value } ∷ []
      → all ++ nonzero_from (k + 1) (map h (drop (k + 1) xs)) ≡ nonzero_from 0 (map h xs)
  next-nonzero value all v e is =
      let rest : List ℤ = map h (drop (k + 1) xs) in
      ap (λ (ys : List RowEntry). ys ++ nonzero_from (k + 1) rest) is
      ∙ append_assoc written (record { row = k; value = value } ∷ []) (nonzero_from (k + 1) rest)
      ∙ ap (λ (z : ℤ). written ++ record { row = k; value = z } ∷ nonzero_from (k + 1) rest) v
      ∙ sym (ap (λ (b : Bool). written ++ (if b then nonzero_from (k + 1) rest else record { row = k; value = h (get_or xs k d) } ∷ nonzero_from (k + 1) rest)) (sym (ap is_zero_int v) ∙ e))
      ∙ opened

pub all-written : {X : Type 0} (h : X → ℤ) (xs : List X) (k : ℕ) (written : List RowEntry) → length xs ≤ k → written ++ nonzero_from k (map h (drop k xs)) ≡ nonzero_from 0 (map h xs) → written ≡ nonzero_from 0 (map h xs)
all-written {X = X} h xs k written le e = sym (append-nil written) ∙ ap (λ (ys : List X). written ++ nonzero_from k (map h ys)) (sym (drop_all k xs le)) ∙ e

-- ---- their rows

pub rows-below : (n m : ℕ) (zs : List ℤ) → n + length zs ≤ m → All (λ (x : RowEntry). x.row < m) (nonzero_from n zs)
rows-below n m [] le = All-nil (λ (x : RowEntry). x.row < m)
rows-below n m (z ∷ zs) le = by (is_zero_int z) (rows-below (n + 1) m zs (omega (arith, le)))
  where
    by : (t : Bool) → All (λ (x : RowEntry). x.row < m) (nonzero_from (n + 1) zs) → All (λ (x : RowEntry). x.row < m) (if t then nonzero_from (n + 1) zs else record { row = n; value = z } ∷ nonzero_from (n + 1) zs)
    by true rest = rest
    by false rest = All-cons (λ (x : RowEntry). x.row < m) (record { row = n; value = z }) (nonzero_from (n + 1) zs) (omega (arith, le)) rest

-- ---- what is formed of them is what is formed of all entries, but for what changes nothing

none : (z w : ℤ) → is_zero_int z ≡ true → w *ℤ z ≡ pos 0
none (pos zero) w e = mul-comm w (pos 0) ∙ zero-mul w
none (pos (suc n)) w e = absurd (cc)
none (negsuc n) w e = absurd (cc)

pub sparse-steps : (y : List ℤ) (n : ℕ) (acc : ℤ) (ys zs : List ℤ) → length ys ≡ length zs → Gives (place y) n ys → fits acc ≡ true → first_wide (dot_steps acc ys zs) ≡ first_wide (nonzero_steps y acc (nonzero_from n zs))
sparse-steps y n acc [] [] long gy f = refl
sparse-steps y n acc [] (z ∷ zs) long gy f = absurd (omega (arith, long))
sparse-steps y n acc (w ∷ ws) [] long gy f = absurd (omega (arith, long))
sparse-steps y n acc (w ∷ ws) (z ∷ zs) long gy f = by (λ more g. sparse-steps y (n + 1) more ws zs (omega (arith, long)) (gives-rest (place y) n w ws gy) g) (is_zero_int z) refl
  where
    here : place y n ≡ w
    here = gives-first (place y) n w ws gy

    by : ((more : ℤ) → fits more ≡ true → first_wide (dot_steps more ws zs) ≡ first_wide (nonzero_steps y more (nonzero_from (n + 1) zs))) → (t : Bool) → is_zero_int z ≡ t → first_wide (times w z ∷ plus acc (w *ℤ z) ∷ dot_steps (acc +ℤ (w *ℤ z)) ws zs) ≡ first_wide (nonzero_steps y acc (if t then nonzero_from (n + 1) zs else record { row = n; value = z } ∷ nonzero_from (n + 1) zs))
    by rest true e =
        let same : acc +ℤ (w *ℤ z) ≡ acc = (let p = none z w e in omega (arith, ints, p)) in
        after-zero w z acc (dot_steps (acc +ℤ (w *ℤ z)) ws zs) (none z w e) f ∙ ap (λ (a : ℤ). first_wide (dot_steps a ws zs)) same ∙ rest acc f
    by rest false e =
        after-two (times w z) (plus acc (w *ℤ z)) (dot_steps (acc +ℤ (w *ℤ z)) ws zs) (nonzero_steps y (acc +ℤ (w *ℤ z)) (nonzero_from (n + 1) zs)) (λ g. rest (acc +ℤ (w *ℤ z)) g)
        ∙ ap (λ (v : ℤ). first_wide (times v z ∷ plus acc (v *ℤ z) ∷ nonzero_steps y (acc +ℤ (v *ℤ z)) (nonzero_from (n + 1) zs))) (sym here)

pub sparse-sum : (y : List ℤ) (n : ℕ) (acc : ℤ) (ys zs : List ℤ) → length ys ≡ length zs → Gives (place y) n ys → dot_from acc ys zs ≡ nonzero_sum y acc (nonzero_from n zs)
sparse-sum y n acc [] [] long gy = refl
sparse-sum y n acc [] (z ∷ zs) long gy = absurd (omega (arith, long))
sparse-sum y n acc (w ∷ ws) [] long gy = absurd (omega (arith, long))
sparse-sum y n acc (w ∷ ws) (z ∷ zs) long gy = by (λ more. sparse-sum y (n + 1) more ws zs (omega (arith, long)) (gives-rest (place y) n w ws gy)) (is_zero_int z) refl
  where
    by : ((more : ℤ) → dot_from more ws zs ≡ nonzero_sum y more (nonzero_from (n + 1) zs)) → (t : Bool) → is_zero_int z ≡ t → dot_from (acc +ℤ (w *ℤ z)) ws zs ≡ nonzero_sum y acc (if t then nonzero_from (n + 1) zs else record { row = n; value = z } ∷ nonzero_from (n + 1) zs)
    by rest true e =
        let same : acc +ℤ (w *ℤ z) ≡ acc = (let p = none z w e in omega (arith, ints, p)) in
        ap (λ (a : ℤ). dot_from a ws zs) same ∙ rest acc
    by rest false e = rest (acc +ℤ (w *ℤ z)) ∙ ap (λ (v : ℤ). nonzero_sum y (acc +ℤ (v *ℤ z)) (nonzero_from (n + 1) zs)) (sym (gives-first (place y) n w ws gy))
