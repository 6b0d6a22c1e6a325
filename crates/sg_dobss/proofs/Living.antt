-- The multipliers other than 0, by their places.
use Rattle.std.proofs.Common.{◌≡◌, ◌∙◌, ℕ, zero, suc, ◌+◌, ◌<◌, ◌≤◌, Bool, false, List, [], ◌∷◌, ◌++◌, length, take, drop, sym, ap, subst, refl, arith, inl, inr, set}
use Rattle.std.specs.Prelude.{ℤ, pos, negsuc, ◌*ℤ◌}
use Rattle.std.specs.List.{All}
use Rattle.std.proofs.lemmas.List.{append-nil, append_assoc, drop_all, drop_more, length-set, take_more_set}
use Rattle.std.proofs.lemmas.List.Elements.{All-append, All-cons, All-nil}
use Rattle.sg_num.proofs.Laws.{zero-mul}
use Rattle.sg_rows.specs.Rows.{place}
use Rattle.sg_programs.specs.Sparse.{AreKept}
use Rattle.sg_dobss.specs.Tests.{is_nonzero}

-- the places up to j: what is kept behind them is kept with them in front
pub record IsLiving (y : List ℤ) (j : ℕ) (js : List ℕ) : Type 0 where
  pub within : All (λ i. i < length y) js
  pub kept : (ys : List ℤ) → length ys ≡ length y → (ks : List ℕ) → AreKept j (drop j y) (drop j ys) ks → AreKept 0 y ys (js ++ ks)

pub living-start : (y : List ℤ) → IsLiving y 0 []
living-start y = record { within = All-nil (λ i. i < length y); kept = λ ys long ks h. h }

is-zero : (z : ℤ) → is_nonzero z ≡ false → z ≡ pos 0
is-zero (pos zero) e = refl
is-zero (pos (suc n)) e = cc
is-zero (negsuc n) e = cc

-- both lists from j on, opened
opened : (y ys : List ℤ) (j : ℕ) (ks : List ℕ) → j < length y → length ys ≡ length y → AreKept j (place y j ∷ drop (j + 1) y) (place ys j ∷ drop (j + 1) ys) ks → AreKept j (drop j y) (drop j ys) ks
opened y ys j ks lt long h =
    let e : drop j y ≡ place y j ∷ drop (j + 1) y = drop_more y j (pos 0) lt in
    let f : drop j ys ≡ place ys j ∷ drop (j + 1) ys = drop_more ys j (pos 0) (omega (arith, lt, long)) in
    subst (λ z. AreKept j z (drop j ys) ks) (sym e) (subst (λ z. AreKept j (place y j ∷ drop (j + 1) y) z ks) (sym f) h)

pub living-zero : (y : List ℤ) (j : ℕ) (js : List ℕ) → j < length y → is_nonzero (place y j) ≡ false → IsLiving y j js → IsLiving y (j + 1) js
living-zero y j js lt e is = record {
  within = is.within;
  kept = λ ys long ks h.
      let none : place y j *ℤ place ys j ≡ pos 0 = ap (λ z. z *ℤ place ys j) (is-zero (place y j) e) ∙ zero-mul (place ys j) in
      is.kept ys long ks (opened y ys j ks lt long (inr (none, h)));
}

pub living-more : (y : List ℤ) (j n : ℕ) (places : List ℕ) → j < length y → n < length places → IsLiving y j (take n places) → IsLiving y (j + 1) (take (n + 1) (set places n j))
living-more y j n places lt room is =
    let e : take (n + 1) (set places n j) ≡ take n places ++ j ∷ [] = take_more_set places n j room in
    subst (IsLiving y (j + 1)) (sym e) (record {
      within = All-append (λ i. i < length y) (take n places) (j ∷ []) is.within (All-cons (λ i. i < length y) j [] lt (All-nil (λ i. i < length y)));
      kept = λ ys long ks h.
          subst (AreKept 0 y ys) (sym (append_assoc (take n places) (j ∷ []) ks))
          (is.kept ys long (j ∷ ks) (opened y ys j (j ∷ ks) lt long (inl (ks, refl, h))));
    })

pub living-all : (y : List ℤ) (j : ℕ) (js : List ℕ) → length y ≤ j → IsLiving y j js → (ys : List ℤ) → length ys ≡ length y → AreKept 0 y ys js
living-all y j js le is ys long =
    let e : drop j y ≡ [] = drop_all j y le in
    subst (AreKept 0 y ys) (append-nil js) (is.kept ys long [] (subst (λ z. AreKept j z (drop j ys) []) (sym e) refl))

-- as the places are written
pub living-more-by : (y : List ℤ) (j n : ℕ) (places more : List ℕ) (count : ℕ) → j < length y → length y ≤ 1536 → n ≤ j → length places ≡ 1536 → IsLiving y j (take n places) → more ≡ set places n j → count ≡ n + 1
    → (count ≤ j + 1) × (length more ≡ 1536) × IsLiving y (j + 1) (take count more)
living-more-by y j n places more count lt few le long is e f =
    let is_next : IsLiving y (j + 1) (take (n + 1) (set places n j)) = living-more y j n places lt (omega (arith, lt, few, le, long)) is in
    (omega (arith, f, le), ap length e ∙ (length-set places n j ∙ long), subst (λ k. IsLiving y (j + 1) (take k more)) (sym f) (subst (λ xs. IsLiving y (j + 1) (take (n + 1) xs)) (sym e) is_next))

pub living-zero-by : (y : List ℤ) (j n : ℕ) (places same : List ℕ) (count : ℕ) (live : Bool) → j < length y → live ≡ is_nonzero (place y j) → live ≡ false → n ≤ j → length places ≡ 1536 → IsLiving y j (take n places) → same ≡ places → count ≡ n
    → (count ≤ j + 1) × (length same ≡ 1536) × IsLiving y (j + 1) (take count same)
living-zero-by y j n places same count live lt tested off le long is e f =
    let is_next : IsLiving y (j + 1) (take n places) = living-zero y j (take n places) lt (sym tested ∙ off) is in
    (omega (arith, f, le), ap length e ∙ long, subst (λ k. IsLiving y (j + 1) (take k same)) (sym f) (subst (λ xs. IsLiving y (j + 1) (take n xs)) (sym e) is_next))
