-- Numbers by place: one more, and differences of payoffs.
use Rattle.std.proofs.Common.{◌≡◌, ◌∙◌, ℕ, ◌+◌, ◌<◌, List, [], ◌∷◌, ◌++◌, length, slice_index_or, sym, ap, subst, refl, arith, inl, inr, length-append}
use Rattle.std.specs.Prelude.{ℤ, pos}
use Rattle.std.specs.List.{All}
use Rattle.std.proofs.lemmas.Bool.{cases_eq}
use Rattle.std.proofs.lemmas.List.{get_or_append_left, get_or-append-add, get_or_default}
use Rattle.sg_rows.specs.Rows.{place}
use Rattle.sg_dobss.specs.Paying.{AreNumbers}

pub none : (f : ℕ → ℤ) → AreNumbers 0 f []
none f = record { long = refl; each = λ k lt. absurd (omega arith) }

pub push : (n : ℕ) (f : ℕ → ℤ) (xs : List ℤ) (v : ℤ) → AreNumbers n f xs → v ≡ f n → AreNumbers (n + 1) f (xs ++ v ∷ [])
push n f xs v h e = record {
  long = omega (arith, length-append xs (v ∷ []), h.long);
  each = λ k lt. elim (cases_eq k n) [
    | inl same ↦ (
        let at : k ≡ length xs + 0 = omega (arith, same, h.long) in
        ap (λ (i : ℕ). place (xs ++ v ∷ []) i) at ∙ get_or-append-add xs (v ∷ []) 0 (pos 0) ∙ e ∙ ap f (sym same))
    | inr other ↦ get_or_append_left xs (v ∷ []) (pos 0) k (omega (arith, lt, h.long)) ∙ h.each k (omega (arith, lt))
  ];
}

-- what holds of each f k holds of all numbers
pub all-numbers : (P : ℤ → Type 0) (n : ℕ) (f : ℕ → ℤ) (xs : List ℤ) → AreNumbers n f xs → ((k : ℕ) → k < n → P (f k)) → All P xs
all-numbers P n f xs h each = λ k d lt.
    let within : k < n = omega (arith, lt, h.long) in
    let e : place xs k ≡ f k = h.each k within in
    let same : place xs k ≡ slice_index_or xs k d = get_or_default xs k (pos 0) d lt in
    subst P (sym e ∙ same) (each k within)

pub same-numbers : (n : ℕ) (f h : ℕ → ℤ) (xs : List ℤ) → AreNumbers n f xs → ((k : ℕ) → k < n → f k ≡ h k) → AreNumbers n h xs
same-numbers n f h xs are e = record { long = are.long; each = λ k lt. are.each k lt ∙ e k lt }
