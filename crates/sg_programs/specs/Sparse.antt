-- Products of two rows in which most places count nothing: what is formed at the places that are kept.
use Rattle.std.specs.Prelude.{◌≡◌, ℕ, ◌+◌, ◌⊎◌, List, [], ◌∷◌, ℤ, pos, ◌+ℤ◌, ◌*ℤ◌}
use Rattle.sg_num.specs.declared.step.Wide.{Wide}
use Rattle.sg_num.specs.Operations.{plus, times}

-- acc and the products at these places, place by place: each product, and the sum so far with it
abbrev pub steps_at : (ℕ → ℤ) → (ℕ → ℤ) → ℤ → List ℕ → List Wide
steps_at x y acc [] = []
steps_at x y acc (j ∷ js) = times (x j) (y j) ∷ plus acc (x j *ℤ y j) ∷ steps_at x y (acc +ℤ (x j *ℤ y j)) js

-- the value of that
abbrev pub sum_at : (ℕ → ℤ) → (ℕ → ℤ) → ℤ → List ℕ → ℤ
sum_at x y acc [] = acc
sum_at x y acc (j ∷ js) = sum_at x y (acc +ℤ (x j *ℤ y j)) js

-- of two rows whose first place is j, these are the places in order, but for some whose product is 0
abbrev pub AreKept : ℕ → List ℤ → List ℤ → List ℕ → Type 0
AreKept j [] ys js = js ≡ []
AreKept j (x ∷ xs) [] js = js ≡ []
AreKept j (x ∷ xs) (y ∷ ys) js = ((ks : List ℕ) × (js ≡ j ∷ ks) × AreKept (j + 1) xs ys ks) ⊎ ((x *ℤ y ≡ pos 0) × AreKept (j + 1) xs ys js)
