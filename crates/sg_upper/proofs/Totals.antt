-- Sums over numbers in a row, one more at a time.
use Rattle.std.proofs.Common.{◌≡◌, ◌∙◌, ℕ, zero, suc, ◌+◌, ℤ, ◌+ℤ◌, ◌*ℤ◌, arith, ap}
use Rattle.std.proofs.lemmas.Int.{ints}
use Rattle.sg_model.specs.Sums.{numbers_from, total}

pub total-last : (f : ℕ → ℤ) (a n : ℕ) → total f (numbers_from a (n + 1)) ≡ total f (numbers_from a n) +ℤ f (a + n)
total-last f a n = rw add-one (go a n)
  where
    add-one : n + 1 ≡ suc n
    add-one = omega arith

    go : (b m : ℕ) → total f (numbers_from b (suc m)) ≡ total f (numbers_from b m) +ℤ f (b + m)
    go b zero = let same : b ≡ b + zero = omega arith in omega (arith, ints, ap f same)
    go b (suc m) = let same : b + 1 + m ≡ b + suc m = omega arith in omega (arith, ints, go (b + 1) m, ap f same)

-- a product, by its factors
pub product-by : (r a b a' b' : ℤ) → r ≡ a *ℤ b → a ≡ a' → b ≡ b' → r ≡ a' *ℤ b'
product-by r a b a' b' e p q = e ∙ (ap (λ (z : ℤ). z *ℤ b) p ∙ ap (λ (z : ℤ). a' *ℤ z) q)

pub turned : (a b : ℤ) → a *ℤ b ≡ b *ℤ a
turned a b = omega (arith, ints)
