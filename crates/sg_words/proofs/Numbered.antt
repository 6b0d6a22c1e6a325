-- Arguments that are not two texts and a number, or one text and a number.
use Rattle.std.proofs.Common.{◌≡◌, ℕ, ◌<◌, ◌≤◌, List, [], ◌∷◌, length, map, Bor, None, refl, arith}
use Rattle.sg_words.specs.Words.{Text}
use Rattle.sg_words.specs.Commands.{Asked, with_one_and_number, with_two_and_number}

module _ (command : Text → Text → ℕ → Asked) where
  pub too_few : (texts : List (Bor (List ℕ))) → length texts < 3 → None ≡ with_two_and_number command (map (λ text. text.now) texts)
  too_few [] few = refl
  too_few (a ∷ []) few = refl
  too_few (a ∷ b ∷ []) few = refl
  too_few (a ∷ b ∷ c ∷ texts) few = absurd (omega (arith, few))

  pub too_many : (texts : List (Bor (List ℕ))) → 4 ≤ length texts → None ≡ with_two_and_number command (map (λ text. text.now) texts)
  too_many [] many = absurd (omega (arith, many))
  too_many (a ∷ []) many = absurd (omega (arith, many))
  too_many (a ∷ b ∷ []) many = absurd (omega (arith, many))
  too_many (a ∷ b ∷ c ∷ []) many = absurd (omega (arith, many))
  too_many (a ∷ b ∷ c ∷ d ∷ texts) many = refl

module _ (command : Text → ℕ → Asked) where
  pub one_too_few : (texts : List (Bor (List ℕ))) → length texts < 2 → None ≡ with_one_and_number command (map (λ text. text.now) texts)
  one_too_few [] few = refl
  one_too_few (a ∷ []) few = refl
  one_too_few (a ∷ b ∷ texts) few = absurd (omega (arith, few))

  pub one_too_many : (texts : List (Bor (List ℕ))) → 3 ≤ length texts → None ≡ with_one_and_number command (map (λ text. text.now) texts)
  one_too_many [] many = absurd (omega (arith, many))
  one_too_many (a ∷ []) many = absurd (omega (arith, many))
  one_too_many (a ∷ b ∷ []) many = absurd (omega (arith, many))
  one_too_many (a ∷ b ∷ c ∷ texts) many = refl
