-- The greatest of lists of payoffs, one list more at a time, and sums of priors.
use Rattle.std.proofs.Common.{◌≡◌, ◌≢◌, ◌∙◌, ℕ, zero, suc, ◌+◌, ◌≤◌, List, [], ◌∷◌, ◌++◌, map, length, ℤ, pos, ◌+ℤ◌, refl, ap, sym, arith, inl, inr}
use Rattle.std.specs.Int.{int_max}
use Rattle.std.specs.List.{flat_map}
use Rattle.std.proofs.lemmas.Int.{int_max_is, ints}
use Rattle.sg_model.specs.Sums.{greatest, numbers, numbers_from, nth, total}
use Rattle.sg_model.specs.Games.{Game, action_count, attacker}
use Rattle.sg_model.specs.Limits.{IsGame, IsPay}
use Rattle.sg_model.specs.Payoffs.{payoffs_at, payoffs_of}
use Rattle.sg_model.proofs.Forms.{no_matrix}
use Rattle.sg_model.proofs.Promises.{game_cases, peopled, yes_matrix}
use Rattle.sg_game.proofs.Spreads.{append-some, greatest-append, items-more, lists-more}
use Rattle.sg_tree.specs.declared.fix.Fix.{Fix}
use Rattle.sg_bounds.specs.Sizes.{fixed_priors}

items-some : (f : ℕ → ℤ) (n : ℕ) → 1 ≤ n → map f (numbers n) ≢ []
items-some f zero le = absurd (omega arith)
items-some f (suc n) le = (λ e. cc)

one-some : (x : ℤ) → ◌≢◌ {A = List ℤ} (x ∷ []) []
one-some x = (λ e. cc)

-- one number more
pub greatest-more : (f : ℕ → ℤ) (n : ℕ) → 1 ≤ n → greatest (map f (numbers (n + 1))) ≡ int_max (greatest (map f (numbers n))) (f (n + 1))
greatest-more f n le = ap greatest (items-more f n) ∙ greatest-append (map f (numbers n)) (f (n + 1) ∷ []) (items-some f n le) (one-some (f (n + 1)))

lists-some : (f : ℕ → List ℤ) (n : ℕ) → 1 ≤ n → f 1 ≢ [] → flat_map f (numbers n) ≢ []
lists-some f zero le first = absurd (omega arith)
lists-some f (suc n) le first = append-some (f 1) (flat_map f (numbers_from 2 n)) first

-- one list more
pub lists-greatest : (f : ℕ → List ℤ) (n : ℕ) → 1 ≤ n → f 1 ≢ [] → f (n + 1) ≢ [] → greatest (flat_map f (numbers (n + 1))) ≡ int_max (greatest (flat_map f (numbers n))) (greatest (f (n + 1)))
lists-greatest f n le first next = ap greatest (lists-more f n) ∙ greatest-append (flat_map f (numbers n)) (f (n + 1)) (lists-some f n le first) next

lists-first : (f : ℕ → List ℤ) → flat_map f (numbers 1) ≡ f 1
lists-first f = append-nil (f 1)
  where
    append-nil : (xs : List ℤ) → xs ++ [] ≡ xs
    append-nil [] = refl
    append-nil (x ∷ xs) = ap (λ ys. x ∷ ys) (append-nil xs)

pub first-greatest : (f : ℕ → List ℤ) → greatest (f 1) ≡ greatest (flat_map f (numbers 1))
first-greatest f = ap greatest (sym (lists-first f))

payoffs-at_some : (g : Game) → IsGame g → (l a : ℕ) → payoffs_at g l a ≢ []
payoffs-at_some g h l a = elim (game_cases g h) [
  | inl s ↦ rw (no_matrix g s.kind) (λ e. cc)
  | inr m ↦ rw (yes_matrix g m.kind) (items-some (λ r. nth (nth (attacker g l).leader r []) a (pos 0)) (length g.goals) m.game.row_count.at_least)
]

-- the defender has a payoff against each type
pub payoffs-some : (g : Game) → IsGame g → (l : ℕ) → 1 ≤ l → l ≤ length g.types → payoffs_of g l ≢ []
payoffs-some g h l low high = lists-some (payoffs_at g l) (action_count g l) ((peopled g h).actions l low high) (payoffs-at_some g h l 1)

-- the fixed types in a row
pub fixed-row : (g : Game) (fix : Fix) → fixed_priors g fix ≡ total (λ l. (attacker g l).prior) (numbers_from fix.first (length fix.acts))
fixed-row g fix = go fix.first fix.acts
  where
    go : (a : ℕ) (acts : List ℕ) → fixed_priors g (record { first = a; acts = acts }) ≡ total (λ l. (attacker g l).prior) (numbers_from a (length acts))
    go a [] = refl
    go a (c ∷ cs) = ap (λ z. (attacker g a).prior +ℤ z) (go (a + 1) cs)

-- a larger number, by what it is the larger of
pub larger-is : (m r a b a' b' : ℤ) → r ≡ int_max a b → a ≡ a' → b ≡ b' → m ≡ int_max a' b' → r ≡ m
larger-is m r a b a' b' e p q h = e ∙ (ap (λ z. int_max z b) p ∙ (ap (λ z. int_max a' z) q ∙ sym h))

pub larger-pay : (m a b : ℤ) → m ≡ int_max a b → IsPay a → IsPay b → IsPay m
larger-pay m a b e p q = let is = int_max_is a b in record { at_least = omega (arith, ints, e, is, p.at_least, q.at_least); at_most = omega (arith, ints, e, is, p.at_most, q.at_most) }
