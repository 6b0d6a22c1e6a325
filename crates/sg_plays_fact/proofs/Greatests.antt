-- The greatest payoffs of a game, type by type.
use Rattle.std.proofs.Common.{◌≡◌, ◌≢◌, ◌∙◌, ℕ, zero, suc, ◌+◌, ◌≤◌, Bool, true, false, List, [], ◌∷◌, ◌++◌, map, length, ℤ, pos, flat_map, inl, inr, sym, ap, refl, arith}
use Rattle.std.specs.Int.{int_max}
use Rattle.std.proofs.lemmas.Int.{int_max_is, ints}
use Rattle.sg_model.specs.Sums.{greatest, numbers, numbers_from}
use Rattle.sg_model.specs.Games.{Game, action_count, is_matrix}
use Rattle.sg_model.specs.Limits.{IsGame}
use Rattle.sg_model.specs.Payoffs.{greatest_of, payoffs_at, payoffs_of}
use Rattle.sg_model.proofs.Numbers.{map-none, numbers-some}
use Rattle.sg_model.proofs.Promises.{game_cases, peopled}
use Rattle.sg_game.proofs.Spreads.{append-some, greatest-append, items-more, lists-more}
use Rattle.sg_bounds.specs.Sizes.{attacker_span}

-- ---- the defender

some-flat : (f : ℕ → List ℤ) (a n : ℕ) → 1 ≤ n → f a ≢ [] → flat_map f (numbers_from a n) ≢ []
some-flat f a zero h some = absurd (omega arith)
some-flat f a (suc n) h some = append-some (f a) (flat_map f (numbers_from (a + 1) n)) some

goals-some : (g : Game) → IsGame g → 1 ≤ length g.goals
goals-some g h = elim (game_cases g h) [ inl s ↦ s.game.target_count.at_least | inr m ↦ m.game.row_count.at_least ]

at-some : (g : Game) → IsGame g → (l a : ℕ) → (b : Bool) → is_matrix g ≡ b → payoffs_at g l a ≢ []
at-some g h l a true e = rw e (λ n. numbers-some (length g.goals) (goals-some g h) (map-none _ (numbers (length g.goals)) n))
at-some g h l a false e = rw e (λ n. cc)

pub payoffs-some : (g : Game) → IsGame g → (l : ℕ) → 1 ≤ l → l ≤ length g.types → payoffs_of g l ≢ []
payoffs-some g h l low high = some-flat (payoffs_at g l) 1 (action_count g l) ((peopled g h).actions l low high) (at-some g h l 1 (is_matrix g) refl)

append_none : (xs : List ℤ) → xs ++ [] ≡ xs
append_none [] = refl
append_none (x ∷ xs) = ap (λ ys. x ∷ ys) (append_none xs)

pub greatest-one : (g : Game) → greatest_of g 1 ≡ greatest (flat_map (payoffs_of g) (numbers 1))
greatest-one g = ap greatest (sym (append_none (payoffs_of g 1)))

pub greatest-more : (g : Game) → IsGame g → (k : ℕ) (most next : ℤ) → 1 ≤ k → k + 1 ≤ length g.types → most ≡ greatest (flat_map (payoffs_of g) (numbers k)) → next ≡ greatest_of g (k + 1)
    → int_max most next ≡ greatest (flat_map (payoffs_of g) (numbers (k + 1)))
greatest-more g h k most next low high e f =
    let before : flat_map (payoffs_of g) (numbers k) ≢ [] = some-flat (payoffs_of g) 1 k low (payoffs-some g h 1 (omega arith) (omega arith)) in
    ap (λ (z : ℤ). int_max z next) e ∙ ap (λ (z : ℤ). int_max (greatest (flat_map (payoffs_of g) (numbers k))) z) f
    ∙ sym (ap greatest (lists-more (payoffs_of g) k) ∙ greatest-append (flat_map (payoffs_of g) (numbers k)) (payoffs_of g (k + 1)) before (payoffs-some g h (k + 1) (omega arith) high))

-- ---- the attacker

one-more : (xs : List ℤ) (y : ℤ) → int_max (pos 1) (greatest (xs ++ y ∷ [])) ≡ int_max (int_max (pos 1) (greatest xs)) y
one-more [] y = omega (arith, ints, int_max_is (pos 1) y, int_max_is (pos 1) (pos 0), int_max_is (int_max (pos 1) (pos 0)) y)
one-more (x ∷ xs) y =
    let a : ℤ = greatest (x ∷ xs) in
    let e : greatest ((x ∷ xs) ++ y ∷ []) ≡ int_max a y = greatest-append (x ∷ xs) (y ∷ []) (λ n. cc) (λ n. cc) in
    ap (int_max (pos 1)) e ∙ omega (arith, ints, int_max_is a y, int_max_is (pos 1) (int_max a y), int_max_is (pos 1) a, int_max_is (int_max (pos 1) a) y)

pub span-none : (g : Game) → pos 1 ≡ int_max (pos 1) (greatest (map (attacker_span g) (numbers 0)))
span-none g = omega (arith, ints, int_max_is (pos 1) (pos 0))

pub span-more : (g : Game) (k : ℕ) (most next : ℤ) → most ≡ int_max (pos 1) (greatest (map (attacker_span g) (numbers k))) → next ≡ attacker_span g (k + 1)
    → int_max most next ≡ int_max (pos 1) (greatest (map (attacker_span g) (numbers (k + 1))))
span-more g k most next e f =
    ap (λ (z : ℤ). int_max z next) e ∙ ap (λ (z : ℤ). int_max (int_max (pos 1) (greatest (map (attacker_span g) (numbers k)))) z) f
    ∙ sym (ap (λ (xs : List ℤ). int_max (pos 1) (greatest xs)) (items-more (attacker_span g) k) ∙ one-more (map (attacker_span g) (numbers k)) (attacker_span g (k + 1)))
