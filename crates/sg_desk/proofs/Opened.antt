-- What is taken of the open types: their caps with their priors.
use Rattle.std.proofs.Common.{◌≡◌, ℕ, zero, suc, ◌+◌, ◌-◌, ◌<◌, ◌≤◌, [], length, ℤ, ◌-ℤ◌, ◌*ℤ◌, refl, ap, arith}
use Rattle.std.proofs.lemmas.Int.{ints}
use Rattle.sg_model.specs.Sums.{numbers, numbers_from, total}
use Rattle.sg_model.specs.Games.{Game, attacker}
use Rattle.sg_model.specs.Payoffs.{shift_of}
use Rattle.sg_tree.specs.declared.report.Cap.{Cap}
use Rattle.sg_bounds.specs.Caps.{cap_of}
use Rattle.sg_bounds.specs.Leaves.{rest_of}
use Rattle.sg_search.proofs.Fitting.{cap-map}
use Rattle.sg_desk.specs.Bounding.{end_cap, end_caps}
use Rattle.sg_desk.specs.declared.bounding.Caps.{Caps}

-- sums of the same numbers
pub total-range : (f h : ℕ → ℤ) (a n : ℕ) → ((l : ℕ) → a ≤ l → l < a + n → f l ≡ h l) → total f (numbers_from a n) ≡ total h (numbers_from a n)
total-range f h a zero same = refl
total-range f h a (suc n) same =
    let here = same a (omega arith) (omega arith) in
    let rest = total-range f h (a + 1) n (λ l low high. same l (omega (arith, low)) (omega (arith, high))) in
    omega (arith, ints, here, rest)

cap-is : (g : Game) (caps : Caps) (l : ℕ) → 2 ≤ l → l ≤ length g.types → (cap_of (end_caps g caps) l).v ≡ end_cap g caps l
cap-is g caps l low high = ap (λ (c : Cap). c.v) (cap-map g (λ l. record { l = l; v = end_cap g caps l; proof = [] }) l low high)

-- the rest, where at least one type is fixed
pub rest-is : (g : Game) (caps : Caps) (n : ℕ) → 1 ≤ n → n ≤ length g.types
    → rest_of g (end_caps g caps) n ≡ total (λ l. (attacker g l).prior *ℤ end_cap g caps l) (numbers_from (n + 1) (length g.types - n)) -ℤ (shift_of g *ℤ total (λ l. (attacker g l).prior) (numbers n))
rest-is g caps n low high =
    ap (λ z. z -ℤ (shift_of g *ℤ total (λ l. (attacker g l).prior) (numbers n)))
    (total-range (λ l. (attacker g l).prior *ℤ (cap_of (end_caps g caps) l).v) (λ l. (attacker g l).prior *ℤ end_cap g caps l) (n + 1) (length g.types - n)
    (λ l from to. ap (λ z. (attacker g l).prior *ℤ z) (cap-is g caps l (omega (arith, low, from)) (omega (arith, to, high)))))
