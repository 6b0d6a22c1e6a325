-- How much of the scale each target is covered at a level that is held.
use Rattle.std.proofs.Common.{◌≡◌, ℕ, ◌≤◌, Bool, true, false, cond, List, [], ◌∷◌, length, ℤ, pos, ◌+ℤ◌, ◌-ℤ◌, ◌*ℤ◌, ◌≤ℤ◌, ◌^◌, subst, refl, arith}
use Rattle.std.specs.List.{filter}
use Rattle.std.specs.Prelude.{int_le}
use Rattle.std.proofs.lemmas.Int.{ints}
use Rattle.sg_model.specs.Sums.{total, numbers}
use Rattle.sg_model.specs.Games.{Game, payoff, resource_count}
use Rattle.sg_model.specs.Origami.{share, gap, count_at}
use Rattle.sg_model.proofs.Levels.{multiple_is}
use Rattle.sg_model.proofs.Ints.{v, n, less, times, le_by, le_from, product_nonneg}
use Rattle.sg_model.specs.Fillable.{IsFillable}
use Rattle.sg_origami.specs.Rates.{IsReachable, multiple}
use Rattle.sg_model.proofs.Spans.{multiple_bounds}

-- a sum over what passes a test, as a sum over all
pub total-passing : {X : Type 0} (f : X → ℤ) (p : X → Bool) (xs : List X) → total (λ x. cond (p x) (f x) (pos 0)) xs ≡ total f (filter p xs)
total-passing f p [] = refl
total-passing f p (x ∷ xs) =
    elim (p x) as (λ (b : Bool). cond b (f x) (pos 0) +ℤ total (λ x. cond (p x) (f x) (pos 0)) xs ≡ total f (cond b (x ∷ filter p xs) (filter p xs)))
    [ true ↦ omega (arith, ints, total-passing f p xs) | false ↦ omega (arith, ints, total-passing f p xs) ]

-- the counts are no more than the patrols can
pub counts_few : (g : Game) (num den : ℤ) → IsReachable g num den → total (count_at g num den) (numbers (length g.goals)) ≤ℤ ((pos (resource_count g) *ℤ den) *ℤ g.scale)
counts_few g num den h =
    omega (arith, ints, total-passing (share g num den) (λ t. int_le num ((payoff g 1 t).au *ℤ den)) (numbers (length g.goals)), h.enough)

-- what a target needs is at most the whole
need_bounds : (m au ac num den scale : ℤ) → pos 1 ≤ℤ m → m *ℤ (au -ℤ ac) ≡ scale → (ac *ℤ den) ≤ℤ num → num ≤ℤ (au *ℤ den) → (pos 0 ≤ℤ (m *ℤ (au *ℤ den -ℤ num))) × ((m *ℤ (au *ℤ den -ℤ num)) ≤ℤ (scale *ℤ den))
need_bounds m au ac num den scale h e low high =
    let p = product_nonneg m (au *ℤ den -ℤ num) (omega (arith, ints)) (omega (arith, ints)) in
    let q = product_nonneg m (num -ℤ ac *ℤ den) (omega (arith, ints)) (omega (arith, ints)) in (
      p,
      subst (λ (z : ℤ). (m *ℤ (au *ℤ den -ℤ num)) ≤ℤ (z *ℤ den)) e
          (le_by (times (v m) (less (times (v au) (v den)) (v num))) (times (times (v m) (less (v au) (v ac))) (v den)) (omega (arith, le_from (n 0) (times (v m) (less (v num) (times (v ac) (v den)))) q))),
    )

pub count_bounds : (g : Game) (num den : ℤ) → IsFillable g → IsReachable g num den → (t : ℕ) → 1 ≤ t → t ≤ length g.goals → (pos 0 ≤ℤ count_at g num den t) × (count_at g num den t ≤ℤ (g.scale *ℤ den))
count_bounds g num den f h t low high =
    let s = f.origami.targets t low high in
    let is_m = multiple_is g t s in
    let m = multiple_bounds (multiple g t) (gap (payoff g 1 t)) g.scale (2 ^ 32) is_m (omega (arith, ints, s.attacker_loses)) f.origami.scaled f.scale_range.at_most in
    let whole = product_nonneg g.scale den (omega (arith, ints, f.origami.scaled)) (omega (arith, ints, h.positive)) in
    let test : Bool = int_le num ((payoff g 1 t).au *ℤ den) in
    elim test as (λ (b : Bool). test ≡ b → (pos 0 ≤ℤ cond b (share g num den t) (pos 0)) × (cond b (share g num den t) (pos 0) ≤ℤ (g.scale *ℤ den))) [
      | true ↦ (λ e. need_bounds (multiple g t) (payoff g 1 t).au (payoff g 1 t).ac num den g.scale m.0 is_m (h.over t low high) (omega (arith, ints, e)))
      | false ↦ (λ e. (omega (arith, ints), whole))
    ] refl
