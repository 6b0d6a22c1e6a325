-- Sums formed one term after another.
use Rattle.std.proofs.Common.{◌≡◌, ℕ, zero, suc, ◌+◌, ◌-◌, ◌≤◌, ◌<◌, sym, ◌∙◌, ap, ap₂, refl, arith, ℤ, pos, ◌+ℤ◌, ◌*ℤ◌}
use Rattle.std.proofs.lemmas.Int.{ints}
use Rattle.std.proofs.Common.{List, length, get_or}
use Rattle.sg_model.specs.Sums.{nth, total, numbers_from}
use Rattle.sg_tree.specs.declared.report.Cap.{Cap}
use Rattle.sg_bounds.specs.Caps.{cap_of, no_cap}
use Rattle.sg_lanes.proofs.Lanewise.{nth-at}

total-next : (f : ℕ → ℤ) (b k : ℕ) → 1 ≤ k → total f (numbers_from b k) ≡ f b +ℤ total f (numbers_from (b + 1) (k - 1))
total-next f b zero some = absurd (omega (arith, some))
total-next f b (suc k) some = ap (λ (n : ℕ). f b +ℤ total f (numbers_from (b + 1) n)) (let e : k ≡ suc k - 1 = omega arith in e)

pub sum-step : (f : ℕ → ℤ) (sum x all : ℤ) (i count : ℕ) → i < count → sum +ℤ total f (numbers_from (i + 1) (count - i)) ≡ all → x ≡ f (i + 1) → (sum +ℤ x) +ℤ total f (numbers_from (i + 1 + 1) (count - (i + 1))) ≡ all
sum-step f sum x all i count lt e is =
    let n = total-next f (i + 1) (count - i) (omega (arith, lt)) in
    let m : total f (numbers_from (i + 1 + 1) (count - (i + 1))) ≡ total f (numbers_from (i + 1 + 1) (count - i - 1)) = ap (λ (k : ℕ). total f (numbers_from (i + 1 + 1) k)) (let q : count - (i + 1) ≡ count - i - 1 = omega arith in q) in
    omega (arith, ints, n, m, e, is)

pub sum-end : (f : ℕ → ℤ) (sum all : ℤ) (i count : ℕ) → count ≤ i → sum +ℤ total f (numbers_from (i + 1) (count - i)) ≡ all → sum ≡ all
sum-end f sum all i count le e =
    let m : total f (numbers_from (i + 1) (count - i)) ≡ pos 0 = ap (λ (k : ℕ). total f (numbers_from (i + 1) k)) (let q : count - i ≡ 0 = omega (arith, le) in q) in
    omega (arith, ints, m, e)

pub product-same : (a b c d : ℤ) → a ≡ c → b ≡ d → a *ℤ b ≡ c *ℤ d
product-same a b c d e f = ap₂ (λ (x y : ℤ). x *ℤ y) e f

pub sum-start : (f : ℕ → ℤ) (count : ℕ) → pos 0 +ℤ total f (numbers_from 1 (count - 0)) ≡ total f (numbers_from 1 count)
sum-start f count =
    let m : total f (numbers_from 1 (count - 0)) ≡ total f (numbers_from 1 count) = ap (λ (k : ℕ). total f (numbers_from 1 k)) (let q : count - 0 ≡ count = omega arith in q) in
    omega (arith, ints, m)

-- the cap of a type, by its place
pub cap-at : (caps : List Cap) (i : ℕ) (x : Cap) → 1 ≤ i → i ≤ length caps → x ≡ get_or caps (i - 1) x → x.v ≡ (cap_of caps (i + 1)).v
cap-at caps i x low high is =
    let z : i + 1 - 1 ≡ i = omega arith in
    ap (λ (c : Cap). c.v) (is ∙ sym (nth-at caps i no_cap x low high) ∙ ap (λ (k : ℕ). nth caps k no_cap) (sym z))
