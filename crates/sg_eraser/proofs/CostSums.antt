-- The costs of columns, type by type.
use Rattle.std.proofs.Common.{◌≡◌, ◌∙◌, ℕ, ◌+◌, ◌*◌, ◌<◌, ◌≤◌, ◌^◌, [], ◌∷◌, length, take, ap, arith, slice_index}
use Rattle.std.specs.Prelude.{ℤ, pos, ◌+ℤ◌, ◌-ℤ◌, ◌*ℤ◌, ◌≤ℤ◌, FitsSigned}
use Rattle.std.specs.Int.{w64}
use Rattle.std.proofs.lemmas.Int.{ints}
use Rattle.sg_model.specs.Games.{Game, attacker, payoff}
use Rattle.sg_model.specs.Limits.{IsGame}
use Rattle.sg_model.specs.Payoffs.{shift_of}
use Rattle.sg_model.specs.Sums.{total}
use Rattle.sg_model.proofs.Sums.{total-append}
use Rattle.sg_num.specs.Exact.{IsAtMost}
use Rattle.sg_tree.specs.declared.fix.Fix.{Fix}
use Rattle.sg_bounds.specs.Coverage.{where_same}
use Rattle.sg_bounds.specs.Regions.{IsFix, fixed}
use Rattle.sg_programs.proofs.Fixed.{fix-small, fixed-all, fixed-more}

-- what a type adds to the cost of the whole, and to that of target t
abbrev pub whole_term : Game → ℕ × ℕ → ℤ
whole_term g p = (attacker g p.0).prior *ℤ ((payoff g p.0 p.1).du +ℤ shift_of g)

abbrev pub target_term : Game → ℕ → ℕ × ℕ → ℤ
target_term g t p = where_same p.1 t ((attacker g p.0).prior *ℤ ((payoff g p.0 p.1).dc -ℤ (payoff g p.0 p.1).du))

-- the sum over the first i fixed types, within its bounds
abbrev pub IsSumTo : (ℕ × ℕ → ℤ) → Fix → ℕ → ℤ → Type 0
IsSumTo f fix i z = (z ≡ total f (take i (fixed fix))) × ((pos 0 -ℤ pos (2 ^ 52 * i)) ≤ℤ z) × (z ≤ℤ pos (2 ^ 52 * i))

pub sum-fits : (f : ℕ × ℕ → ℤ) (g : Game) (fix : Fix) → IsGame g → IsFix g fix → (i : ℕ) (z part : ℤ) → i < length fix.acts → IsSumTo f fix i z → IsAtMost (pos (2 ^ 52)) part → FitsSigned w64 (z +ℤ part)
sum-fits f g fix game is_fix i z part lt h small =
    let a = h.1 in let b = h.2 in let p = small.0 in let q = small.1 in
    let few = fix-small g fix game is_fix in
    let first = is_fix.from_one in
    let room : pos (2 ^ 52 * i) ≤ℤ pos (2 ^ 52 * 9) = omega (arith, ints, lt, few, first) in
    omega (arith, ints, a, b, p, q, room)

pub sum-next : (f : ℕ × ℕ → ℤ) (fix : Fix) (i l own : ℕ) (z part next : ℤ) → i < length fix.acts → l ≡ fix.first + i → own ≡ slice_index fix.acts i → IsSumTo f fix i z → part ≡ f (l, own) → IsAtMost (pos (2 ^ 52)) part → next ≡ z +ℤ part
    → IsSumTo f fix (i + 1) next
sum-next f fix i l own z part next lt el eo h e small is =
    let p : ℕ × ℕ = (fix.first + i, slice_index fix.acts i) in
    let here : part ≡ f p = e ∙ ap (λ (m : ℕ). f (m, own)) el ∙ ap (λ (a : ℕ). f (fix.first + i, a)) eo in
    let more = ap (total f) (fixed-more fix i lt) ∙ total-append f (take i (fixed fix)) (p ∷ []) in
    let same = h.0 in let a = h.1 in let b = h.2 in let m = small.0 in let n = small.1 in
    (omega (arith, ints, is, same, here, more), omega (arith, ints, is, a, m), omega (arith, ints, is, b, n))

pub sum-all : (f : ℕ × ℕ → ℤ) (fix : Fix) (i : ℕ) (z : ℤ) → length fix.acts ≤ i → i ≤ length fix.acts → IsSumTo f fix i z → z ≡ total f (fixed fix)
sum-all f fix i z le ge h = let e : i ≡ length fix.acts = omega (arith, le, ge) in h.0 ∙ ap (total f) (ap (λ (n : ℕ). take n (fixed fix)) e ∙ fixed-all fix)
