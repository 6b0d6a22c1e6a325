-- The costs of columns, type by type.
use Rattle.std.proofs.Common.{◌≡◌, ◌∙◌, ℕ, ◌+◌, ◌*◌, ◌^◌, [], ◌∷◌, length, take, sym, ap, refl, arith, slice_index, eqb, true, ◌<◌, lit<}
use Rattle.std.specs.Prelude.{ℤ, pos, ◌+ℤ◌, ◌-ℤ◌, ◌*ℤ◌, ◌≤ℤ◌}
use Rattle.std.proofs.lemmas.Int.{ints}
use Rattle.std.proofs.lemmas.Bool.Decides.{nat_tests}
use Rattle.sg_model.specs.Games.{Game, attacker, payoff}
use Rattle.sg_model.specs.Payoffs.{shift_of}
use Rattle.sg_model.specs.Sums.{total}
use Rattle.sg_model.proofs.Sums.{total-append}
use Rattle.sg_tree.specs.declared.fix.Fix.{Fix}
use Rattle.sg_bounds.specs.Regions.{fixed}
use Rattle.sg_bounds.specs.Coverage.{where_same}
use Rattle.sg_num.specs.Exact.{Fits, IsAtMost}
use Rattle.sg_cover_fact.proofs.Acts.{fixed-all, fixed-more}
use Rattle.sg_cover_fact.proofs.Rooms.{fits-within}

abbrev pub whole_term : Game → ℕ × ℕ → ℤ
whole_term g p = (attacker g p.0).prior *ℤ ((payoff g p.0 p.1).du +ℤ shift_of g)

abbrev pub target_term : Game → ℕ → ℕ × ℕ → ℤ
target_term g t p = where_same p.1 t ((attacker g p.0).prior *ℤ ((payoff g p.0 p.1).dc -ℤ (payoff g p.0 p.1).du))

-- what the whole and target t are worth by the first i fixed types
abbrev pub whole_to : Game → Fix → ℕ → ℤ
whole_to g fix i = total (whole_term g) (take i (fixed fix))

abbrev pub target_to : Game → Fix → ℕ → ℕ → ℤ
target_to g fix t i = total (target_term g t) (take i (fixed fix))

cost-more : (f : ℕ × ℕ → ℤ) (fix : Fix) (i : ℕ) → i < length fix.acts → total f (take (i + 1) (fixed fix)) ≡ total f (take i (fixed fix)) +ℤ f (fix.first + i, slice_index fix.acts i)
cost-more f fix i lt =
    let p : ℕ × ℕ = (fix.first + i, slice_index fix.acts i) in
    ap (total f) (fixed-more fix i lt) ∙ total-append f (take i (fixed fix)) (p ∷ []) ∙ omega (arith, ints)

pub whole-more : (g : Game) (fix : Fix) (i l a : ℕ) → i < length fix.acts → l ≡ fix.first + i → a ≡ slice_index fix.acts i → whole_to g fix (i + 1) ≡ whole_to g fix i +ℤ whole_term g (l, a)
whole-more g fix i l a lt e f = rw (e, f) (cost-more (whole_term g) fix i lt)

pub target-more : (g : Game) (fix : Fix) (t i l a : ℕ) → i < length fix.acts → l ≡ fix.first + i → a ≡ slice_index fix.acts i → target_to g fix t (i + 1) ≡ target_to g fix t i +ℤ target_term g t (l, a)
target-more g fix t i l a lt e f = rw (e, f) (cost-more (target_term g t) fix i lt)

pub whole-all : (g : Game) (fix : Fix) (i : ℕ) → i ≡ length fix.acts → whole_to g fix i ≡ total (whole_term g) (fixed fix)
whole-all g fix i e = rw e (ap (total (whole_term g)) (fixed-all fix))

pub target-all : (g : Game) (fix : Fix) (t i : ℕ) → i ≡ length fix.acts → target_to g fix t i ≡ total (target_term g t) (fixed fix)
target-all g fix t i e = rw e (ap (total (target_term g t)) (fixed-all fix))

pub same-where : (a b : ℕ) (z : ℤ) → a ≡ b → where_same a b z ≡ z
same-where a b z e = let t : eqb a b ≡ true = grind (arith, nat_tests, e) in rw t refl

-- the cost of some types, within its bounds
abbrev pub IsCostTo : ℤ → ℕ → ℤ → Type 0
IsCostTo all i cost = (cost ≡ all) × ((pos 0 -ℤ pos (2 ^ 52 * i)) ≤ℤ cost) × (cost ≤ℤ pos (2 ^ 52 * i))

pub cost-fits : (all : ℤ) (i : ℕ) (now part : ℤ) → IsCostTo all i now → i < 256 → IsAtMost (pos (2 ^ 52)) part → Fits (now +ℤ part)
cost-fits all i now part h lt small =
    let a = h.1 in let b = h.2 in let p = small.0 in let q = small.1 in
    let room : pos (2 ^ 52 * i) ≤ℤ pos (2 ^ 52 * 256) = omega (arith, ints, lt) in
    fits-within (pos (2 ^ 61)) (now +ℤ part) (let t : 2 ^ 61 < 2 ^ 127 = lit< tt in grind (arith, nat_tests, t)) (omega (arith, ints, a, b, p, q, room), omega (arith, ints, a, b, p, q, room))

cost-next : (all more : ℤ) (i : ℕ) (now part next : ℤ) → IsCostTo all i now → IsAtMost (pos (2 ^ 52)) part → next ≡ now +ℤ part → more ≡ all +ℤ part → IsCostTo more (i + 1) next
cost-next all more i now part next h small e m =
    let same = h.0 in let a = h.1 in let b = h.2 in let p = small.0 in let q = small.1 in
    (omega (arith, ints, same, e, m), omega (arith, ints, a, p, e), omega (arith, ints, b, q, e))

pub whole-next : (g : Game) (fix : Fix) (i l a : ℕ) (now part next : ℤ) → i < length fix.acts → l ≡ fix.first + i → a ≡ slice_index fix.acts i → IsCostTo (whole_to g fix i) i now → part ≡ whole_term g (l, a) → IsAtMost (pos (2 ^ 52)) part → next ≡ now +ℤ part
    → IsCostTo (whole_to g fix (i + 1)) (i + 1) next
whole-next g fix i l a now part next lt el ea h e small en =
    cost-next (whole_to g fix i) (whole_to g fix (i + 1)) i now part next h small en (whole-more g fix i l a lt el ea ∙ ap (λ (z : ℤ). whole_to g fix i +ℤ z) (sym e))

pub target-next : (g : Game) (fix : Fix) (t i l a : ℕ) (now part next : ℤ) → i < length fix.acts → l ≡ fix.first + i → a ≡ slice_index fix.acts i → IsCostTo (target_to g fix t i) i now → part ≡ target_term g t (l, a) → IsAtMost (pos (2 ^ 52)) part → next ≡ now +ℤ part
    → IsCostTo (target_to g fix t (i + 1)) (i + 1) next
target-next g fix t i l a now part next lt el ea h e small en =
    cost-next (target_to g fix t i) (target_to g fix t (i + 1)) i now part next h small en (target-more g fix t i l a lt el ea ∙ ap (λ (z : ℤ). target_to g fix t i +ℤ z) (sym e))
