-- The fixed types, one after the other.
use Rattle.std.proofs.Common.{◌≡◌, ◌∙◌, ℕ, zero, suc, ◌+◌, ◌-◌, ◌<◌, ◌≤◌, List, [], ◌∷◌, ◌++◌, length, take, sym, ap, subst, refl, arith, slice_index, get_or}
use Rattle.std.specs.List.{zip}
use Rattle.std.proofs.lemmas.List.{take_more}
use Rattle.std.proofs.Math.Seq.{take-length}
use Rattle.sg_model.specs.Games.{Game, action_count}
use Rattle.sg_model.specs.Limits.{IsGame}
use Rattle.sg_model.specs.Sums.{numbers_from}
use Rattle.sg_tree.specs.declared.fix.Fix.{Fix}
use Rattle.sg_bounds.specs.Regions.{IsFix, act_of, fixed}
use Rattle.sg_plays_fact.proofs.Few.{types-few}

pair-from : (a : ℕ) (acts : List ℕ) (i : ℕ) (d : ℕ × ℕ) → i < length acts → get_or (zip (numbers_from a (length acts)) acts) i d ≡ (a + i, slice_index acts i)
pair-from a [] i d lt = absurd (omega arith)
pair-from a (c ∷ cs) zero d lt = let e : a ≡ a + 0 = omega arith in ap (λ (m : ℕ). (m, c)) e
pair-from a (c ∷ cs) (suc i) d lt = let e : a + 1 + i ≡ a + suc i = omega arith in pair-from (a + 1) cs i d (omega (arith, lt)) ∙ ap (λ (m : ℕ). (m, slice_index cs i)) e

pub fixed-at : (fix : Fix) (i : ℕ) (d : ℕ × ℕ) → i < length fix.acts → get_or (fixed fix) i d ≡ (fix.first + i, slice_index fix.acts i)
fixed-at fix i d lt = pair-from fix.first fix.acts i d lt

pairs-count : (a : ℕ) (acts : List ℕ) → length (zip (numbers_from a (length acts)) acts) ≡ length acts
pairs-count a [] = refl
pairs-count a (c ∷ cs) = ap suc (pairs-count (a + 1) cs)

pub fixed-count : (fix : Fix) → length (fixed fix) ≡ length fix.acts
fixed-count fix = pairs-count fix.first fix.acts

pub fixed-more : (fix : Fix) (i : ℕ) → i < length fix.acts → take (i + 1) (fixed fix) ≡ take i (fixed fix) ++ (fix.first + i, slice_index fix.acts i) ∷ []
fixed-more fix i lt = take_more (fixed fix) i (0, 0) (omega (arith, lt, fixed-count fix)) ∙ ap (λ (p : ℕ × ℕ). take i (fixed fix) ++ p ∷ []) (fixed-at fix i (0, 0) lt)

pub fixed-all : (fix : Fix) (i : ℕ) → i ≡ length fix.acts → take i (fixed fix) ≡ fixed fix
fixed-all fix i e = ap (λ (n : ℕ). take n (fixed fix)) (e ∙ sym (fixed-count fix)) ∙ take-length (fixed fix)

-- what a type is fixed to is one of its actions
pub act-in_range : (g : Game) (fix : Fix) → IsFix g fix → (i : ℕ) → i < length fix.acts → (1 ≤ slice_index fix.acts i) × (slice_index fix.acts i ≤ action_count g (fix.first + i))
act-in_range g fix is_fix i lt =
    let p = is_fix.acts i (0, 0) (omega (arith, lt, fixed-count fix)) in
    let e = fixed-at fix i (0, 0) lt in
    subst (λ (q : ℕ × ℕ). (1 ≤ q.1) × (q.1 ≤ action_count g q.0)) e p

pub fix-small : (g : Game) (fix : Fix) → IsGame g → IsFix g fix → fix.first + length fix.acts ≤ 9
fix-small g fix game is_fix = let b = is_fix.in_range in omega (arith, types-few g game, b)

pub fixed-few : (g : Game) (fix : Fix) → IsGame g → IsFix g fix → length fix.acts ≤ 8
fixed-few g fix game is_fix = let a = is_fix.from_one in omega (arith, fix-small g fix game is_fix, a)

-- the action of a type
pub act_of-known : (g : Game) (fix : Fix) → IsFix g fix → (l : ℕ) → fix.first ≤ l → l < fix.first + length fix.acts → (1 ≤ act_of fix l) × (act_of fix l ≤ action_count g l)
act_of-known g fix is_fix l low high =
    let e : fix.first + (l - fix.first) ≡ l = omega (arith, low) in
    subst (λ (m : ℕ). (1 ≤ slice_index fix.acts (l - fix.first)) × (slice_index fix.acts (l - fix.first) ≤ action_count g m)) e (act-in_range g fix is_fix (l - fix.first) (omega (arith, low, high)))
