-- The actions that a node fixes.
use Rattle.std.proofs.Common.{◌≡◌, ◌∙◌, ℕ, zero, suc, ◌+◌, ◌<◌, List, [], ◌∷◌, ◌++◌, length, take, sym, ap, refl, arith, slice_index, get_or}
use Rattle.std.specs.List.{zip}
use Rattle.std.proofs.lemmas.List.{take_more}
use Rattle.std.proofs.Math.Seq.{take-length}
use Rattle.sg_model.specs.declared.kind.Kind.TheVariants.{Security}
use Rattle.sg_model.specs.Sums.{numbers_from}
use Rattle.sg_model.specs.Games.{Game, action_count}
use Rattle.sg_model.proofs.Forms.{no_matrix}
use Rattle.sg_game.specs.Counts.{IsGoalOf}
use Rattle.sg_tree.specs.declared.fix.Fix.{Fix}
use Rattle.sg_bounds.specs.Regions.{IsFix, fixed}

pair-from : (a : ℕ) (acts : List ℕ) (i : ℕ) (d : ℕ × ℕ) → i < length acts → get_or (zip (numbers_from a (length acts)) acts) i d ≡ (a + i, slice_index acts i)
pair-from a [] i d lt = absurd (omega arith)
pair-from a (c ∷ cs) zero d lt = let e : a ≡ a + 0 = omega arith in ap (λ (m : ℕ). (m, c)) e
pair-from a (c ∷ cs) (suc i) d lt = let e : a + 1 + i ≡ a + suc i = omega arith in pair-from (a + 1) cs i d (omega (arith, lt)) ∙ ap (λ (m : ℕ). (m, slice_index cs i)) e

pairs-count : (a : ℕ) (acts : List ℕ) → length (zip (numbers_from a (length acts)) acts) ≡ length acts
pairs-count a [] = refl
pairs-count a (c ∷ cs) = ap suc (pairs-count (a + 1) cs)

pub fixed-at : (fix : Fix) (i : ℕ) (d : ℕ × ℕ) → i < length fix.acts → get_or (fixed fix) i d ≡ (fix.first + i, slice_index fix.acts i)
fixed-at fix i d lt = pair-from fix.first fix.acts i d lt

pub fixed-count : (fix : Fix) → length (fixed fix) ≡ length fix.acts
fixed-count fix = pairs-count fix.first fix.acts

pub fixed-more : (fix : Fix) (i : ℕ) → i < length fix.acts → take (i + 1) (fixed fix) ≡ take i (fixed fix) ++ (fix.first + i, slice_index fix.acts i) ∷ []
fixed-more fix i lt = take_more (fixed fix) i (0, 0) (omega (arith, lt, fixed-count fix)) ∙ ap (λ (p : ℕ × ℕ). take i (fixed fix) ++ p ∷ []) (fixed-at fix i (0, 0) lt)

pub fixed-all : (fix : Fix) → take (length fix.acts) (fixed fix) ≡ fixed fix
fixed-all fix = ap (λ (n : ℕ). take n (fixed fix)) (sym (fixed-count fix)) ∙ take-length (fixed fix)

-- what a type is fixed to is a target
pub act-known : (g : Game) → g.kind ≡ Security → (fix : Fix) → IsFix g fix → (i : ℕ) → i < length fix.acts → IsGoalOf g (slice_index fix.acts i)
act-known g security fix is_fix i lt =
    let q : ℕ × ℕ = (fix.first + i, slice_index fix.acts i) in
    let e : get_or (fixed fix) i q ≡ q = fixed-at fix i q lt in
    let h = is_fix.acts i q (omega (arith, lt, fixed-count fix)) in
    let actions : action_count g (fix.first + i) ≡ length g.goals = rw (no_matrix g security) refl in
    let k = rw e at h in
    (k.0, omega (arith, k.1, actions))
