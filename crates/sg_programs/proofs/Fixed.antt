-- The fixed types of a node with their actions, one after another.
use Rattle.std.proofs.Common.{◌≡◌, ◌∙◌, ℕ, zero, suc, ◌+◌, ◌-◌, ◌<◌, ◌≤◌, Bool, true, false, cond, List, [], ◌∷◌, ◌++◌, length, take, not, sym, ap, subst, refl, arith, slice_index, get_or, ◌≢◌}
use Rattle.std.specs.List.{filter, zip}
use Rattle.std.specs.Prelude.{nat_eq}
use Rattle.std.proofs.lemmas.Bool.Decides.{nat_tests}
use Rattle.std.proofs.lemmas.List.{append-nil, take_more}
use Rattle.std.proofs.Math.Seq.{take-length}
use Rattle.sg_model.specs.Games.{Game, action_count}
use Rattle.sg_model.specs.Limits.{IsGame}
use Rattle.sg_model.specs.Sums.{numbers, numbers_from}
use Rattle.sg_tree.specs.declared.fix.Fix.{Fix}
use Rattle.sg_bounds.specs.Regions.{IsFix, act_of, fixed}
use Rattle.sg_programs.proofs.Comparisons.{apart}
use Rattle.sg_programs.proofs.Heights.{numbers-split}
use Rattle.sg_programs.proofs.Sized.{few-types}

pair-from : (a : ℕ) (acts : List ℕ) (i : ℕ) (d : ℕ × ℕ) → i < length acts → get_or (zip (numbers_from a (length acts)) acts) i d ≡ (a + i, slice_index acts i)
pair-from a [] i d lt = absurd (omega arith)
pair-from a (c ∷ cs) zero d lt = let e : a ≡ a + 0 = omega arith in ap (λ (m : ℕ). (m, c)) e
pair-from a (c ∷ cs) (suc i) d lt = let e : a + 1 + i ≡ a + suc i = omega arith in pair-from (a + 1) cs i d (omega (arith, lt)) ∙ ap (λ (m : ℕ). (m, slice_index cs i)) e

pub fixed-at : (fix : Fix) (i : ℕ) (d : ℕ × ℕ) → i < length fix.acts → get_or (fixed fix) i d ≡ (fix.first + i, slice_index fix.acts i)
fixed-at fix i d lt = pair-from fix.first fix.acts i d lt

pairs-count : (a : ℕ) (acts : List ℕ) → length (zip (numbers_from a (length acts)) acts) ≡ length acts
pairs-count a [] = refl
pairs-count a (c ∷ cs) = ap suc (pairs-count (a + 1) cs)

pub fixed-count : (fix : Fix) → length (fixed fix) ≡ length fix.acts
fixed-count fix = pairs-count fix.first fix.acts

pub fixed-more : (fix : Fix) (i : ℕ) → i < length fix.acts → take (i + 1) (fixed fix) ≡ take i (fixed fix) ++ (fix.first + i, slice_index fix.acts i) ∷ []
fixed-more fix i lt = take_more (fixed fix) i (0, 0) (omega (arith, lt, fixed-count fix)) ∙ ap (λ (p : ℕ × ℕ). take i (fixed fix) ++ p ∷ []) (fixed-at fix i (0, 0) lt)

pub fixed-all : (fix : Fix) → take (length fix.acts) (fixed fix) ≡ fixed fix
fixed-all fix = ap (λ (n : ℕ). take n (fixed fix)) (sym (fixed-count fix)) ∙ take-length (fixed fix)

-- the action of a fixed type
pub act-is : (fix : Fix) (i : ℕ) → act_of fix (fix.first + i) ≡ slice_index fix.acts i
act-is fix i = let e : fix.first + i - fix.first ≡ i = omega arith in ap (slice_index fix.acts) e

-- what a type is fixed to is one of its actions
pub act-in_range : (g : Game) (fix : Fix) → IsFix g fix → (i : ℕ) → i < length fix.acts → (1 ≤ slice_index fix.acts i) × (slice_index fix.acts i ≤ action_count g (fix.first + i))
act-in_range g fix is_fix i lt =
    let p = is_fix.acts i (0, 0) (omega (arith, lt, fixed-count fix)) in
    let e = fixed-at fix i (0, 0) lt in
    subst (λ (q : ℕ × ℕ). (1 ≤ q.1) × (q.1 ≤ action_count g q.0)) e p

pub type-in_range : (g : Game) (fix : Fix) → IsFix g fix → (i : ℕ) → i < length fix.acts → (1 ≤ fix.first + i) × (fix.first + i ≤ length g.types)
type-in_range g fix is_fix i lt = let a = is_fix.from_one in let b = is_fix.in_range in (omega (arith, a), omega (arith, b, lt))

pub fix-small : (g : Game) (fix : Fix) → IsGame g → IsFix g fix → fix.first + length fix.acts ≤ 9
fix-small g fix game is_fix = let b = is_fix.in_range in omega (arith, few-types g game, b)

-- ---- the numbers up to n, but one

filter-append : (p : ℕ → Bool) (xs ys : List ℕ) → filter p (xs ++ ys) ≡ filter p xs ++ filter p ys
filter-append p [] ys = refl
filter-append p (x ∷ xs) ys = go (p x) (filter-append p xs ys)
  where
    go : (t : Bool) → filter p (xs ++ ys) ≡ filter p xs ++ filter p ys → cond t (x ∷ filter p (xs ++ ys)) (filter p (xs ++ ys)) ≡ cond t (x ∷ filter p xs) (filter p xs) ++ filter p ys
    go true e = ap (λ zs. x ∷ zs) e
    go false e = e

apart-split : (act n : ℕ) → filter (apart act) (numbers (n + 1)) ≡ filter (apart act) (numbers n) ++ cond (apart act (1 + n)) ((1 + n) ∷ []) []
apart-split act n = ap (filter (apart act)) (numbers-split 1 n 1) ∙ filter-append (apart act) (numbers n) ((1 + n) ∷ [])

pub apart-more : (act n : ℕ) → n + 1 ≢ act → filter (apart act) (numbers (n + 1)) ≡ filter (apart act) (numbers n) ++ (n + 1) ∷ []
apart-more act n ne =
    let swap : 1 + n ≡ n + 1 = omega arith in
    let e : nat_eq act (1 + n) ≡ false = grind (arith, nat_tests) in
    apart-split act n ∙ ap (λ (t : Bool). filter (apart act) (numbers n) ++ cond (not t) ((1 + n) ∷ []) []) e ∙ ap (λ (m : ℕ). filter (apart act) (numbers n) ++ m ∷ []) swap

pub apart-same : (act n : ℕ) → n + 1 ≡ act → filter (apart act) (numbers (n + 1)) ≡ filter (apart act) (numbers n)
apart-same act n is =
    let e : nat_eq act (1 + n) ≡ true = grind (arith, nat_tests) in
    apart-split act n ∙ ap (λ (t : Bool). filter (apart act) (numbers n) ++ cond (not t) ((1 + n) ∷ []) []) e ∙ append-nil (filter (apart act) (numbers n))
