-- Numbers that are formed one after the other, and their size sum.
use Rattle.std.proofs.Common.{◌≡◌, ◌∙◌, Bool, false, List, [], ◌∷◌, ◌++◌, length, map, ℤ, pos, ◌+ℤ◌, ◌*ℤ◌, Option, Some, None, ap, subst, sym, refl, append_assoc, ◌↔◌}
use Rattle.std.specs.Prelude.{IsTrue, MatchOption}
use Rattle.std.specs.List.{All}
use Rattle.std.specs.Int.{w128}
use Rattle.std.proofs.Common.{of_z, to_z}
use Rattle.std.proofs.lemmas.Bool.{false≢true}
use Rattle.std.proofs.lemmas.Int.{to_z-of_z}
use Rattle.std.proofs.lemmas.List.{drop_at, take_at}
use Rattle.std.proofs.lemmas.List.Elements.{All-append, All-cons, All-drop, All-head, All-nil, All-tail, All-take}
use Rattle.sg_model.specs.Sums.{total}
use Rattle.sg_model.specs.Games.{Game}
use Rattle.sg_num.specs.Exact.{Fits}
use Rattle.sg_num.proofs.Steps.{FitsSigned-from_fits}
use Rattle.sg_tree.specs.declared.fix.Fix.{Fix}
use Rattle.sg_tree.specs.declared.fact.Fact.TheVariants.{Plays}
use Rattle.sg_tree.specs.declared.fact.Mark.{Mark}
use Rattle.sg_bounds.specs.Sizes.{attacker_most, defender_most, fixed_priors, running, size_sum, size_sums}
use Rattle.sg_plays_fact.specs.Sizing.{IsWhereAllFit, size_numbers}

All-left : (xs ys : List ℤ) → All Fits (xs ++ ys) → All Fits xs
All-left xs ys h = subst (All Fits) (take_at xs ys (length xs) refl) (All-take Fits (length xs) (xs ++ ys) h)

All-right : (xs ys : List ℤ) → All Fits (xs ++ ys) → All Fits ys
All-right xs ys h = subst (All Fits) (drop_at xs ys (length xs) refl) (All-drop Fits (length xs) (xs ++ ys) h)

All-last : (x : ℤ) (xs : List ℤ) → All Fits (xs ++ x ∷ []) → Fits x
All-last x xs h = All-head Fits x [] (All-right xs (x ∷ []) h)

-- a step of the code: the number z, where it fits
abbrev pub IsStep : Option ℤ → ℤ → Type 0
IsStep o z = MatchOption o (Fits z → ⊥) (λ v. Fits z × (v ≡ z))

pub step-same : (o : Option ℤ) (x y : ℤ) → x ≡ y → IsStep o x → IsStep o y
step-same o x y e h = subst (IsStep o) e h

-- one number more
pub formed-more : (o : Option ℤ) (xs : List ℤ) (x : ℤ) → All Fits xs → IsStep o x → IsWhereAllFit o (xs ++ x ∷ []) x
formed-more (Some v) xs x h s = (All-append Fits xs (x ∷ []) h (All-cons Fits x [] s.0 (All-nil Fits)), s.1)
formed-more None xs x h s = λ p. s (All-last x xs p)

-- ---- the defender's part

-- a number that fits is read as it is
read_back : (z : ℤ) → Fits z → to_z w128 (of_z w128 z) ≡ z
read_back z h = to_z-of_z w128 z (FitsSigned-from_fits z h)

pub gain-formed : (o : Option ℤ) (rho p m rho' p' m' share : ℤ) → rho' ≡ rho → p' ≡ p → m' ≡ m → Fits (rho' *ℤ p') → share ≡ rho' *ℤ p'
    → IsStep o (to_z w128 (of_z w128 share) *ℤ m') → IsWhereAllFit o ((rho *ℤ p) ∷ ((rho *ℤ p) *ℤ m) ∷ []) ((rho *ℤ p) *ℤ m)
gain-formed o rho p m rho' p' m' share e f k fit is s =
    let product : rho' *ℤ p' ≡ rho *ℤ p = (λ i. e i *ℤ f i) in
    let fits : Fits (rho *ℤ p) = subst Fits product fit in
    let read : to_z w128 (of_z w128 share) ≡ rho *ℤ p = ap (λ (z : ℤ). to_z w128 (of_z w128 z)) (is ∙ product) ∙ read_back (rho *ℤ p) fits in
    let last : to_z w128 (of_z w128 share) *ℤ m' ≡ (rho *ℤ p) *ℤ m = (λ i. read i *ℤ k i) in
    formed-more o ((rho *ℤ p) ∷ []) ((rho *ℤ p) *ℤ m) (All-cons Fits (rho *ℤ p) [] fits (All-nil Fits)) (step-same o _ _ last s)

-- ---- the attacker's part

pub regret-formed : (o total : Option ℤ) (t m t' m' : ℤ) → total ≡ Some t → t' ≡ t → m' ≡ m → IsStep o (t' *ℤ m')
    → (under : List ℤ) (sum : ℤ) → IsWhereAllFit total under sum → IsWhereAllFit o (under ++ (sum *ℤ m) ∷ []) (sum *ℤ m)
regret-formed o total t m t' m' is e k s under sum h =
    let there : All Fits under × (t ≡ sum) = subst (λ (x : Option ℤ). IsWhereAllFit x under sum) is h in
    let read : t' ≡ sum = e ∙ there.1 in
    formed-more o under (sum *ℤ m) there.0 (step-same o (t' *ℤ m') (sum *ℤ m) (λ i. read i *ℤ k i) s)

pub regret-none : (total : Option ℤ) (m : ℤ) → total ≡ None → (under : List ℤ) (sum : ℤ) → IsWhereAllFit total under sum → All Fits (under ++ (sum *ℤ m) ∷ []) → ⊥
regret-none total m is under sum h p = subst (λ (x : Option ℤ). IsWhereAllFit x under sum) is h (All-left under ((sum *ℤ m) ∷ []) p)

-- ---- both

abbrev pub SumFits : Bool → Option ℤ → Option ℤ → Type 0
SumFits b gain regret = (xs ys : List ℤ) (x y : ℤ) → IsWhereAllFit gain xs x → IsWhereAllFit regret ys y → (IsTrue b ↔ All Fits (xs ++ (ys ++ (x +ℤ y) ∷ [])))

never : {A : Type 0} → IsTrue false → A
never e = absurd (false≢true e)

pub no-sum : (gain regret : Option ℤ) (u w u' w' : ℤ) → gain ≡ Some u → regret ≡ Some w → u' ≡ u → w' ≡ w → (Fits (u' +ℤ w') → ⊥) → SumFits false gain regret
no-sum gain regret u w u' w' a b e f wide xs ys x y h k =
    let p = subst (λ (o : Option ℤ). IsWhereAllFit o xs x) a h in
    let q = subst (λ (o : Option ℤ). IsWhereAllFit o ys y) b k in
    let one : u' ≡ x = e ∙ p.1 in
    let two : w' ≡ y = f ∙ q.1 in
    let same : u' +ℤ w' ≡ x +ℤ y = (λ i. one i +ℤ two i) in
    (never, λ t. absurd (wide (subst Fits (sym same) (All-last (x +ℤ y) ys (All-right xs (ys ++ (x +ℤ y) ∷ []) t)))))

pub no-gain : (gain regret : Option ℤ) → gain ≡ None → SumFits false gain regret
no-gain gain regret a xs ys x y h k =
    let p : All Fits xs → ⊥ = subst (λ (o : Option ℤ). IsWhereAllFit o xs x) a h in
    (never, λ t. absurd (p (All-left xs (ys ++ (x +ℤ y) ∷ []) t)))

pub no-regret : (gain regret : Option ℤ) → regret ≡ None → SumFits false gain regret
no-regret gain regret b xs ys x y h k =
    let q : All Fits ys → ⊥ = subst (λ (o : Option ℤ). IsWhereAllFit o ys y) b k in
    (never, λ t. absurd (q (All-left ys ((x +ℤ y) ∷ []) (All-right xs (ys ++ (x +ℤ y) ∷ []) t))))

pub all-formed : (b : Bool) (gain regret sum : Option ℤ) (rho p d a : ℤ) (vs : List ℤ) → IsWhereAllFit gain ((rho *ℤ p) ∷ ((rho *ℤ p) *ℤ d) ∷ []) ((rho *ℤ p) *ℤ d)
    → IsWhereAllFit sum (running (pos 0) vs) (total (λ v. v) vs)
    → ((under : List ℤ) (s : ℤ) → IsWhereAllFit sum under s → IsWhereAllFit regret (under ++ (s *ℤ a) ∷ []) (s *ℤ a))
    → SumFits b gain regret → IsTrue b ↔ All Fits (size_numbers rho p d vs a)
all-formed b gain regret sum rho p d a vs h k f s =
    let under : List ℤ = running (pos 0) vs in
    let z : ℤ = total (λ v. v) vs *ℤ a in
    let y : ℤ = (rho *ℤ p) *ℤ d in
    let ends : (under ++ z ∷ []) ++ (y +ℤ z) ∷ [] ≡ under ++ (z ∷ (y +ℤ z) ∷ []) = append_assoc under (z ∷ []) ((y +ℤ z) ∷ []) in
    subst (λ (xs : List ℤ). IsTrue b ↔ All Fits ((rho *ℤ p) ∷ y ∷ xs)) ends
    (s ((rho *ℤ p) ∷ y ∷ []) (under ++ z ∷ []) y z h (f under (total (λ v. v) vs) k))

pub same-numbers : (b : Bool) (rho p d a rho' p' d' a' : ℤ) (vs : List ℤ) → rho' ≡ rho → p' ≡ p → d' ≡ d → a' ≡ a → IsTrue b ↔ All Fits (size_numbers rho' p' d' vs a') → IsTrue b ↔ All Fits (size_numbers rho p d vs a)
same-numbers b rho p d a rho' p' d' a' vs e f h k is = subst (λ (xs : List ℤ). IsTrue b ↔ All Fits xs) (λ i. size_numbers (e i) (f i) (h i) vs (k i)) is

-- ---- what a size sum that fits gives

pub record HasSize (g : Game) (fix : Fix) (rho mu : ℤ) (marks : List Mark) : Type 0 where
  pub gain : Fits ((rho *ℤ fixed_priors g fix) *ℤ defender_most g)
  pub load : Fits (total (λ v. v) (map (λ (m : Mark). m.v) marks) *ℤ attacker_most g)
  pub sum : Fits (size_sum g fix (Plays rho mu marks))

pub has-size : (g : Game) (fix : Fix) (rho mu : ℤ) (marks : List Mark) → All Fits (size_sums g fix (Plays rho mu marks)) → HasSize g fix rho mu marks
has-size g fix rho mu marks h =
    let x : ℤ = rho *ℤ fixed_priors g fix in
    let y : ℤ = x *ℤ defender_most g in
    let vs : List ℤ = map (λ (m : Mark). m.v) marks in
    let z : ℤ = total (λ v. v) vs *ℤ attacker_most g in
    let ends : List ℤ = z ∷ (y +ℤ z) ∷ [] in
    let t = All-tail Fits x (y ∷ (running (pos 0) vs ++ ends)) h in
    let w = All-right (running (pos 0) vs) ends (All-tail Fits y (running (pos 0) vs ++ ends) t) in
    record {
      gain = All-head Fits y (running (pos 0) vs ++ ends) t;
      load = All-head Fits z ((y +ℤ z) ∷ []) w;
      sum = All-head Fits (y +ℤ z) [] (All-tail Fits z ((y +ℤ z) ∷ []) w);
    }
