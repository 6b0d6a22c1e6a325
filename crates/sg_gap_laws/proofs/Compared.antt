-- Fractions compared, and the bounds of a tree's leaves as fractions over numbers of at least 1.
use Rattle.std.proofs.Common.{◌≡◌, ℕ, ◌+◌, true, false, List, [], ◌∷◌, ◌++◌, Option, Some, None, ℤ, pos, ◌*ℤ◌, ◌≤ℤ◌, sym, ◌∙◌, ap, refl, arith, ⊎_elim}
use Rattle.std.specs.List.{All}
use Rattle.std.specs.Prelude.{int_lt, IfSome}
use Rattle.std.proofs.lemmas.Int.{ints}
use Rattle.std.proofs.lemmas.Bool.{cases_Bool}
use Rattle.std.proofs.lemmas.List.Elements.{All-append, All-cons, All-nil}
use Rattle.sg_frac.specs.Fractions.{Fraction}
use Rattle.sg_model.specs.Games.{Game}
use Rattle.sg_model.specs.Payoffs.{IsPeopled}
use Rattle.sg_model.proofs.Ints.{v, times, le_by, le_from, same_by, cancel-le, mul-le}
use Rattle.sg_model.proofs.Values.{prior_total-positive}
use Rattle.sg_tree.specs.declared.fact.Fact.{Fact}
use Rattle.sg_tree.specs.declared.report.Cap.{Cap}
use Rattle.sg_bounds.specs.Accepted.{IsNotAbove, IsSame, IsSplitTree}
use Rattle.sg_bounds.specs.Facts.{HoldsFor}
use Rattle.sg_bounds.specs.Leaves.{base_bound, fact_bound, leaf_bounds, listed, part_bounds, root_bound, tree_bounds_of}
use Rattle.sg_bounds.specs.Regions.{prefix}
use Rattle.sg_bounds.specs.Trees.{ArePartsOf, IsBase, IsRoot, IsTreeOf, Node, Parts, closed, end, part, split, unproved}
use Rattle.sg_bounds.proofs.Caps.{holds-rho}
use Rattle.sg_search.specs.Bounding.{exceeds}
use Rattle.sg_search.proofs.Poorer.{bound-positive}

-- ---- fractions

-- what isn't above b isn't above c, where b isn't
pub below-chain : (a b c : Fraction) → pos 1 ≤ℤ a.den → pos 1 ≤ℤ b.den → pos 1 ≤ℤ c.den → IsNotAbove a b → IsNotAbove b c → IsNotAbove a c
below-chain a b c pa pb pc h k =
    let an = v a.num in let ad = v a.den in let bn = v b.num in let bd = v b.den in let cn = v c.num in let cd = v c.den in
    let p = mul-le (a.num *ℤ b.den) (b.num *ℤ a.den) c.den h (omega (arith, ints, pc)) in
    let q = mul-le (b.num *ℤ c.den) (c.num *ℤ b.den) a.den k (omega (arith, ints, pa)) in
    let x : ((a.num *ℤ c.den) *ℤ b.den) ≤ℤ ((c.num *ℤ a.den) *ℤ b.den) =
    le_by (times (times an cd) bd) (times (times cn ad) bd) (omega (arith, le_from (times (times an bd) cd) (times (times bn ad) cd) p, le_from (times (times bn cd) ad) (times (times cn bd) ad) q)) in
    cancel-le (a.num *ℤ c.den) (c.num *ℤ a.den) b.den x pb

-- nor, whatever its denominator is, above what is the same as b
pub below-same : (a b c : Fraction) → pos 1 ≤ℤ b.den → pos 1 ≤ℤ c.den → IsSame b c → IsNotAbove a b → IsNotAbove a c
below-same a b c pb pc e h =
    let an = v a.num in let ad = v a.den in let bn = v b.num in let bd = v b.den in let cn = v c.num in let cd = v c.den in
    let p = mul-le (a.num *ℤ b.den) (b.num *ℤ a.den) c.den h (omega (arith, ints, pc)) in
    let f : (b.num *ℤ a.den) *ℤ c.den ≡ (c.num *ℤ a.den) *ℤ b.den =
    same_by (times (times bn ad) cd) (times ad (times bn cd)) (omega arith) ∙ ap (λ (z : ℤ). a.den *ℤ z) e ∙ same_by (times ad (times cn bd)) (times (times cn ad) bd) (omega arith) in
    let q : (a.num *ℤ b.den) *ℤ c.den ≡ (a.num *ℤ c.den) *ℤ b.den = same_by (times (times an bd) cd) (times (times an cd) bd) (omega arith) in
    cancel-le (a.num *ℤ c.den) (c.num *ℤ a.den) b.den (omega (arith, ints, p, f, q)) pb

pub below-from : (a b : Fraction) → exceeds a b ≡ false → IsNotAbove a b
below-from a b e = not-lt (b.num *ℤ a.den) (a.num *ℤ b.den) e
  where
    not-lt : (x y : ℤ) → int_lt x y ≡ false → y ≤ℤ x
    not-lt x y h = omega (arith, ints, h)

pub not-both : (a b : Fraction) → exceeds a b ≡ true → IsNotAbove a b → ⊥
not-both a b e h = apart (b.num *ℤ a.den) (a.num *ℤ b.den) e h
  where
    apart : (x y : ℤ) → int_lt x y ≡ true → y ≤ℤ x → ⊥
    apart x y f k = omega (arith, ints, f, k)

-- what is above b is above what is the same as b
pub above-same : (a b c : Fraction) → pos 1 ≤ℤ b.den → pos 1 ≤ℤ c.den → IsSame b c → exceeds a b ≡ true → exceeds a c ≡ true
above-same a b c pb pc e over = ⊎_elim
    (λ yes. yes)
    (λ no. absurd (not-both a b over (below-same a c b pc pb (sym e) (below-from a c no))))
    (cases_Bool (exceeds a c))

-- ---- the bounds of a tree

abbrev pub IsOverOne : Fraction → Type 0
IsOverOne b = pos 1 ≤ℤ b.den

module _ (g : Game) (peopled : IsPeopled g) (caps : List Cap) where
  listed-positive : (o : Option Fraction) → IfSome o IsOverOne → All IsOverOne (listed o)
  listed-positive None h = All-nil IsOverOne
  listed-positive (Some b) h = All-cons IsOverOne b [] h (All-nil IsOverOne)

  some-bound : (o : Option Fraction) → ((b : Fraction) → o ≡ Some b → pos 1 ≤ℤ b.den) → IfSome o IsOverOne
  some-bound None h = tt
  some-bound (Some b) h = h b refl

  fact-positive : (k : ℕ) (acts : List ℕ) (f : Fact) → HoldsFor g (prefix acts) f → IfSome (fact_bound g caps k f) IsOverOne
  fact-positive k acts f h = some-bound (fact_bound g caps k f) (bound-positive g peopled caps k f (holds-rho g (prefix acts) f h))

  base-positive : (k : ℕ) (acts : List ℕ) (above : Option Fraction) (o : Option Fact) → IfSome above IsOverOne → IsBase (HoldsFor g) (prefix acts) o → IfSome (base_bound g caps k above o) IsOverOne
  base-positive k acts above None p h = p
  base-positive k acts above (Some f) p h = fact-positive k acts f h

  mutual
    leaf-positive : (t : Node) (k : ℕ) (acts : List ℕ) (above : Option Fraction) → IfSome above IsOverOne → IsTreeOf g (HoldsFor g) acts t → All IsOverOne (leaf_bounds g caps k above t)
    leaf-positive unproved k acts above p h = listed-positive above p
    leaf-positive (closed f) k acts above p h = listed-positive (fact_bound g caps k f) (fact-positive k acts f h)
    leaf-positive (split l base parts) k acts above p h = part-positive parts (k + 1) acts 1 (base_bound g caps k above base) (base-positive k acts above base p h.2) h.4

    part-positive : (ps : Parts) (k : ℕ) (acts : List ℕ) (a : ℕ) (above : Option Fraction) → IfSome above IsOverOne → ArePartsOf g (HoldsFor g) acts a ps → All IsOverOne (part_bounds g caps k above ps)
    part-positive end k acts a above p h = All-nil IsOverOne
    part-positive (part t rest) k acts a above p h =
        All-append IsOverOne (leaf_bounds g caps k above t) (part_bounds g caps k above rest) (leaf-positive t k (acts ++ (a ∷ [])) above p h.0) (part-positive rest k acts (a + 1) above p h.1)

  by-root : (t : Node) → IsRoot t → IsTreeOf g (HoldsFor g) [] t → All IsOverOne (tree_bounds_of g caps t)
  by-root unproved root h = absurd root
  by-root (closed f) root h = absurd root
  by-root (split l base parts) root h = leaf-positive (split l base parts) 0 [] (Some (root_bound g)) (prior_total-positive g peopled) h

  -- each bound of a split tree whose facts hold has a denominator of at least 1
  pub tree-positive : (t : Node) → IsSplitTree g t → All IsOverOne (tree_bounds_of g caps t)
  tree-positive t h = by-root t h.root h.tree_of
