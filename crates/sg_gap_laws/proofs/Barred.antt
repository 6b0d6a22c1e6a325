-- The leaves of a search's tree: parts that aren't worked, and worked ones that aren't split.
use Rattle.std.proofs.Common.{◌≡◌, ◌⊎◌, ℕ, zero, suc, ◌+◌, ◌≤◌, ◌<◌, Bool, true, false, true≢false, cond, List, [], ◌∷◌, ◌++◌, map, length, Option, Some, None, sym, ◌∙◌, ap, subst, refl, arith, inl, inr, ⊎_elim, Contains}
use Rattle.std.specs.List.{All}
use Rattle.std.specs.Prelude.{option_and_then}
use Rattle.std.proofs.lemmas.List.{length_push}
use Rattle.std.proofs.lemmas.List.Elements.{All-append, All-cons, All-nil}
use Rattle.sg_frac.specs.Fractions.{Fraction}
use Rattle.sg_model.specs.Sums.{numbers, numbers_from}
use Rattle.sg_model.specs.Games.{Game, action_count}
use Rattle.sg_tree.specs.declared.fact.Fact.{Fact}
use Rattle.sg_tree.specs.declared.fix.Fix.{Fix}
use Rattle.sg_tree.specs.declared.report.Cap.{Cap}
use Rattle.sg_bounds.specs.Accepted.{IsNotAbove}
use Rattle.sg_bounds.specs.Leaves.{base_bound, fact_bound, leaf_bounds, listed, part_bounds, root_bound}
use Rattle.sg_bounds.specs.Regions.{prefix}
use Rattle.sg_bounds.specs.Trees.{Node, parts_of, split}
use Rattle.sg_search.specs.Searches.{Task, Search, worked_count, ArePlaced, IsPartOf}
use Rattle.sg_search.specs.Bounding.{caps_of, exceeds, fact_of, inherited, is_over, is_split, leaf_with, lower, tree_at}
use Rattle.sg_search.specs.Changes.{MaySplit}
use Rattle.sg_search.specs.EndLaws.{IsClosed}
use Rattle.sg_search.proofs.Grown.{AreSplits, split-yes, zero-or-more}
use Rattle.sg_search.proofs.Opened.{base-is, bounds-are, fact-some, fact-worked, not-true, split-out}
use Rattle.sg_programs.specs.CauseRows.{AreLeavesBarred, ArePartsBarred, IsOverValue, IsStuckUnder}
use Rattle.sg_programs.specs.NodeTests.{Method}
use Rattle.sg_gap_laws.proofs.Compared.{below-from}

none-some : {X : Type 0} {x : X} → None ≡ Some x → ⊥
none-some h = cc

module _ (p : Task) (s : Search) (placed : ArePlaced p.game s) (ok : AreSplits p s) where
  abbrev g : Game
  g = p.game

  abbrev caps : List Cap
  caps = caps_of p.game s

  -- a part of a split, under the bound that the parts of the split have
  pub record IsBelow (x : List ℕ) (above : Option Fraction) : Type 0 where
    pub before : List ℕ
    pub at : Contains s.splits before
    pub act : ℕ
    pub from_one : 1 ≤ act
    pub in_range : act ≤ action_count g (length before + 1)
    pub is : x ≡ before ++ (act ∷ [])
    pub bound : above ≡ inherited g s before

  -- the root, or such a part
  abbrev IsSpot : List ℕ → Option Fraction → Type 0
  IsSpot x above = ((x ≡ []) × (above ≡ Some (root_bound g))) ⊎ IsBelow x above

  part-of : (x : List ℕ) (above : Option Fraction) → (b : IsBelow x above) → IsPartOf g b.before (prefix x)
  part-of x above b = record { act = b.act; from_one = b.from_one; in_range = b.in_range; node_is = ap prefix b.is }

  some-acts : (x : List ℕ) (above : Option Fraction) → IsBelow x above → x ≡ [] → ⊥
  some-acts x above b e = let l = length_push b.before b.act in let z : length (b.before ++ (b.act ∷ [])) ≡ 0 = ap length (sym b.is ∙ e) in omega (arith, l, z)

  -- what is split is the root or has a part above
  top-bound : (x : List ℕ) (above : Option Fraction) → IsSpot x above → x ≡ [] → above ≡ Some (root_bound g)
  top-bound x above (inl root) e = root.1
  top-bound x above (inr below) e = absurd (some-acts x above below e)

  -- the bound above the parts of a split
  parts-bound : (x : List ℕ) (above : Option Fraction) → IsSpot x above → is_split s.splits x ≡ true → base_bound g caps (length x) above (fact_of s.worked (prefix x)) ≡ inherited g s x
  parts-bound x above spot e = base-is p s placed ok x (split-out s.splits x e) above (top-bound x above spot)

  next-spot : (x : List ℕ) (above : Option Fraction) → IsSpot x above → is_split s.splits x ≡ true → (a : ℕ) → 1 ≤ a → a ≤ action_count g (length x + 1)
      → IsSpot (x ++ (a ∷ [])) (base_bound g caps (length x) above (fact_of s.worked (prefix x)))
  next-spot x above spot e a low high = inr (record { before = x; at = split-out s.splits x e; act = a; from_one = low; in_range = high; is = refl; bound = parts-bound x above spot e })

  -- a leaf is no root, and is a part that isn't split
  leaf-below : (x : List ℕ) (above : Option Fraction) → IsSpot x above → is_split s.splits x ≡ false → IsBelow x above
  leaf-below x above (inl root) e = absurd (true≢false (sym (split-yes s.splits [] ok.root) ∙ subst (λ (z : List ℕ). is_split s.splits z ≡ false) root.0 e))
  leaf-below x above (inr below) e = below

  -- a prefix of all types isn't split
  full-unsplit : (x : List ℕ) → length x ≡ length g.types → is_split s.splits x ≡ false
  full-unsplit x e = not-true (is_split s.splits x) (λ yes. let short = ok.short x (split-out s.splits x yes) in omega (arith, short, e))

  unworked : (node : Fix) → fact_of s.worked node ≡ None → worked_count s node ≡ 0
  unworked node e = ⊎_elim (λ none. none) (λ more. let f = fact-some s.worked node more in absurd (none-some (sym e ∙ f.1))) (zero-or-more (worked_count s node))

  -- a worked prefix that isn't split, and leaves a type open, may be split where its bound is above the incumbent
  may-split : (x : List ℕ) (above : Option Fraction) → IsBelow x above → is_split s.splits x ≡ false → (f : Fact) → fact_of s.worked (prefix x) ≡ Some f → length x < length g.types
      → is_over p s (fact_bound g caps (length x) f) ≡ true → MaySplit p s x
  may-split x above below unsplit f e short over = record {
    some = some-acts x above below;
    worked = fact-worked s.worked (prefix x) f e;
    unsplit = unsplit;
    short = short;
    over = ap (λ (o : Option Fact). is_over p s (option_and_then (fact_bound g caps (length x)) o)) e ∙ over;
  }

  -- ---- what is open is stuck

  module _ (m : Method) (value : Fraction) (over-is : (o : Option Fraction) → IsOverValue value o → is_over p s o ≡ true)
      (stuck : (acts : List ℕ) (node : Fix) → Contains s.splits acts → IsPartOf g acts node → is_over p s (inherited g s acts) ≡ true → worked_count s node ≡ 0 → IsStuckUnder g m node)
      (unsplit : (acts : List ℕ) → ¬ (MaySplit p s acts)) where
    leaf-barred : (x : List ℕ) (above : Option Fraction) → IsBelow x above → is_split s.splits x ≡ false → (o : Option Fact) → fact_of s.worked (prefix x) ≡ o
        → AreLeavesBarred g m caps value above x (leaf_with o)
    leaf-barred x above b e None q = λ over. stuck b.before (prefix x) b.at (part-of x above b) (subst (λ (o : Option Fraction). is_over p s o ≡ true) b.bound (over-is above over)) (unworked (prefix x) q)
    leaf-barred x above b e (Some f) q = λ short over. unsplit x (may-split x above b e f q short (over-is (fact_bound g caps (length x) f) over))

    parts-barred : (x : List ℕ) (above : Option Fraction) (t : ℕ → Node) (top : ℕ) → ((a : ℕ) → 1 ≤ a → a ≤ top → AreLeavesBarred g m caps value above (x ++ (a ∷ [])) (t a))
        → (b k : ℕ) → 1 ≤ b → b + k ≤ top + 1 → ArePartsBarred g m caps value above x b (parts_of (map t (numbers_from b k)))
    parts-barred x above t top each b zero low high = tt
    parts-barred x above t top each b (suc k) low high = (each b low (omega (arith, high)), parts-barred x above t top each (b + 1) k (omega arith) (omega (arith, high)))

    pub tree-barred : (d : ℕ) (x : List ℕ) (above : Option Fraction) → d + length x ≡ length g.types → IsSpot x above → AreLeavesBarred g m caps value above x (tree_at g s d x)
    tree-barred zero x above e spot =
        let u = full-unsplit x (omega (arith, e)) in
        leaf-barred x above (leaf-below x above spot u) u (fact_of s.worked (prefix x)) refl
    tree-barred (suc d) x above e spot = by (is_split s.splits x) refl
        (λ q a low high. tree-barred d (x ++ (a ∷ [])) (base_bound g caps (length x) above (fact_of s.worked (prefix x))) (let l = length_push x a in omega (arith, e, l)) (next-spot x above spot q a low high))
      where
        by : (b : Bool) → is_split s.splits x ≡ b
            → (is_split s.splits x ≡ true → (a : ℕ) → 1 ≤ a → a ≤ action_count g (length x + 1)
            → AreLeavesBarred g m caps value (base_bound g caps (length x) above (fact_of s.worked (prefix x))) (x ++ (a ∷ [])) (tree_at g s d (x ++ (a ∷ []))))
            → AreLeavesBarred g m caps value above x (cond {A = Node} b (split (length x + 1) (fact_of s.worked (prefix x)) (parts_of (map (λ a. tree_at g s d (x ++ (a ∷ []))) (numbers (action_count g (length x + 1)))))) (leaf_with (fact_of s.worked (prefix x))))
        by false q each = leaf-barred x above (leaf-below x above spot q) q (fact_of s.worked (prefix x)) refl
        by true q each = parts-barred x (base_bound g caps (length x) above (fact_of s.worked (prefix x))) (λ a. tree_at g s d (x ++ (a ∷ []))) (action_count g (length x + 1)) (each q) 1 (action_count g (length x + 1)) (omega arith) (omega arith)

  -- ---- nothing is open

  module _ (none : (acts : List ℕ) (node : Fix) → Contains s.splits acts → IsPartOf g acts node → is_over p s (inherited g s acts) ≡ true → worked_count s node ≡ 0 → ⊥)
      (unsplit : (acts : List ℕ) → ¬ (MaySplit p s acts))
      (full : (x : List ℕ) (f : Fact) → length x ≡ length g.types → fact_of s.worked (prefix x) ≡ Some f → is_over p s (fact_bound g caps (length x) f) ≡ true → ⊥) where
    abbrev IsLow : Fraction → Type 0
    IsLow b = IsNotAbove b (lower p s)

    listed-low : (o : Option Fraction) → (is_over p s o ≡ true → ⊥) → All IsLow (listed o)
    listed-low None h = All-nil IsLow
    listed-low (Some b) h = All-cons IsLow b [] (below-from b (lower p s) (not-true (exceeds b (lower p s)) h)) (All-nil IsLow)

    short-or-full : (a b : ℕ) → a ≤ b → (a < b) ⊎ (a ≡ b)
    short-or-full zero zero h = inr refl
    short-or-full zero (suc b) h = inl (omega arith)
    short-or-full (suc a) zero h = absurd (omega (arith, h))
    short-or-full (suc a) (suc b) h = ⊎_elim (λ l. inl (omega (arith, l))) (λ e. inr (ap suc e)) (short-or-full a b (omega (arith, h)))

    leaf-low : (x : List ℕ) (above : Option Fraction) → length x ≤ length g.types → IsBelow x above → is_split s.splits x ≡ false → (o : Option Fact) → fact_of s.worked (prefix x) ≡ o
        → All IsLow (leaf_bounds g caps (length x) above (leaf_with o))
    leaf-low x above le b e None q = listed-low above (λ over. none b.before (prefix x) b.at (part-of x above b) (subst (λ (o : Option Fraction). is_over p s o ≡ true) b.bound over) (unworked (prefix x) q))
    leaf-low x above le b e (Some f) q = listed-low (fact_bound g caps (length x) f) (λ over. ⊎_elim
        (λ short. unsplit x (may-split x above b e f q short over))
        (λ long. full x f long q over)
        (short-or-full (length x) (length g.types) le))

    parts-low : (k : ℕ) (above : Option Fraction) (t : ℕ → Node) (top : ℕ) → ((a : ℕ) → 1 ≤ a → a ≤ top → All IsLow (leaf_bounds g caps k above (t a)))
        → (b c : ℕ) → 1 ≤ b → b + c ≤ top + 1 → All IsLow (part_bounds g caps k above (parts_of (map t (numbers_from b c))))
    parts-low k above t top each b zero low high = All-nil IsLow
    parts-low k above t top each b (suc c) low high =
        All-append IsLow (leaf_bounds g caps k above (t b)) (part_bounds g caps k above (parts_of (map t (numbers_from (b + 1) c)))) (each b low (omega (arith, high)))
        (parts-low k above t top each (b + 1) c (omega arith) (omega (arith, high)))

    tree-low : (d : ℕ) (x : List ℕ) (above : Option Fraction) → d + length x ≡ length g.types → IsSpot x above → All IsLow (leaf_bounds g caps (length x) above (tree_at g s d x))
    tree-low zero x above e spot =
        let u = full-unsplit x (omega (arith, e)) in
        leaf-low x above (omega (arith, e)) (leaf-below x above spot u) u (fact_of s.worked (prefix x)) refl
    tree-low (suc d) x above e spot = by (is_split s.splits x) refl
        (λ q a low high.
        let l = length_push x a in
        subst (λ (k : ℕ). All IsLow (leaf_bounds g caps k (base_bound g caps (length x) above (fact_of s.worked (prefix x))) (tree_at g s d (x ++ (a ∷ []))))) l
        (tree-low d (x ++ (a ∷ [])) (base_bound g caps (length x) above (fact_of s.worked (prefix x))) (omega (arith, e, l)) (next-spot x above spot q a low high)))
      where
        by : (b : Bool) → is_split s.splits x ≡ b
            → (is_split s.splits x ≡ true → (a : ℕ) → 1 ≤ a → a ≤ action_count g (length x + 1)
            → All IsLow (leaf_bounds g caps (length x + 1) (base_bound g caps (length x) above (fact_of s.worked (prefix x))) (tree_at g s d (x ++ (a ∷ [])))))
            → All IsLow (leaf_bounds g caps (length x) above (cond {A = Node} b (split (length x + 1) (fact_of s.worked (prefix x)) (parts_of (map (λ a. tree_at g s d (x ++ (a ∷ []))) (numbers (action_count g (length x + 1)))))) (leaf_with (fact_of s.worked (prefix x)))))
        by false q each = leaf-low x above (omega (arith, e)) (leaf-below x above spot q) q (fact_of s.worked (prefix x)) refl
        by true q each = parts-low (length x + 1) (base_bound g caps (length x) above (fact_of s.worked (prefix x))) (λ a. tree_at g s d (x ++ (a ∷ []))) (action_count g (length x + 1)) (each q) 1 (action_count g (length x + 1)) (omega arith) (omega arith)

    -- then no leaf is above the incumbent
    pub tree-closed : 1 ≤ length g.types → IsClosed p s
    tree-closed some = by (length g.types) refl some
      where
        by : (k : ℕ) → length g.types ≡ k → 1 ≤ k → IsClosed p s
        by zero e low = absurd (omega (arith, low))
        by (suc d) e low = subst (All IsLow) (sym (bounds-are p s placed ok d e)) (tree-low (suc d) [] (Some (root_bound g)) (omega (arith, e)) (inl (refl, refl)))
