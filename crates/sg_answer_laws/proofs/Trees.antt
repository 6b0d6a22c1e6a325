-- The tree of a search's report, node by node.
use Rattle.std.proofs.Common.{◌≡◌, ℕ, zero, suc, ◌+◌, ◌≤◌, ◌<◌, ◌^◌, Bool, true, false, cond, List, [], ◌∷◌, ◌++◌, map, length, sym, ◌∙◌, ap, subst, refl, arith, Option, Some, None}
use Rattle.std.specs.List.{AllByRecursion}
use Rattle.std.proofs.lemmas.List.{length_push}
use Rattle.sg_model.specs.Sums.{numbers, numbers_from}
use Rattle.sg_model.specs.Games.{Game, action_count}
use Rattle.sg_model.specs.Payoffs.{IsPeopled}
use Rattle.sg_tree.specs.declared.fact.Fact.{Fact}
use Rattle.sg_tree.specs.declared.fix.Fix.{Fix}
use Rattle.sg_tree.specs.declared.tree.Tree.{Tree}
use Rattle.sg_tree.specs.declared.tree.Tree.TheVariants.{Unproved, Closed, Split}
use Rattle.sg_tree.specs.declared.tree.Tree.TheOpen.{Tree-F}
use Rattle.sg_tree.specs.declared.tree.Tree.TheViews.{out-Tree}
use Rattle.sg_cert.specs.Ranges.{IsFact, IsLayer, IsRangedBase, IsRangedNode}
use Rattle.sg_cert.proofs.Trees.{out_closed, out_is, out_open, tree_cases}
use Rattle.sg_bounds.specs.Regions.{prefix}
use Rattle.sg_bounds.specs.Trees.{Node, Parts, closed, end, node_of, part, parts_of, split, unproved}
use Rattle.sg_bounds.proofs.Nodes.{node_of-Closed, node_of-Split, node_of-Unproved}
use Rattle.sg_search.specs.Searches.{Search}
use Rattle.sg_search.specs.Bounding.{fact_of, is_split, leaf_with, tree_at, tree_of}

-- ---- nodes told apart

open-leaf : (o : Option Fact) → unproved ≡ leaf_with o → o ≡ None
open-leaf None e = refl
open-leaf (Some f) e = absurd (apart f e)
  where
    apart : (f : Fact) → unproved ≡ closed f → ⊥
    apart f e = cc

closed-leaf : (f : Fact) (o : Option Fact) → closed f ≡ leaf_with o → o ≡ Some f
closed-leaf f None e = absurd (apart f e)
  where
    apart : (f : Fact) → closed f ≡ unproved → ⊥
    apart f e = cc
closed-leaf f (Some h) e = same f h e
  where
    same : (f h : Fact) → closed f ≡ closed h → Some h ≡ Some f
    same f h e = cc

split-leaf : (l : ℕ) (base : Option Fact) (ts : Parts) (o : Option Fact) → split l base ts ≡ leaf_with o → ⊥
split-leaf l base ts None e = apart l base ts e
  where
    apart : (l : ℕ) (base : Option Fact) (ts : Parts) → split l base ts ≡ unproved → ⊥
    apart l base ts e = cc
split-leaf l base ts (Some f) e = apart l base ts f e
  where
    apart : (l : ℕ) (base : Option Fact) (ts : Parts) (f : Fact) → split l base ts ≡ closed f → ⊥
    apart l base ts f e = cc

open-split : (l : ℕ) (base : Option Fact) (ts : Parts) → unproved ≡ split l base ts → ⊥
open-split l base ts e = cc

closed-split : (f : Fact) (l : ℕ) (base : Option Fact) (ts : Parts) → closed f ≡ split l base ts → ⊥
closed-split f l base ts e = cc

splits-same : (l k : ℕ) (base other : Option Fact) (ts us : Parts) → split l base ts ≡ split k other us → (l ≡ k) × (base ≡ other) × (ts ≡ us)
splits-same l k base other ts us e = ((cc), (cc), (cc))

parts-same : (xs ys : List Node) → parts_of xs ≡ parts_of ys → xs ≡ ys
parts-same [] [] e = refl
parts-same [] (y ∷ ys) e = absurd (apart y (parts_of ys) e)
  where
    apart : (y : Node) (ys : Parts) → end ≡ part y ys → ⊥
    apart y ys e = cc
parts-same (x ∷ xs) [] e = absurd (apart x (parts_of xs) e)
  where
    apart : (x : Node) (xs : Parts) → part x xs ≡ end → ⊥
    apart x xs e = cc
parts-same (x ∷ xs) (y ∷ ys) e =
    let two = both x y (parts_of xs) (parts_of ys) e in
    let rest = parts-same xs ys two.1 in
    join x y xs ys two.0 rest
  where
    both : (x y : Node) (xs ys : Parts) → part x xs ≡ part y ys → (x ≡ y) × (xs ≡ ys)
    both x y xs ys e = ((cc), (cc))

    join : (x y : Node) (xs ys : List Node) → x ≡ y → xs ≡ ys → (x ∷ xs) ≡ (y ∷ ys)
    join x y xs ys p q = cc

-- ---- the parts of a split

-- each of some trees, numbered from a on
abbrev pub PartsHave : (ℕ → Tree → Type 0) → ℕ → List Tree → Type 0
PartsHave Q a [] = Unit {0}
PartsHave Q a (t ∷ ts) = Q a t × PartsHave Q (a + 1) ts

parts-have : (Q : ℕ → Tree → Type 0) (t : ℕ → Node) (us : List Tree) (a k : ℕ) → map node_of us ≡ map t (numbers_from a k) → ((b : ℕ) (u : Tree) → node_of u ≡ t b → Q b u) → PartsHave Q a us × (length us ≡ k)
parts-have Q t [] a zero e each = (tt, refl)
parts-have Q t [] a (suc k) e each = absurd (apart (t a) (map t (numbers_from (a + 1) k)) e)
  where
    apart : (x : Node) (xs : List Node) → [] ≡ x ∷ xs → ⊥
    apart x xs e = cc
parts-have Q t (u ∷ us) a zero e each = absurd (apart (node_of u) (map node_of us) e)
  where
    apart : (x : Node) (xs : List Node) → x ∷ xs ≡ [] → ⊥
    apart x xs e = cc
parts-have Q t (u ∷ us) a (suc k) e each =
    let two = both (node_of u) (t a) (map node_of us) (map t (numbers_from (a + 1) k)) e in
    let rest = parts-have Q t us (a + 1) k two.1 each in
    ((each a u two.0, rest.0), ap suc rest.1)
  where
    both : (x y : Node) (xs ys : List Node) → (x ∷ xs) ≡ (y ∷ ys) → (x ≡ y) × (xs ≡ ys)
    both x y xs ys e = ((cc), (cc))

-- ---- what holds of each node of the tree of a search

-- P of a node, where so many more types may be fixed after some actions: of one without a fact, of a closed one, and of a split of which it holds of the
-- parts
pub record Steps (g : Game) (s : Search) (P : ℕ → List ℕ → Tree → Type 0) : Type 0 where
  pub unproved_is : (d : ℕ) (acts : List ℕ) → fact_of s.worked (prefix acts) ≡ None → P d acts Unproved
  pub closed_is : (d : ℕ) (acts : List ℕ) (f : Fact) → fact_of s.worked (prefix acts) ≡ Some f → P d acts (Closed f)
  pub split_is : (d : ℕ) (acts : List ℕ) (base : Option Fact) (parts : List Tree) → is_split s.splits acts ≡ true → fact_of s.worked (prefix acts) ≡ base
      → length parts ≡ action_count g (length acts + 1) → PartsHave (λ a t. P d (acts ++ (a ∷ [])) t) 1 parts → P (suc d) acts (Split (length acts + 1) base parts)

module _ (g : Game) (s : Search) (P : ℕ → List ℕ → Tree → Type 0) (steps : Steps g s P) where
  leaf-has : (d : ℕ) (acts : List ℕ) (t : Tree) → node_of t ≡ leaf_with (fact_of s.worked (prefix acts)) → P d acts t
  leaf-has d acts t e =
      let o : Option Fact = fact_of s.worked (prefix acts) in
      tree_cases (λ u. node_of u ≡ leaf_with (fact_of s.worked (prefix acts)) → P d acts u)
      (λ q. steps.unproved_is d acts (open-leaf o (sym node_of-Unproved ∙ q)))
      (λ f q. steps.closed_is d acts f (closed-leaf f o (sym (node_of-Closed f) ∙ q)))
      (λ l base parts q. absurd (split-leaf l base (parts_of (map node_of parts)) o (sym (node_of-Split l base parts) ∙ q)))
      t e

  pub tree-has : (d : ℕ) (acts : List ℕ) (t : Tree) → node_of t ≡ tree_at g s d acts → P d acts t
  tree-has zero acts t e = leaf-has zero acts t e
  tree-has (suc d) acts t e = by (is_split s.splits acts) refl e (λ a u q. tree-has d (acts ++ (a ∷ [])) u q)
    where
      all : List ℕ
      all = numbers (action_count g (length acts + 1))

      below : ℕ → Node
      below a = tree_at g s d (acts ++ (a ∷ []))

      by : (b : Bool) → is_split s.splits acts ≡ b
          → node_of t ≡ cond {A = Node} b (split (length acts + 1) (fact_of s.worked (prefix acts)) (parts_of (map (λ a. tree_at g s d (acts ++ (a ∷ []))) (numbers (action_count g (length acts + 1)))))) (leaf_with (fact_of s.worked (prefix acts)))
          → ((a : ℕ) (u : Tree) → node_of u ≡ tree_at g s d (acts ++ (a ∷ [])) → P d (acts ++ (a ∷ [])) u) → P (suc d) acts t
      by false is q each = leaf-has (suc d) acts t q
      by true is q each =
          let own : Option Fact = fact_of s.worked (prefix acts) in
          let ts : Parts = parts_of (map (λ a. tree_at g s d (acts ++ (a ∷ []))) (numbers (action_count g (length acts + 1)))) in
          tree_cases (λ u. node_of u ≡ split (length acts + 1) (fact_of s.worked (prefix acts)) (parts_of (map (λ a. tree_at g s d (acts ++ (a ∷ []))) (numbers (action_count g (length acts + 1))))) → P (suc d) acts u)
          (λ r. absurd (open-split (length acts + 1) own ts (sym node_of-Unproved ∙ r)))
          (λ f r. absurd (closed-split f (length acts + 1) own ts (sym (node_of-Closed f) ∙ r)))
          (λ l base parts r.
          let three = splits-same l (length acts + 1) base own (parts_of (map node_of parts)) ts (sym (node_of-Split l base parts) ∙ r) in
          let list = parts-same (map node_of parts) (map (λ a. tree_at g s d (acts ++ (a ∷ []))) (numbers (action_count g (length acts + 1)))) three.2 in
          let have = parts-have (λ a u. P d (acts ++ (a ∷ [])) u) (λ a. tree_at g s d (acts ++ (a ∷ []))) parts 1 (action_count g (length acts + 1)) list each in
          subst (λ (k : ℕ). P (suc d) acts (Split k base parts)) (sym three.0) (steps.split_is d acts base parts is (sym three.1) have.1 have.0))
          t q

-- ---- the ranges of the tree

-- at most so many splits below one another, where as many more types may be fixed, and no more types are fixed than there are
abbrev IsRangedAt : Game → ℕ → List ℕ → Tree → Type 0
IsRangedAt g d acts t = (left : ℕ) → d ≤ left → length acts + d ≤ length g.types → IsRangedNode left t

leaf-layer : (left : ℕ) (t : Tree) (x : Tree-F Tree) → out-Tree t ≡ x → ((P : Tree → Type 0) → IsLayer P x) → IsRangedNode left t
leaf-layer zero t x e h = subst (IsLayer (λ _. ⊥)) (sym e) (h (λ _. ⊥))
leaf-layer (suc left) t x e h = subst (IsLayer (IsRangedNode left)) (sym e) (h (IsRangedNode left))

parts-ranged : (g : Game) (d left : ℕ) (acts : List ℕ) (a : ℕ) (us : List Tree) → d ≤ left → length acts + suc d ≤ length g.types → PartsHave (λ a u. IsRangedAt g d (acts ++ (a ∷ [])) u) a us → AllByRecursion (IsRangedNode left) us
parts-ranged g d left acts a [] le few have = tt
parts-ranged g d left acts a (u ∷ us) le few have =
    let one = length_push acts a in
    (have.0 left le (omega (arith, few, one)), parts-ranged g d left acts (a + 1) us le few have.1)

base-ranged : (s : Search) → ((x : Fix) (f : Fact) → fact_of s.worked x ≡ Some f → IsFact f) → (acts : List ℕ) (base : Option Fact) → fact_of s.worked (prefix acts) ≡ base → IsRangedBase base
base-ranged s facts acts None e = tt
base-ranged s facts acts (Some f) e = facts (prefix acts) f e

split-ranged : (g : Game) → IsPeopled g → length g.types ≤ 8 → ((l : ℕ) → action_count g l < 2 ^ 16) → (d : ℕ) (acts : List ℕ) (base : Option Fact) (parts : List Tree) → IsRangedBase base → length parts ≡ action_count g (length acts + 1)
    → PartsHave (λ a t. IsRangedAt g d (acts ++ (a ∷ [])) t) 1 parts → (left : ℕ) → suc d ≤ left → length acts + suc d ≤ length g.types → IsRangedNode left (Split (length acts + 1) base parts)
split-ranged g is_peopled types small d acts base parts own count have zero le few = absurd (omega (arith, le))
split-ranged g is_peopled types small d acts base parts own count have (suc left) le few =
    let some = is_peopled.actions (length acts + 1) (omega arith) (omega (arith, few)) in
    let least = small (length acts + 1) in
    subst (IsLayer (IsRangedNode left)) (sym (out_is (length acts + 1) base parts))
    ((omega arith, omega (arith, few, types)), (omega (arith, some, count), omega (arith, least, count)), own, parts-ranged g d left acts 1 parts (omega (arith, le)) few have)

ranged-steps : (g : Game) (s : Search) → IsPeopled g → length g.types ≤ 8 → ((l : ℕ) → action_count g l < 2 ^ 16) → ((x : Fix) (f : Fact) → fact_of s.worked x ≡ Some f → IsFact f) → Steps g s (IsRangedAt g)
ranged-steps g s is_peopled types small facts = record {
  unproved_is = λ d acts e left le few. leaf-layer left Unproved Tree-F.Unproved out_open (λ P. tt);
  closed_is = λ d acts f e left le few. leaf-layer left (Closed f) (Tree-F.Closed f) (out_closed f) (λ P. facts (prefix acts) f e);
  split_is = λ d acts base parts is own count have left le few. split-ranged g is_peopled types small d acts base parts (base-ranged s facts acts base own) count have left le few;
}

-- the tree of a search whose facts lie in their ranges does
pub tree-ranged : (g : Game) (s : Search) → IsPeopled g → length g.types ≤ 8 → ((l : ℕ) → action_count g l < 2 ^ 16) → ((x : Fix) (f : Fact) → fact_of s.worked x ≡ Some f → IsFact f)
    → (t : Tree) → node_of t ≡ tree_of g s → IsRangedNode 8 t
tree-ranged g s is_peopled types small facts t e = tree-has g s (IsRangedAt g) (ranged-steps g s is_peopled types small facts) (length g.types) [] t e 8 types (omega arith)
