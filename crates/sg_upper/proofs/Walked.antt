-- The greatest bound of a tree's leaves, node by node and part by part.
use Rattle.std.proofs.Common.{◌≡◌, ◌∙◌, ℕ, zero, suc, ◌+◌, ◌<◌, ◌≤◌, List, [], ◌∷◌, ◌++◌, length, map, take, drop, get_or, pos, ◌≤ℤ◌, Option, Some, None, Result, Ok, Err, ap, subst, sym, refl, arith}
use Rattle.std.proofs.lemmas.List.{append-nil, append_assoc, drop_more, length-append, take-append-drop, take_all, take_more}
use Rattle.sg_num.specs.declared.step.Wide.{Wide}
use Rattle.sg_num.specs.Operations.{first_wide}
use Rattle.sg_rows.proofs.Fitting.{first_wide-append_fits, first_wide-append_stops}
use Rattle.sg_frac.specs.Fractions.{Fraction, IsReduced}
use Rattle.sg_model.specs.Games.{Game}
use Rattle.sg_tree.specs.declared.fact.Fact.{Fact}
use Rattle.sg_tree.specs.declared.report.Cap.{Cap}
use Rattle.sg_tree.specs.declared.tree.Tree.{Tree}
use Rattle.sg_tree.specs.declared.tree.Tree.TheVariants.{Unproved, Closed, Split}
use Rattle.sg_tree.specs.declared.fix.Fix.{Fix}
use Rattle.sg_bounds.specs.Accepted.{IsGreatest}
use Rattle.sg_bounds.proofs.Nodes.{node_of-Closed, node_of-Split, node_of-Unproved}
use Rattle.sg_bounds.specs.Facts.{rho_of}
use Rattle.sg_bounds.specs.Leaves.{base_bound, fact_bound, leaf_bounds, listed, part_bounds, root_bound, tree_bounds_of}
use Rattle.sg_bounds.specs.Regions.{prefix}
use Rattle.sg_bounds.specs.Trees.{ArePartsOf, IsBase, IsRoot, IsTreeOf, Node, Parts, closed, end, node_of, part, parts_of, split, unproved}
use Rattle.sg_upper.proofs.Greatests.{top-start}
use Rattle.sg_upper.specs.Tops.{AreLowered, AreStatedParts, FormsBase, FormsBound, IsBoundedTree, IsStatedBase, IsStatedNode, IsTop, Raises, RaisesByNode, RaisesByParts}
use Rattle.sg_upper.specs.TreeSteps.{IsUpper, base_bound_steps, node_steps, part_steps}

abbrev pub nodes : List Tree → Parts
nodes parts = parts_of (map node_of parts)

-- ---- nodes

pub by_unproved : (g : Game) (caps : List Cap) (n : ℕ) (over : Option Fraction) (best top : Fraction) (t : Tree) → t ≡ Unproved → Raises best (listed over) top
    → RaisesByNode g caps n over best (node_of t) (Ok top)
by_unproved g caps n over best top t is h = rw (is, node_of-Unproved) (refl, h)

pub by_closed : (g : Game) (caps : List Cap) (n : ℕ) (over : Option Fraction) (best top : Fraction) (t : Tree) (f : Fact) (b : Option Fraction) → t ≡ Closed f → FormsBound g caps n f (Ok b)
    → ((more : List Fraction) → AreLowered more b → Raises best more top) → RaisesByNode g caps n over best (node_of t) (Ok top)
by_closed g caps n over best top t f b is h raises = rw (is, node_of-Closed f) (h.0, raises (listed (fact_bound g caps n f)) h.1)

pub by_closed-Err : (g : Game) (caps : List Cap) (n : ℕ) (over : Option Fraction) (best : Fraction) (t : Tree) (f : Fact) (w : Wide) → t ≡ Closed f → FormsBound g caps n f (Err w)
    → RaisesByNode g caps n over best (node_of t) (Err w)
by_closed-Err g caps n over best t f w is h = rw (is, node_of-Closed f) h

pub by_split : (g : Game) (caps : List Cap) (n : ℕ) (over : Option Fraction) (best : Fraction) (t : Tree) (l : ℕ) (base : Option Fact) (parts : List Tree) (b : Option Fraction) (r : Result Fraction Wide)
    → t ≡ Split l base parts → FormsBase g caps n over base (Ok b) → RaisesByParts g caps (n + 1) (base_bound g caps n over base) best (nodes parts) r → RaisesByNode g caps n over best (node_of t) r
by_split g caps n over best t l base parts b (Ok top) is h k =
    rw (is, node_of-Split l base parts) (first_wide-append_fits (base_bound_steps g caps n base) (part_steps g caps (n + 1) (nodes parts)) h.0 ∙ k.0, k.1)
by_split g caps n over best t l base parts b (Err w) is h k =
    rw (is, node_of-Split l base parts) (first_wide-append_fits (base_bound_steps g caps n base) (part_steps g caps (n + 1) (nodes parts)) h.0 ∙ k)

pub by_split-Err : (g : Game) (caps : List Cap) (n : ℕ) (over : Option Fraction) (best : Fraction) (t : Tree) (l : ℕ) (base : Option Fact) (parts : List Tree) (w : Wide)
    → t ≡ Split l base parts → FormsBase g caps n over base (Err w) → RaisesByNode g caps n over best (node_of t) (Err w)
by_split-Err g caps n over best t l base parts w is h =
    rw (is, node_of-Split l base parts) (first_wide-append_stops (base_bound_steps g caps n base) (part_steps g caps (n + 1) (nodes parts)) w h)

pub stated-closed : (m n : ℕ) (t : Tree) (f : Fact) → t ≡ Closed f → IsStatedNode m n (node_of t) → (n ≤ m) × (pos 1 ≤ℤ rho_of f)
stated-closed m n t f is h = subst (IsStatedNode m n) (ap node_of is ∙ node_of-Closed f) h

pub stated-split : (m n l : ℕ) (t : Tree) (base : Option Fact) (parts : List Tree) → t ≡ Split l base parts → IsStatedNode m n (node_of t)
    → (n + 1 ≤ m) × IsStatedBase base × AreStatedParts m (n + 1) (nodes parts)
stated-split m n l t base parts is h = subst (IsStatedNode m n) (ap node_of is ∙ node_of-Split l base parts) h

-- ---- parts in order

bounds-push : (g : Game) (caps : List Cap) (n : ℕ) (over : Option Fraction) (xs : List Tree) (x : Tree)
    → part_bounds g caps n over (nodes (xs ++ x ∷ [])) ≡ part_bounds g caps n over (nodes xs) ++ leaf_bounds g caps n over (node_of x)
bounds-push g caps n over [] x = append-nil (leaf_bounds g caps n over (node_of x))
bounds-push g caps n over (y ∷ xs) x =
    ap (λ (bs : List Fraction). leaf_bounds g caps n over (node_of y) ++ bs) (bounds-push g caps n over xs x)
    ∙ sym (append_assoc (leaf_bounds g caps n over (node_of y)) (part_bounds g caps n over (nodes xs)) (leaf_bounds g caps n over (node_of x)))

steps-append : (g : Game) (caps : List Cap) (n : ℕ) (xs ys : List Tree) → part_steps g caps n (nodes (xs ++ ys)) ≡ part_steps g caps n (nodes xs) ++ part_steps g caps n (nodes ys)
steps-append g caps n [] ys = refl
steps-append g caps n (x ∷ xs) ys =
    ap (λ (ws : List Wide). node_steps g caps n (node_of x) ++ ws) (steps-append g caps n xs ys)
    ∙ sym (append_assoc (node_steps g caps n (node_of x)) (part_steps g caps n (nodes xs)) (part_steps g caps n (nodes ys)))

raises-none : (best : Fraction) → Raises best [] best
raises-none best = λ bounds h. subst (IsTop best) (sym (append-nil bounds)) h

raises-then : (a b c : Fraction) (xs ys : List Fraction) → Raises a xs b → Raises b ys c → Raises a (xs ++ ys) c
raises-then a b c xs ys h k = λ bounds top. subst (IsTop c) (append_assoc bounds xs ys) (k (bounds ++ xs) (h bounds top))

-- what a walk over parts has come to, before part i
pub record HasRaised (g : Game) (caps : List Cap) (n : ℕ) (over : Option Fraction) (best top : Fraction) (i : ℕ) (parts : List Tree) : Type 0 where
  pub fits : first_wide (part_steps g caps n (nodes (take i parts))) ≡ None
  pub raises : Raises best (part_bounds g caps n over (nodes (take i parts))) top

pub walk-start : (g : Game) (caps : List Cap) (n : ℕ) (over : Option Fraction) (best : Fraction) (parts : List Tree) → HasRaised g caps n over best best 0 parts
walk-start g caps n over best parts = record { fits = refl; raises = raises-none best }

part_taken : (parts : List Tree) (i : ℕ) (x : Tree) → i < length parts → x ≡ get_or parts i x → take (i + 1) parts ≡ take i parts ++ x ∷ []
part_taken parts i x lt is = take_more parts i x lt ∙ ap (λ (y : Tree). take i parts ++ y ∷ []) (sym is)

pub walk-more : (g : Game) (caps : List Cap) (n : ℕ) (over : Option Fraction) (best top next : Fraction) (i : ℕ) (parts : List Tree) (x : Tree) → i < length parts → x ≡ get_or parts i x
    → HasRaised g caps n over best top i parts → RaisesByNode g caps n over top (node_of x) (Ok next) → HasRaised g caps n over best next (i + 1) parts
walk-more g caps n over best top next i parts x lt is h k =
    let taken = part_taken parts i x lt is in
    let one : part_steps g caps n (nodes (x ∷ [])) ≡ node_steps g caps n (node_of x) = append-nil (node_steps g caps n (node_of x)) in
    let steps : part_steps g caps n (nodes (take (i + 1) parts)) ≡ part_steps g caps n (nodes (take i parts)) ++ part_steps g caps n (nodes (x ∷ [])) =
    ap (λ (ts : List Tree). part_steps g caps n (nodes ts)) taken ∙ steps-append g caps n (take i parts) (x ∷ []) in
    let bounds : part_bounds g caps n over (nodes (take (i + 1) parts)) ≡ part_bounds g caps n over (nodes (take i parts)) ++ leaf_bounds g caps n over (node_of x) =
    ap (λ (ts : List Tree). part_bounds g caps n over (nodes ts)) taken ∙ bounds-push g caps n over (take i parts) x in
    record {
      fits = ap first_wide steps ∙ (first_wide-append_fits (part_steps g caps n (nodes (take i parts))) (part_steps g caps n (nodes (x ∷ []))) h.fits ∙ (ap first_wide one ∙ k.0));
      raises = subst (λ (bs : List Fraction). Raises best bs next) (sym bounds) (raises-then best top next (part_bounds g caps n over (nodes (take i parts))) (leaf_bounds g caps n over (node_of x)) h.raises k.1);
    }

pub walk-fails : (g : Game) (caps : List Cap) (n : ℕ) (over : Option Fraction) (best top : Fraction) (i : ℕ) (parts : List Tree) (x : Tree) (w : Wide) → i < length parts → x ≡ get_or parts i x
    → HasRaised g caps n over best top i parts → RaisesByNode g caps n over top (node_of x) (Err w) → RaisesByParts g caps n over best (nodes parts) (Err w)
walk-fails g caps n over best top i parts x w lt is h k =
    let here : drop i parts ≡ x ∷ drop (i + 1) parts = drop_more parts i x lt ∙ ap (λ (y : Tree). y ∷ drop (i + 1) parts) (sym is) in
    let whole : parts ≡ take i parts ++ x ∷ drop (i + 1) parts = sym (take-append-drop i parts) ∙ ap (λ (ts : List Tree). take i parts ++ ts) here in
    let steps : part_steps g caps n (nodes parts) ≡ part_steps g caps n (nodes (take i parts)) ++ (node_steps g caps n (node_of x) ++ part_steps g caps n (nodes (drop (i + 1) parts))) =
    ap (λ (ts : List Tree). part_steps g caps n (nodes ts)) whole ∙ steps-append g caps n (take i parts) (x ∷ drop (i + 1) parts) in
    ap first_wide steps
    ∙ (first_wide-append_fits (part_steps g caps n (nodes (take i parts))) (node_steps g caps n (node_of x) ++ part_steps g caps n (nodes (drop (i + 1) parts))) h.fits
    ∙ first_wide-append_stops (node_steps g caps n (node_of x)) (part_steps g caps n (nodes (drop (i + 1) parts))) w k)

pub walk-end : (g : Game) (caps : List Cap) (n : ℕ) (over : Option Fraction) (best top : Fraction) (i : ℕ) (parts : List Tree) → length parts ≤ i → HasRaised g caps n over best top i parts
    → RaisesByParts g caps n over best (nodes parts) (Ok top)
walk-end g caps n over best top i parts le h =
    let all = take_all i parts le in
    (subst (λ (ts : List Tree). first_wide (part_steps g caps n (nodes ts)) ≡ None) all h.fits, subst (λ (ts : List Tree). Raises best (part_bounds g caps n over (nodes ts)) top) all h.raises)

pub stated_part : (m n : ℕ) (parts : List Tree) → AreStatedParts m n (nodes parts) → (i : ℕ) (x : Tree) → i < length parts → x ≡ get_or parts i x → IsStatedNode m n (node_of x)
stated_part m n [] h i x lt is = absurd (omega arith)
stated_part m n (y ∷ ys) h zero x lt is = subst (λ (t : Tree). IsStatedNode m n (node_of t)) (sym is) h.0
stated_part m n (y ∷ ys) h (suc i) x lt is = stated_part m n ys h.1 i x (omega arith) is

-- ---- the whole tree

stated_base : (fix : Fix) (base : Option Fact) → IsBase (λ (x : Fix) f. pos 1 ≤ℤ rho_of f) fix base → IsStatedBase base
stated_base fix None h = tt
stated_base fix (Some f) h = h

mutual
  stated_node : (g : Game) (acts : List ℕ) (t : Node) → length acts ≤ length g.types → IsTreeOf g (λ fix f. pos 1 ≤ℤ rho_of f) acts t → IsStatedNode (length g.types) (length acts) t
  stated_node g acts unproved le h = le
  stated_node g acts (closed f) le h = (le, h)
  stated_node g acts (split l base parts) le h = (omega (arith, h.0, h.1), stated_base (prefix acts) base h.2, stated_parts g acts 1 parts (omega (arith, h.0, h.1)) h.4)

  stated_parts : (g : Game) (acts : List ℕ) (a : ℕ) (parts : Parts) → length acts + 1 ≤ length g.types → ArePartsOf g (λ fix f. pos 1 ≤ℤ rho_of f) acts a parts
      → AreStatedParts (length g.types) (length acts + 1) parts
  stated_parts g acts a end le h = tt
  stated_parts g acts a (part t rest) le h =
      let one : length (acts ++ a ∷ []) ≡ length acts + 1 = length-append acts (a ∷ []) in
      (subst (λ (n : ℕ). IsStatedNode (length g.types) n t) one (stated_node g (acts ++ a ∷ []) t (omega (arith, one, le)) h.0), stated_parts g acts (a + 1) rest le h.1)

pub tree-stated : (g : Game) (t : Node) → IsBoundedTree g t → IsStatedNode (length g.types) 0 t
tree-stated g t h = stated_node g [] t (omega arith) h.tree_of

tree_bounds : (g : Game) (caps : List Cap) (t : Node) → IsRoot t → tree_bounds_of g caps t ≡ leaf_bounds g caps 0 (Some (root_bound g)) t
tree_bounds g caps unproved h = absurd h
tree_bounds g caps (closed f) h = absurd h
tree_bounds g caps (split l base parts) h = refl

pub upper-is : (g : Game) (value : Fraction) (caps : List Cap) (t : Node) (r : Result Fraction Wide) → IsReduced value → IsRoot t → RaisesByNode g caps 0 (Some (root_bound g)) value t r → IsUpper g value caps t r
upper-is g value caps t (Ok top) reduced root h =
    let is = h.1 (value ∷ []) (top-start value reduced) in
    (h.0, subst (λ (bs : List Fraction). IsGreatest top (value ∷ bs)) (sym (tree_bounds g caps t root)) is.greatest, is.reduced)
upper-is g value caps t (Err w) reduced root h = h
