-- When the upper bound is above the incumbent: where a waiting part or a prefix to be split is, and while the tree has one level.
use Rattle.std.proofs.Common.{◌≡◌, ◌⊎◌, ℕ, zero, suc, ◌+◌, ◌≤◌, ◌<◌, Bool, true, false, cond, ◌||◌, List, [], ◌∷◌, ◌++◌, map, length, count_by, find, option_map, sym, ◌∙◌, ap, subst, refl, arith, Option, Some, None, inl, inr, ⊎_elim, true≢false, Contains, append-nil, append_assoc, length-append}
use Rattle.std.specs.Prelude.{option_and_then}
use Rattle.std.specs.List.{list_any}
use Rattle.std.proofs.lemmas.Bool.{cases_Bool}
use Rattle.std.proofs.lemmas.List.{length_push}
use Rattle.std.proofs.lemmas.List.Sums.{sum_by-cons}
use Rattle.std.proofs.lemmas.List.Elements.{Contains-append_left, Contains-append_right}
use Rattle.std.proofs.lemmas.List.Folds.{list_any-append, list_any-from_Any}
use Rattle.std.proofs.lemmas.Map.Views.{Contains-from_any}
use Rattle.std.proofs.lemmas.Slice.Eq.{bytes_eq-Decides}
use Rattle.sg_model.specs.Sums.{numbers, numbers_from}
use Rattle.sg_model.specs.Games.{Game, action_count}
use Rattle.sg_frac.specs.Fractions.{Fraction}
use Rattle.sg_tree.specs.declared.fact.Fact.{Fact}
use Rattle.sg_tree.specs.declared.fix.Fix.{Fix}
use Rattle.sg_tree.specs.declared.report.Cap.{Cap}
use Rattle.sg_tree.specs.declared.worked.Worked.{Worked}
use Rattle.sg_bounds.specs.Regions.{prefix}
use Rattle.sg_bounds.specs.Trees.{Node, IsRoot, closed, parts_of, split, unproved}
use Rattle.sg_bounds.specs.Leaves.{base_bound, fact_bound, leaf_bounds, listed, part_bounds, root_bound, tree_bounds_of}
use Rattle.sg_search.specs.Searches.{Task, Search, same, worked_count, ArePlaced, IsPartOf}
use Rattle.sg_search.specs.Bounding.{caps_of, fact_of, inherited, exceeds, is_open, is_over, is_split, leaf_with, lower, own_bound, tree_at, tree_of}
use Rattle.sg_search.specs.Changes.{MaySplit}
use Rattle.sg_search.specs.GroupLaws.{OpenWherePrefixWaits}
use Rattle.sg_search.proofs.Placed.{known_in_one_place, one_if, part-no_cap, part-one}
use Rattle.sg_search.proofs.Grown.{AreSplits, ancestors, are_splits, fact-none, known-not_root, last-of, root-is, split-yes, unknown-no_fact, worked-parent}

-- ---- facts

-- a worked node has a fact
pub fact-some : (ws : List Worked) (x : Fix) → 1 ≤ count_by (λ (v : Worked). same x v.fix) ws → (f : Fact) × (fact_of ws x ≡ Some f)
fact-some [] x h = absurd (omega (arith, h))
fact-some (w ∷ ws) x h = ⊎_elim
    (λ yes. (w.fact, ap (λ (b : Bool). option_map (λ (v : Worked). v.fact) (cond b (Some w) (find (λ (v : Worked). same x v.fix) ws))) yes))
    (λ out.
    let c = sum_by-cons (λ (v : Worked). cond (same x v.fix) 1 0) w ws in
    let z : one_if (same x w.fix) ≡ 0 = ap one_if out in
    let r = fact-some ws x (omega (arith, h, c, z)) in
    (r.0, ap (λ (b : Bool). option_map (λ (v : Worked). v.fact) (cond b (Some w) (find (λ (v : Worked). same x v.fix) ws))) out ∙ r.1))
    (cases_Bool (same x w.fix))

-- a node with a fact is worked
pub fact-worked : (ws : List Worked) (x : Fix) (f : Fact) → fact_of ws x ≡ Some f → 1 ≤ count_by (λ (v : Worked). same x v.fix) ws
fact-worked ws x f e = ⊎_elim
    (λ none. absurd (none-some (sym (fact-none ws x none) ∙ e)))
    (λ more. more)
    (zero-or-more (count_by (λ (v : Worked). same x v.fix) ws))
  where
    none-some : None ≡ Some f → ⊥
    none-some h = cc

    zero-or-more : (n : ℕ) → (n ≡ 0) ⊎ (1 ≤ n)
    zero-or-more zero = inl refl
    zero-or-more (suc n) = inr (omega arith)

-- the root has none
pub root-no_fact : (p : Task) (s : Search) → ArePlaced p.game s → fact_of s.worked (prefix []) ≡ None
root-no_fact p s placed = unknown-no_fact p.game s placed (prefix []) (known-not_root p.game s)

-- ---- the bounds of the whole tree

bounds-of-root : (g : Game) (caps : List Cap) (t : Node) → IsRoot t → tree_bounds_of g caps t ≡ leaf_bounds g caps 0 (Some (root_bound g)) t
bounds-of-root g caps unproved h = absurd h
bounds-of-root g caps (closed f) h = absurd h
bounds-of-root g caps (split l base parts) h = refl

pub bounds-are : (p : Task) (s : Search) → ArePlaced p.game s → AreSplits p s → (m : ℕ) → length p.game.types ≡ suc m
    → tree_bounds_of p.game (caps_of p.game s) (tree_of p.game s) ≡ leaf_bounds p.game (caps_of p.game s) 0 (Some (root_bound p.game)) (tree_at p.game s (suc m) [])
bounds-are p s placed ok m e =
    let g = p.game in
    ap (λ (k : ℕ). tree_bounds_of g (caps_of g s) (tree_at g s k [])) e
    ∙ bounds-of-root g (caps_of g s) (tree_at g s (suc m) []) (root-is g s m ok.root (root-no_fact p s placed))

-- ---- a leaf below a split

part-in : (g : Game) (caps : List Cap) (k : ℕ) (above : Option Fraction) (t : ℕ → Node) (x : Fraction) (a b c : ℕ) → b ≤ a → a < b + c → Contains (leaf_bounds g caps k above (t a)) x
    → Contains (part_bounds g caps k above (parts_of (map t (numbers_from b c)))) x
part-in g caps k above t x a b zero low high at = absurd (omega (arith, low, high))
part-in g caps k above t x a b (suc c) low high at = ⊎_elim
    (λ same_is. Contains-append_left (leaf_bounds g caps k above (t b)) (part_bounds g caps k above (parts_of (map t (numbers_from (b + 1) c)))) x (subst (λ (i : ℕ). Contains (leaf_bounds g caps k above (t i)) x) same_is at))
    (λ later. Contains-append_right (leaf_bounds g caps k above (t b)) (part_bounds g caps k above (parts_of (map t (numbers_from (b + 1) c)))) x (part-in g caps k above t x a (b + 1) c later (omega (arith, high)) at))
    (equal-or-more a b low)
  where
    equal-or-more : (i j : ℕ) → j ≤ i → (i ≡ j) ⊎ (j + 1 ≤ i)
    equal-or-more zero zero h = inl refl
    equal-or-more zero (suc j) h = absurd (omega (arith, h))
    equal-or-more (suc i) zero h = inr (omega arith)
    equal-or-more (suc i) (suc j) h = ⊎_elim (λ e. inl (ap suc e)) (λ m. inr (omega (arith, m))) (equal-or-more i j (omega (arith, h)))

-- the bound above the parts of a split is the one that they inherit
pub base-is : (p : Task) (s : Search) → ArePlaced p.game s → AreSplits p s → (x : List ℕ) → Contains s.splits x → (above : Option Fraction) → (x ≡ [] → above ≡ Some (root_bound p.game))
    → base_bound p.game (caps_of p.game s) (length x) above (fact_of s.worked (prefix x)) ≡ inherited p.game s x
base-is p s placed ok [] at above top = ap (λ (o : Option Fact). base_bound p.game (caps_of p.game s) 0 above o) (root-no_fact p s placed) ∙ top refl
base-is p s placed ok (y ∷ ys) at above top = ⊎_elim
    (λ none. absurd (let e : length (y ∷ ys) ≡ 0 = ap length none in omega (arith, e)))
    (λ worked.
    let f = fact-some s.worked (prefix (y ∷ ys)) worked in
    ap (λ (o : Option Fact). base_bound p.game (caps_of p.game s) (length (y ∷ ys)) above o) f.1
    ∙ sym (ap (λ (o : Option Fact). option_and_then (fact_bound p.game (caps_of p.game s) (length (y ∷ ys))) o) f.1))
    (ok.worked (y ∷ ys) at)

module _ (p : Task) (s : Search) (placed : ArePlaced p.game s) (ok : AreSplits p s) (b : Fraction) (acts : List ℕ) (at : Contains s.splits acts)
    (inner : (m : ℕ) → suc m + length acts ≡ length p.game.types → Contains (part_bounds p.game (caps_of p.game s) (length acts + 1) (inherited p.game s acts)
    (parts_of (map (λ a. tree_at p.game s m (acts ++ (a ∷ []))) (numbers (action_count p.game (length acts + 1)))))) b) where
  split-above : (x : List ℕ) (a : ℕ) (rest : List ℕ) → acts ≡ x ++ (a ∷ rest) → Contains s.splits x × (1 ≤ a) × (a ≤ action_count p.game (length x + 1))
  split-above x a rest e = ⊎_elim
      (λ none. absurd (let l : length (x ++ (a ∷ rest)) ≡ 0 = ap length (sym e ∙ none) in let k = length-append x (a ∷ rest) in omega (arith, l, k)))
      (λ worked. ancestors p s placed ok (length rest) x a rest refl (subst (λ (q : List ℕ). 1 ≤ worked_count s (prefix q)) e worked))
      (ok.worked acts at)

  down : (n : ℕ) (x path : List ℕ) (above : Option Fraction) → n + length x ≡ length p.game.types → (x ≡ [] → above ≡ Some (root_bound p.game)) → acts ≡ x ++ path
      → Contains (leaf_bounds p.game (caps_of p.game s) (length x) above (tree_at p.game s n x)) b
  down zero x [] above e top is = absurd (let short = ok.short x (subst (Contains s.splits) (is ∙ append-nil x) at) in omega (arith, short, e))
  down zero x (a ∷ rest) above e top is = absurd (let short = ok.short x (split-above x a rest is).0 in omega (arith, short, e))
  down (suc m) x [] above e top is = by (is_split s.splits x) (split-yes s.splits x here)
    where
      x_is : acts ≡ x
      x_is = is ∙ append-nil x

      here : Contains s.splits x
      here = subst (Contains s.splits) x_is at

      by : (t : Bool) → t ≡ true
          → Contains (leaf_bounds p.game (caps_of p.game s) (length x) above (cond t (split (length x + 1) (fact_of s.worked (prefix x)) (parts_of (map (λ a. tree_at p.game s m (x ++ (a ∷ []))) (numbers (action_count p.game (length x + 1)))))) (leaf_with (fact_of s.worked (prefix x))))) b
      by false q = absurd (true≢false (sym q))
      by true q = subst (λ (o : Option Fraction). Contains (part_bounds p.game (caps_of p.game s) (length x + 1) o (parts_of (map (λ a. tree_at p.game s m (x ++ (a ∷ []))) (numbers (action_count p.game (length x + 1)))))) b)
          (sym (base-is p s placed ok x here above top))
          (subst (λ (y : List ℕ). Contains (part_bounds p.game (caps_of p.game s) (length y + 1) (inherited p.game s y) (parts_of (map (λ a. tree_at p.game s m (y ++ (a ∷ []))) (numbers (action_count p.game (length y + 1)))))) b) x_is
          (inner m (ap (λ (y : List ℕ). suc m + length y) x_is ∙ e)))
  down (suc m) x (a ∷ rest) above e top is =
      by (is_split s.splits x) (split-yes s.splits x up.0)
      (down m (x ++ (a ∷ [])) rest (inherited p.game s x) (let l = length_push x a in omega (arith, e, l)) (λ none. absurd (let l = length_push x a in let z : length (x ++ (a ∷ [])) ≡ 0 = ap length none in omega (arith, l, z)))
      (is ∙ sym (append_assoc x (a ∷ []) rest)))
    where
      up : Contains s.splits x × (1 ≤ a) × (a ≤ action_count p.game (length x + 1))
      up = split-above x a rest is

      by : (t : Bool) → t ≡ true → Contains (leaf_bounds p.game (caps_of p.game s) (length (x ++ (a ∷ []))) (inherited p.game s x) (tree_at p.game s m (x ++ (a ∷ [])))) b
          → Contains (leaf_bounds p.game (caps_of p.game s) (length x) above (cond t (split (length x + 1) (fact_of s.worked (prefix x)) (parts_of (map (λ c. tree_at p.game s m (x ++ (c ∷ []))) (numbers (action_count p.game (length x + 1)))))) (leaf_with (fact_of s.worked (prefix x))))) b
      by false q below = absurd (true≢false (sym q))
      by true q below =
          let l = length_push x a in
          let low = up.1 in
          let high = up.2 in
          subst (λ (o : Option Fraction). Contains (part_bounds p.game (caps_of p.game s) (length x + 1) o (parts_of (map (λ c. tree_at p.game s m (x ++ (c ∷ []))) (numbers (action_count p.game (length x + 1)))))) b)
          (sym (base-is p s placed ok x up.0 above top))
          (part-in p.game (caps_of p.game s) (length x + 1) (inherited p.game s x) (λ c. tree_at p.game s m (x ++ (c ∷ []))) b a 1 (action_count p.game (length x + 1)) low (omega (arith, high))
          (subst (λ (k : ℕ). Contains (leaf_bounds p.game (caps_of p.game s) k (inherited p.game s x) (tree_at p.game s m (x ++ (a ∷ [])))) b) l below))

  -- so a bound below a split is one of the tree's
  tree-in : (m : ℕ) → length p.game.types ≡ suc m → Contains (tree_bounds_of p.game (caps_of p.game s) (tree_of p.game s)) b
  tree-in m e = subst (λ (bs : List Fraction). Contains bs b) (sym (bounds-are p s placed ok m e)) (down (suc m) [] acts (Some (root_bound p.game)) (omega (arith, e)) (λ q. refl) refl)

  open-by : 1 ≤ length p.game.types → exceeds b (lower p s) ≡ true → is_open p s ≡ true
  open-by some over = by (length p.game.types) refl some
    where
      by : (k : ℕ) → length p.game.types ≡ k → 1 ≤ k → is_open p s ≡ true
      by zero e low = absurd (omega (arith, low))
      by (suc m) e low = let c = tree-in m e in list_any-from_Any (λ x. exceeds x (lower p s)) (tree_bounds_of p.game (caps_of p.game s) (tree_of p.game s)) (c.0, b, c.1, c.2, over)

-- an unsplit prefix is a leaf
unsplit-leaf : (g : Game) (s : Search) (n : ℕ) (x : List ℕ) → is_split s.splits x ≡ false → tree_at g s n x ≡ leaf_with (fact_of s.worked (prefix x))
unsplit-leaf g s zero x e = refl
unsplit-leaf g s (suc n) x e = ap (λ (t : Bool). cond t (split (length x + 1) (fact_of s.worked (prefix x)) (parts_of (map (λ a. tree_at g s n (x ++ (a ∷ []))) (numbers (action_count g (length x + 1)))))) (leaf_with (fact_of s.worked (prefix x)))) e

-- the bound of an unsplit part of a split is among those of the parts
leaf-part : (p : Task) (s : Search) (acts : List ℕ) (act : ℕ) (b : Fraction) → 1 ≤ act → act ≤ action_count p.game (length acts + 1) → is_split s.splits (acts ++ (act ∷ [])) ≡ false
    → base_bound p.game (caps_of p.game s) (length acts + 1) (inherited p.game s acts) (fact_of s.worked (prefix (acts ++ (act ∷ [])))) ≡ Some b
    → (m : ℕ) → Contains (part_bounds p.game (caps_of p.game s) (length acts + 1) (inherited p.game s acts) (parts_of (map (λ a. tree_at p.game s m (acts ++ (a ∷ []))) (numbers (action_count p.game (length acts + 1)))))) b
leaf-part p s acts act b low high unsplit e m =
    part-in p.game (caps_of p.game s) (length acts + 1) (inherited p.game s acts) (λ a. tree_at p.game s m (acts ++ (a ∷ []))) b act 1 (action_count p.game (length acts + 1)) low (omega (arith, high))
    (subst (λ (t : Node). Contains (leaf_bounds p.game (caps_of p.game s) (length acts + 1) (inherited p.game s acts) t) b) (sym (unsplit-leaf p.game s m (acts ++ (act ∷ [])) unsplit))
    (by (fact_of s.worked (prefix (acts ++ (act ∷ [])))) e))
  where
    by : (o : Option Fact) → base_bound p.game (caps_of p.game s) (length acts + 1) (inherited p.game s acts) o ≡ Some b
        → Contains (leaf_bounds p.game (caps_of p.game s) (length acts + 1) (inherited p.game s acts) (leaf_with o)) b
    by None q = subst (λ (x : Option Fraction). Contains (listed x) b) (sym q) (0, omega arith, refl)
    by (Some f) q = subst (λ (x : Option Fraction). Contains (listed x) b) (sym q) (0, omega arith, refl)

pub not-true : (t : Bool) → (t ≡ true → ⊥) → t ≡ false
not-true true h = absurd (h refl)
not-true false h = refl

pub split-out : (splits : List (List ℕ)) (acts : List ℕ) → is_split splits acts ≡ true → Contains splits acts
split-out splits acts e = Contains-from_any (λ x y q. (bytes_eq-Decides x y).0 q) acts splits e

-- where a waiting part is above the incumbent, the upper bound is
pub open-part : (p : Task) (s : Search) → ArePlaced p.game s → AreSplits p s → 1 ≤ length p.game.types → (acts : List ℕ) (node : Fix) → Contains s.splits acts → IsPartOf p.game acts node → worked_count s node ≡ 0
    → is_over p s (inherited p.game s acts) ≡ true → is_open p s ≡ true
open-part p s placed ok some acts node at of unworked over =
    by (inherited p.game s acts) refl over
  where
    here : List ℕ
    here = acts ++ (of.act ∷ [])

    none : worked_count s (prefix here) ≡ 0
    none = ap (worked_count s) (sym of.node_is) ∙ unworked

    unsplit : is_split s.splits here ≡ false
    unsplit = not-true (is_split s.splits here) (λ yes. ⊎_elim
        (λ empty. let l = length_push acts of.act in let z : length here ≡ 0 = ap length empty in omega (arith, l, z))
        (λ worked. omega (arith, none, worked))
        (ok.worked here (split-out s.splits here yes)))

    by : (o : Option Fraction) → inherited p.game s acts ≡ o → is_over p s o ≡ true → is_open p s ≡ true
    by None e h = absurd (true≢false (sym h))
    by (Some b) e h =
        open-by p s placed ok b acts at
        (λ m q. leaf-part p s acts of.act b of.from_one of.in_range unsplit (ap (λ (o : Option Fact). base_bound p.game (caps_of p.game s) (length acts + 1) (inherited p.game s acts) o) (fact-none s.worked (prefix here) none) ∙ e) m)
        some h

-- where a prefix may be split, the upper bound is above the incumbent
pub open-split : (p : Task) (s : Search) → ArePlaced p.game s → AreSplits p s → 1 ≤ length p.game.types → (acts : List ℕ) → MaySplit p s acts → is_open p s ≡ true
open-split p s placed ok some [] may = absurd (may.some refl)
open-split p s placed ok some (y ∷ ys) may =
    at r.0 r.1 r.2
  where
    r : (zs : List ℕ) × (c : ℕ) × (y ∷ ys ≡ zs ++ (c ∷ [])) × (length zs ≡ length ys)
    r = last-of y ys

    at : (x : List ℕ) (c : ℕ) → y ∷ ys ≡ x ++ (c ∷ []) → is_open p s ≡ true
    at x c e = by (own_bound p.game s (y ∷ ys)) refl may.over
      where
        worked : 1 ≤ worked_count s (prefix (x ++ (c ∷ [])))
        worked = subst (λ (q : List ℕ). 1 ≤ worked_count s (prefix q)) e may.worked

        up : Contains s.splits x × (1 ≤ c) × (c ≤ action_count p.game (length x + 1))
        up = worked-parent p s placed x c worked

        by : (o : Option Fraction) → own_bound p.game s (y ∷ ys) ≡ o → is_over p s o ≡ true → is_open p s ≡ true
        by None q over = absurd (true≢false (sym over))
        by (Some b) q over =
            let f = fact-some s.worked (prefix (x ++ (c ∷ []))) worked in
            let l = length_push x c in
            let own : own_bound p.game s (x ++ (c ∷ [])) ≡ Some b = subst (λ (z : List ℕ). own_bound p.game s z ≡ Some b) e q in
            let bound : fact_bound p.game (caps_of p.game s) (length x + 1) f.0 ≡ Some b =
            subst (λ (k : ℕ). fact_bound p.game (caps_of p.game s) k f.0 ≡ Some b) l (sym (ap (λ (o : Option Fact). option_and_then (fact_bound p.game (caps_of p.game s) (length (x ++ (c ∷ [])))) o) f.1) ∙ own) in
            open-by p s placed ok b x up.0
            (λ m k. leaf-part p s x c b up.1 up.2 (subst (λ (z : List ℕ). is_split s.splits z ≡ false) e may.unsplit)
            (ap (λ (o : Option Fact). base_bound p.game (caps_of p.game s) (length x + 1) (inherited p.game s x) o) f.1 ∙ bound) m)
            some over

-- ---- while the tree has one level

-- the bound of a part of the root: its own, or where it has none the root's
abbrev pub part_bound : Game → Search → ℕ → Option Fraction
part_bound g s a = base_bound g (caps_of g s) 1 (Some (root_bound g)) (fact_of s.worked (prefix (a ∷ [])))

or-false : (b : Bool) → (b || false) ≡ b
or-false true = refl
or-false false = refl

any-listed : (p : Task) (s : Search) (o : Option Fraction) → list_any (λ b. exceeds b (lower p s)) (listed o) ≡ is_over p s o
any-listed p s None = refl
any-listed p s (Some b) = or-false (exceeds b (lower p s))

any-leaf : (p : Task) (s : Search) (o : Option Fact) → list_any (λ b. exceeds b (lower p s)) (leaf_bounds p.game (caps_of p.game s) 1 (Some (root_bound p.game)) (leaf_with o))
    ≡ is_over p s (base_bound p.game (caps_of p.game s) 1 (Some (root_bound p.game)) o)
any-leaf p s None = any-listed p s (Some (root_bound p.game))
any-leaf p s (Some f) = any-listed p s (fact_bound p.game (caps_of p.game s) 1 f)

any-parts : (p : Task) (s : Search) (t : ℕ → Node) → ((a : ℕ) → t a ≡ leaf_with (fact_of s.worked (prefix (a ∷ [])))) → (b k : ℕ)
    → list_any (λ x. exceeds x (lower p s)) (part_bounds p.game (caps_of p.game s) 1 (Some (root_bound p.game)) (parts_of (map t (numbers_from b k)))) ≡ list_any (λ a. is_over p s (part_bound p.game s a)) (numbers_from b k)
any-parts p s t each b zero = refl
any-parts p s t each b (suc k) =
    let q = λ (x : Fraction). exceeds x (lower p s) in
    let here : list_any q (leaf_bounds p.game (caps_of p.game s) 1 (Some (root_bound p.game)) (t b)) ≡ is_over p s (part_bound p.game s b) =
    ap (λ (x : Node). list_any q (leaf_bounds p.game (caps_of p.game s) 1 (Some (root_bound p.game)) x)) (each b) ∙ any-leaf p s (fact_of s.worked (prefix (b ∷ []))) in
    list_any-append q (leaf_bounds p.game (caps_of p.game s) 1 (Some (root_bound p.game)) (t b)) (part_bounds p.game (caps_of p.game s) 1 (Some (root_bound p.game)) (parts_of (map t (numbers_from (b + 1) k))))
    ∙ ap (λ (x : Bool). x || list_any q (part_bounds p.game (caps_of p.game s) 1 (Some (root_bound p.game)) (parts_of (map t (numbers_from (b + 1) k))))) here
    ∙ ap (λ (x : Bool). is_over p s (part_bound p.game s b) || x) (any-parts p s t each (b + 1) k)

-- then the upper bound is above the incumbent where the bound of a part is
pub open-one : (p : Task) (s : Search) → ArePlaced p.game s → AreSplits p s → 1 ≤ length p.game.types → s.splits ≡ [] ∷ []
    → is_open p s ≡ list_any (λ a. is_over p s (part_bound p.game s a)) (numbers (action_count p.game 1))
open-one p s placed ok some one = by (length p.game.types) refl some
  where
    alone_split : (a : ℕ) → is_split s.splits (a ∷ []) ≡ false
    alone_split a = ap (λ (l : List (List ℕ)). is_split l (a ∷ [])) one

    by : (k : ℕ) → length p.game.types ≡ k → 1 ≤ k → is_open p s ≡ list_any (λ a. is_over p s (part_bound p.game s a)) (numbers (action_count p.game 1))
    by zero e low = absurd (omega (arith, low))
    by (suc m) e low =
        let g = p.game in
        let q = λ (x : Fraction). exceeds x (lower p s) in
        let root : is_split s.splits [] ≡ true = split-yes s.splits [] ok.root in
        ap (λ (bs : List Fraction). list_any q bs) (bounds-are p s placed ok m e)
        ∙ ap (λ (t : Bool). list_any q (leaf_bounds g (caps_of g s) 0 (Some (root_bound g)) (cond t (split 1 (fact_of s.worked (prefix [])) (parts_of (map (λ a. tree_at g s m (a ∷ [])) (numbers (action_count g 1))))) (leaf_with (fact_of s.worked (prefix [])))))) root
        ∙ ap (λ (o : Option Fact). list_any q (part_bounds g (caps_of g s) 1 (base_bound g (caps_of g s) 0 (Some (root_bound g)) o) (parts_of (map (λ a. tree_at g s m (a ∷ [])) (numbers (action_count g 1)))))) (root-no_fact p s placed)
        ∙ any-parts p s (λ a. tree_at g s m (a ∷ [])) (λ a. unsplit-leaf g s m (a ∷ []) (alone_split a)) 1 (action_count g 1)

pub open_where_prefix_waits : OpenWherePrefixWaits
open_where_prefix_waits p peopled cs t run = (
  λ acts node of may. ⊎_elim
      (λ below. ⊎_elim
      (λ worth.
      let one = part-one p.game below.0 worth.0 node below.2 worth.1 in
      let fresh = may.waits.1 in
      open-part p t placed ok peopled.types below.0 node below.1 below.2 (omega (arith, fresh)) (subst (λ (x : List ℕ). is_over p t (inherited p.game t x) ≡ true) (sym one) worth.2))
      (λ lone. absurd (part-no_cap p.game acts node of lone))
      may.worth)
      (λ lone. absurd (part-no_cap p.game acts node of lone))
      may.waits.0,
  λ acts may. open-split p t placed ok peopled.types acts may,
)
  where
    placed : ArePlaced p.game t
    placed = known_in_one_place p peopled cs t run

    ok : AreSplits p t
    ok = are_splits p peopled cs t run
