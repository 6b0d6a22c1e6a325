-- The tree of a search.
use Rattle.std.proofs.Common.{◌≡◌, ◌⊎◌, ℕ, zero, suc, ◌+◌, ◌≤◌, ◌<◌, Bool, true, false, cond, List, [], ◌∷◌, ◌++◌, map, length, count_by, bytes_eq, sym, ◌∙◌, ap, subst, refl, arith, Option, Some, None, inl, inr, ⊎_elim, true≢false, Contains, All, find, option_map, append-nil, append_assoc, length-append}
use Rattle.std.proofs.lemmas.List.{length-map, length_push, same_from_push}
use Rattle.std.proofs.lemmas.Bool.{cases_Bool}
use Rattle.std.proofs.lemmas.List.Sums.{sum_by-cons}
use Rattle.std.proofs.lemmas.List.Elements.{All-head, All-tail, Contains-append_left, Contains-push, Contains-push_cases}
use Rattle.std.proofs.lemmas.List.Folds.{list_any-from_Any}
use Rattle.std.proofs.lemmas.Slice.Eq.{bytes_eq-Decides}
use Rattle.sg_model.specs.Sums.{numbers, numbers_from}
use Rattle.sg_model.specs.Games.{Game, action_count}
use Rattle.sg_model.specs.Payoffs.{IsPeopled}
use Rattle.sg_tree.specs.declared.fact.Fact.{Fact}
use Rattle.sg_tree.specs.declared.fix.Fix.{Fix}
use Rattle.sg_tree.specs.declared.worked.Worked.{Worked}
use Rattle.sg_bounds.specs.Regions.{prefix}
use Rattle.sg_bounds.specs.Facts.{HoldsFor}
use Rattle.sg_bounds.specs.Trees.{Node, split, parts_of, IsTreeOf, ArePartsOf, IsBase, IsRoot}
use Rattle.sg_bounds.proofs.Nodes.{part_count-parts_of}
use Rattle.sg_search.specs.Searches.{Task, Search, first_search, same, worked_count, IsKnown, ArePlaced}
use Rattle.sg_search.specs.Bounding.{fact_of, is_split, leaf_with, tree_at}
use Rattle.sg_search.specs.Changes.{Change, takes, branches, moves, ends, works, sticks, Goes, Runs, with_lane, begun}
use Rattle.sg_search.specs.TreeLaws.{proved, proved_in, AreFacts, ProvedAreWorked, TreeHolds}
use Rattle.sg_search.proofs.Placed.{one_if, same-is, runs-keep, worked-more, known_in_one_place}

-- ---- the facts of worked nodes

count-cons : (x : Fix) (w : Worked) (ws : List Worked) → count_by (λ (v : Worked). same x v.fix) (w ∷ ws) ≡ one_if (same x w.fix) + count_by (λ (v : Worked). same x v.fix) ws
count-cons x w ws = sum_by-cons (λ (v : Worked). cond (same x v.fix) 1 0) w ws

-- the fact of a node is one of a worked node that is the same
pub fact-holds : (g : Game) (ws : List Worked) → All (λ (w : Worked). HoldsFor g w.fix w.fact) ws → (x : Fix) (f : Fact) → fact_of ws x ≡ Some f → HoldsFor g x f
fact-holds g [] all x f e = absurd (none-some e)
  where
    none-some : {X : Type 0} {a : X} → None ≡ Some a → ⊥
    none-some h = cc
fact-holds g (w ∷ ws) all x f e = ⊎_elim
    (λ yes.
    let one : fact_of (w ∷ ws) x ≡ Some w.fact = ap (λ (b : Bool). option_map (λ (v : Worked). v.fact) (cond b (Some w) (find (λ (v : Worked). same x v.fix) ws))) yes in
    let h : w.fact ≡ f = some-one (sym one ∙ e) in
    subst (HoldsFor g x) h (subst (λ (y : Fix). HoldsFor g y w.fact) (sym (same-is x w.fix yes)) (All-head (λ (v : Worked). HoldsFor g v.fix v.fact) w ws all)))
    (λ no.
    let one : fact_of (w ∷ ws) x ≡ fact_of ws x = ap (λ (b : Bool). option_map (λ (v : Worked). v.fact) (cond b (Some w) (find (λ (v : Worked). same x v.fix) ws))) no in
    fact-holds g ws (All-tail (λ (v : Worked). HoldsFor g v.fix v.fact) w ws all) x f (sym one ∙ e))
    (cases_Bool (same x w.fix))
  where
    some-one : {X : Type 0} {a b : X} → Some a ≡ Some b → a ≡ b
    some-one h = cc

-- a node that was never worked has no fact
pub fact-none : (ws : List Worked) (x : Fix) → count_by (λ (v : Worked). same x v.fix) ws ≡ 0 → fact_of ws x ≡ None
fact-none [] x e = refl
fact-none (w ∷ ws) x e = ⊎_elim
    (λ yes. let c = count-cons x w ws in let y : one_if (same x w.fix) ≡ 1 = ap one_if yes in absurd (omega (arith, c, y, e)))
    (λ no. let c = count-cons x w ws in
    let one : fact_of (w ∷ ws) x ≡ fact_of ws x = ap (λ (b : Bool). option_map (λ (v : Worked). v.fact) (cond b (Some w) (find (λ (v : Worked). same x v.fix) ws))) no in
    one ∙ fact-none ws x (omega (arith, c, e)))
    (cases_Bool (same x w.fix))

-- ---- the shape of the splits: the root is split, and each other split prefix is worked and leaves a type open

pub record AreSplits (p : Task) (s : Search) : Type 0 where
  pub root : Contains s.splits []
  pub short : (acts : List ℕ) → Contains s.splits acts → length acts < length p.game.types
  pub worked : (acts : List ℕ) → Contains s.splits acts → (acts ≡ []) ⊎ (1 ≤ worked_count s (prefix acts))

splits-kept : (p : Task) (s t : Search) → t.splits ≡ s.splits → ((x : Fix) → worked_count s x ≤ worked_count t x) → AreSplits p s → AreSplits p t
splits-kept p s t e more ok = record {
  root = subst (λ (l : List (List ℕ)). Contains l []) (sym e) ok.root;
  short = λ acts h. ok.short acts (subst (λ (l : List (List ℕ)). Contains l acts) e h);
  worked = λ acts h. ⊎_elim (λ r. inl r) (λ w. let m = more (prefix acts) in inr (omega (arith, w, m))) (ok.worked acts (subst (λ (l : List (List ℕ)). Contains l acts) e h));
}

pub step-splits : (p : Task) (s : Search) → AreSplits p s → (c : Change) (t : Search) → Goes p s c t → AreSplits p t
step-splits p s ok (takes lane node) t goes = subst (AreSplits p) (sym goes.2) (splits-kept p s (with_lane s lane (begun node)) refl (λ x. omega arith) ok)
step-splits p s ok (branches lane acts) t goes =
    let may = goes.3 in
    subst (AreSplits p) (sym goes.4) (record {
      root = Contains-append_left s.splits (acts ∷ []) [] ok.root;
      short = λ as1 h. ⊎_elim (λ old. ok.short as1 old) (λ new. subst (λ (x : List ℕ). length x < length p.game.types) new may.short) (Contains-push_cases s.splits acts as1 h);
      worked = λ as1 h. ⊎_elim (λ old. ok.worked as1 old) (λ new. inr (subst (λ (x : List ℕ). 1 ≤ worked_count s (prefix x)) new may.worked)) (Contains-push_cases s.splits acts as1 h);
    })
step-splits p s ok (moves lane) t goes = subst (AreSplits p) (sym goes.2) ok
step-splits p s ok (ends lane) t goes = subst (AreSplits p) (sym goes.2) (splits-kept p s (with_lane s lane (Some (record { node = goes.0; ended = true }))) refl (λ x. omega arith) ok)
step-splits p s ok (works lane fact point) t goes =
    let w : Worked = record { fix = goes.0; fact = fact; point = point } in
    let u : Search = record (with_lane s lane None) { worked = s.worked ++ (w ∷ []) } in
    subst (AreSplits p) (sym goes.2) (splits-kept p s u refl (λ x. let f = worked-more s w x in omega (arith, f)) ok)
step-splits p s ok (sticks lane cause) t goes =
    let u : Search = record (with_lane s lane None) { stuck = s.stuck ++ (record { node = goes.0; cause = cause } ∷ []) } in
    subst (AreSplits p) (sym goes.2) (splits-kept p s u refl (λ x. omega arith) ok)

pub start-splits : (p : Task) → IsPeopled p.game → AreSplits p (first_search p)
start-splits p peopled = let types = peopled.types in record {
  root = Contains-push [] [];
  short = λ acts h. subst (λ (x : List ℕ). length x < length p.game.types) (root-only acts h) (omega (arith, types));
  worked = λ acts h. inl (sym (root-only acts h));
}
  where
    root-only : (acts : List ℕ) → Contains ([] ∷ []) acts → [] ≡ acts
    root-only acts h = ⊎_elim (λ old. absurd (let lt = old.1 in omega (arith, lt))) (λ new. new) (Contains-push_cases [] [] acts h)

pub are_splits : (p : Task) → IsPeopled p.game → (cs : List Change) (t : Search) → Runs p (first_search p) cs t → AreSplits p t
are_splits p peopled cs t run = runs-keep p (AreSplits p) (step-splits p) cs (first_search p) t (start-splits p peopled) run

-- ---- the tree is a split tree

leaf-is : (g : Game) (acts : List ℕ) (o : Option Fact) → ((f : Fact) → o ≡ Some f → HoldsFor g (prefix acts) f) → IsTreeOf g (HoldsFor g) acts (leaf_with o)
leaf-is g acts None h = tt
leaf-is g acts (Some f) h = h f refl

base-is : (g : Game) (acts : List ℕ) (o : Option Fact) → ((f : Fact) → o ≡ Some f → HoldsFor g (prefix acts) f) → IsBase (HoldsFor g) (prefix acts) o
base-is g acts None h = tt
base-is g acts (Some f) h = h f refl

parts-are : (g : Game) (acts : List ℕ) (t : ℕ → Node) → ((a : ℕ) → IsTreeOf g (HoldsFor g) (acts ++ (a ∷ [])) (t a)) → (a k : ℕ) → ArePartsOf g (HoldsFor g) acts a (parts_of (map t (numbers_from a k)))
parts-are g acts t each a zero = tt
parts-are g acts t each a (suc k) = (each a, parts-are g acts t each (a + 1) k)

length-numbers_from : (a k : ℕ) → length (numbers_from a k) ≡ k
length-numbers_from a zero = refl
length-numbers_from a (suc k) = let r = length-numbers_from (a + 1) k in omega (arith, r)

tree-is : (g : Game) (s : Search) → AreFacts g s → (n : ℕ) (acts : List ℕ) → n + length acts ≡ length g.types → IsTreeOf g (HoldsFor g) acts (tree_at g s n acts)
tree-is g s facts zero acts e = leaf-is g acts (fact_of s.worked (prefix acts)) (fact-holds g s.worked facts (prefix acts))
tree-is g s facts (suc n) acts e = by (is_split s.splits acts) (λ a. tree-is g s facts n (acts ++ (a ∷ [])) (let l = length_push acts a in omega (arith, e, l)))
  where
    by : (b : Bool) → ((a : ℕ) → IsTreeOf g (HoldsFor g) (acts ++ (a ∷ [])) (tree_at g s n (acts ++ (a ∷ []))))
        → IsTreeOf g (HoldsFor g) acts (cond b (split (length acts + 1) (fact_of s.worked (prefix acts)) (parts_of (map (λ a. tree_at g s n (acts ++ (a ∷ []))) (numbers (action_count g (length acts + 1)))))) (leaf_with (fact_of s.worked (prefix acts))))
    by true each = (
      refl,
      omega (arith, e),
      base-is g acts (fact_of s.worked (prefix acts)) (fact-holds g s.worked facts (prefix acts)),
      part_count-parts_of (map (λ a. tree_at g s n (acts ++ (a ∷ []))) (numbers (action_count g (length acts + 1)))) ∙ length-map (numbers (action_count g (length acts + 1))) (λ a. tree_at g s n (acts ++ (a ∷ []))) ∙ length-numbers_from 1 (action_count g (length acts + 1)),
      parts-are g acts (λ a. tree_at g s n (acts ++ (a ∷ []))) each 1 (action_count g (length acts + 1)),
    )
    by false each = leaf-is g acts (fact_of s.worked (prefix acts)) (fact-holds g s.worked facts (prefix acts))

-- ---- the root

pub split-yes : (splits : List (List ℕ)) (acts : List ℕ) → Contains splits acts → is_split splits acts ≡ true
split-yes splits acts at = list_any-from_Any (bytes_eq acts) splits (at.0, acts, at.1, at.2, (bytes_eq-Decides acts acts).1 refl)

pub known-not_root : (g : Game) (s : Search) → IsKnown g s (prefix []) → ⊥
known-not_root g s (inl below) =
    let e : [] ≡ below.0 ++ (below.2.act ∷ []) = ap (λ (f : Fix). f.acts) below.2.node_is in
    let l = length_push below.0 below.2.act in
    let m : 0 ≡ length (below.0 ++ (below.2.act ∷ [])) = ap length e in
    omega (arith, l, m)
known-not_root g s (inr lone) =
    let e : 0 ≡ 1 = ap (λ (f : Fix). length f.acts) lone.node_is in omega (arith, e)

pub zero-or-more : (n : ℕ) → (n ≡ 0) ⊎ (1 ≤ n)
zero-or-more zero = inl refl
zero-or-more (suc n) = inr (omega arith)

pub unknown-no_fact : (g : Game) (s : Search) → ArePlaced g s → (x : Fix) → (IsKnown g s x → ⊥) → fact_of s.worked x ≡ None
unknown-no_fact g s placed x unknown = ⊎_elim
    (λ e. fact-none s.worked x e)
    (λ more. absurd (unknown (placed.known x (omega (arith, more)))))
    (zero-or-more (worked_count s x))

pub root-is : (g : Game) (s : Search) (n : ℕ) → Contains s.splits [] → fact_of s.worked (prefix []) ≡ None → IsRoot (tree_at g s (suc n) [])
root-is g s n at none = rw (split-yes s.splits [] at, none) tt

pub tree_holds : TreeHolds
tree_holds p peopled cs t run facts = record {
  root = by (length p.game.types) peopled.types;
  tree_of = tree-is p.game t facts (length p.game.types) [] (omega arith);
}
  where
    by : (n : ℕ) → 1 ≤ n → IsRoot (tree_at p.game t n [])
    by zero low = absurd (omega (arith, low))
    by (suc n) low = root-is p.game t n (are_splits p peopled cs t run).root (unknown-no_fact p.game t (known_in_one_place p peopled cs t run) (prefix []) (known-not_root p.game t))

-- ---- the proved prefixes

-- a worked prefix is a part of a split
pub worked-parent : (p : Task) (s : Search) → ArePlaced p.game s → (x : List ℕ) (c : ℕ) → 1 ≤ worked_count s (prefix (x ++ (c ∷ [])))
    → Contains s.splits x × (1 ≤ c) × (c ≤ action_count p.game (length x + 1))
worked-parent p s placed x c h = by (placed.known (prefix (x ++ (c ∷ []))) (omega (arith, h)))
  where
    by : IsKnown p.game s (prefix (x ++ (c ∷ []))) → Contains s.splits x × (1 ≤ c) × (c ≤ action_count p.game (length x + 1))
    by (inl below) =
        let of = below.2 in
        let e = same_from_push x below.0 c of.act (ap (λ (f : Fix). f.acts) of.node_is) in
        (subst (Contains s.splits) (sym e.0) below.1, subst (λ (n : ℕ). 1 ≤ n) (sym e.1) of.from_one, subst (λ (y : List ℕ). c ≤ action_count p.game (length y + 1)) (sym e.0) (subst (λ (n : ℕ). n ≤ action_count p.game (length below.0 + 1)) (sym e.1) of.in_range))
    by (inr lone) =
        let e : 1 ≡ lone.l = ap (λ (f : Fix). f.first) lone.node_is in
        let two = lone.from_two in
        absurd (omega (arith, e, two))

pub last-of : (y : ℕ) (ys : List ℕ) → (zs : List ℕ) × (c : ℕ) × (y ∷ ys ≡ zs ++ (c ∷ [])) × (length zs ≡ length ys)
last-of y [] = ([], y, refl, refl)
last-of y (z ∷ zs) = let r = last-of z zs in let l = r.3 in (y ∷ r.0, r.1, ap (λ (q : List ℕ). y ∷ q) r.2, omega (arith, l))

-- so all prefixes of a worked prefix are split
pub ancestors : (p : Task) (s : Search) → ArePlaced p.game s → AreSplits p s → (n : ℕ) (x : List ℕ) (a : ℕ) (ys : List ℕ) → length ys ≡ n → 1 ≤ worked_count s (prefix (x ++ (a ∷ ys)))
    → Contains s.splits x × (1 ≤ a) × (a ≤ action_count p.game (length x + 1))
ancestors p s placed ok n x a [] e h = worked-parent p s placed x a h
ancestors p s placed ok zero x a (y ∷ ys) e h = absurd (omega (arith, e))
ancestors p s placed ok (suc n) x a (y ∷ ys) e h =
    let r = last-of y ys in
    let l = r.3 in
    let q : x ++ (a ∷ y ∷ ys) ≡ (x ++ (a ∷ r.0)) ++ (r.1 ∷ []) = ap (λ (z : List ℕ). x ++ (a ∷ z)) r.2 ∙ sym (append_assoc x (a ∷ r.0) (r.1 ∷ [])) in
    let up = worked-parent p s placed (x ++ (a ∷ r.0)) r.1 (subst (λ (z : List ℕ). 1 ≤ worked_count s (prefix z)) q h) in
    ancestors p s placed ok n x a r.0 (omega (arith, l, e)) (⊎_elim
    (λ none. let m : length (x ++ (a ∷ r.0)) ≡ 0 = ap length none in let k = length-append x (a ∷ r.0) in absurd (omega (arith, m, k)))
    (λ w. w)
    (ok.worked (x ++ (a ∷ r.0)) up.0))

-- a prefix has no fact where one above it isn't split, or its action there is none of the type
no-fact : (p : Task) (s : Search) → ArePlaced p.game s → AreSplits p s → (x : List ℕ) (a : ℕ) (ys : List ℕ)
    → (Contains s.splits x → 1 ≤ a → a ≤ action_count p.game (length x + 1) → ⊥) → fact_of s.worked (prefix (x ++ (a ∷ ys))) ≡ None
no-fact p s placed ok x a ys out = ⊎_elim
    (λ e. fact-none s.worked (prefix (x ++ (a ∷ ys))) e)
    (λ more. let up = ancestors p s placed ok (length ys) x a ys refl more in absurd (out up.0 up.1 up.2))
    (zero-or-more (worked_count s (prefix (x ++ (a ∷ ys)))))

proved-leaf : (o : Option Fact) → proved (leaf_with o) [] ≡ o
proved-leaf None = refl
proved-leaf (Some f) = refl

proved-past_leaf : (o : Option Fact) (a : ℕ) (as1 : List ℕ) → proved (leaf_with o) (a ∷ as1) ≡ None
proved-past_leaf None a as1 = refl
proved-past_leaf (Some f) a as1 = refl

proved-part : (t : ℕ → Node) (as1 : List ℕ) (b k i : ℕ) → i < k → proved_in (parts_of (map t (numbers_from b k))) (suc i) as1 ≡ proved (t (b + i)) as1
proved-part t as1 b zero i lt = absurd (omega (arith, lt))
proved-part t as1 b (suc k) zero lt = let e : b + 0 ≡ b = omega arith in rw e refl
proved-part t as1 b (suc k) (suc i) lt = let e : b + suc i ≡ b + 1 + i = omega arith in rw e (proved-part t as1 (b + 1) k i (omega (arith, lt)))

proved-no_part : (t : ℕ → Node) (as1 : List ℕ) (b k i : ℕ) → k ≤ i → proved_in (parts_of (map t (numbers_from b k))) (suc i) as1 ≡ None
proved-no_part t as1 b zero i le = refl
proved-no_part t as1 b (suc k) zero le = absurd (omega (arith, le))
proved-no_part t as1 b (suc k) (suc i) le = proved-no_part t as1 (b + 1) k i (omega (arith, le))

proved-zeroth : (t : ℕ → Node) (as1 : List ℕ) (b k : ℕ) → proved_in (parts_of (map t (numbers_from b k))) 0 as1 ≡ None
proved-zeroth t as1 b zero = refl
proved-zeroth t as1 b (suc k) = refl

below-or-past : (i k : ℕ) → (i < k) ⊎ (k ≤ i)
below-or-past i zero = inr (omega arith)
below-or-past zero (suc k) = inl (omega arith)
below-or-past (suc i) (suc k) = ⊎_elim (λ h. inl (omega (arith, h))) (λ h. inr (omega (arith, h))) (below-or-past i k)

proved-split : (p : Task) (s : Search) → ArePlaced p.game s → AreSplits p s → (t : ℕ → Node) (x : List ℕ) (a : ℕ) (as1 : List ℕ)
    → ((b : ℕ) → proved (t b) as1 ≡ fact_of s.worked (prefix ((x ++ (b ∷ [])) ++ as1)))
    → proved_in (parts_of (map t (numbers (action_count p.game (length x + 1))))) a as1 ≡ fact_of s.worked (prefix (x ++ (a ∷ as1)))
proved-split p s placed ok t x zero as1 each =
    proved-zeroth t as1 1 (action_count p.game (length x + 1)) ∙ sym (no-fact p s placed ok x 0 as1 (λ at low high. omega (arith, low)))
proved-split p s placed ok t x (suc i) as1 each = ⊎_elim
    (λ lt.
    let e : 1 + i ≡ suc i = omega arith in
    proved-part t as1 1 (action_count p.game (length x + 1)) i lt ∙ ap (λ (n : ℕ). proved (t n) as1) e ∙ each (suc i)
    ∙ ap (λ (q : List ℕ). fact_of s.worked (prefix q)) (append_assoc x (suc i ∷ []) as1))
    (λ le. proved-no_part t as1 1 (action_count p.game (length x + 1)) i le ∙ sym (no-fact p s placed ok x (suc i) as1 (λ at low high. omega (arith, high, le))))
    (below-or-past i (action_count p.game (length x + 1)))

proved-at : (p : Task) (s : Search) → ArePlaced p.game s → AreSplits p s → (n : ℕ) (x path : List ℕ) → n + length x ≡ length p.game.types
    → proved (tree_at p.game s n x) path ≡ fact_of s.worked (prefix (x ++ path))
proved-at p s placed ok zero x [] e = proved-leaf (fact_of s.worked (prefix x)) ∙ ap (λ (q : List ℕ). fact_of s.worked (prefix q)) (sym (append-nil x))
proved-at p s placed ok zero x (a ∷ as1) e =
    proved-past_leaf (fact_of s.worked (prefix x)) a as1 ∙ sym (no-fact p s placed ok x a as1 (λ at low high. let short = ok.short x at in omega (arith, short, e)))
proved-at p s placed ok (suc n) x [] e = by (is_split s.splits x) ∙ ap (λ (q : List ℕ). fact_of s.worked (prefix q)) (sym (append-nil x))
  where
    by : (b : Bool) → proved (cond b (split (length x + 1) (fact_of s.worked (prefix x)) (parts_of (map (λ a. tree_at p.game s n (x ++ (a ∷ []))) (numbers (action_count p.game (length x + 1)))))) (leaf_with (fact_of s.worked (prefix x)))) []
        ≡ fact_of s.worked (prefix x)
    by true = refl
    by false = proved-leaf (fact_of s.worked (prefix x))
proved-at p s placed ok (suc n) x (a ∷ as1) e =
    by (is_split s.splits x) refl (λ b. proved-at p s placed ok n (x ++ (b ∷ [])) as1 (let l = length_push x b in omega (arith, e, l)))
  where
    by : (b : Bool) → is_split s.splits x ≡ b → ((c : ℕ) → proved (tree_at p.game s n (x ++ (c ∷ []))) as1 ≡ fact_of s.worked (prefix ((x ++ (c ∷ [])) ++ as1)))
        → proved (cond b (split (length x + 1) (fact_of s.worked (prefix x)) (parts_of (map (λ c. tree_at p.game s n (x ++ (c ∷ []))) (numbers (action_count p.game (length x + 1)))))) (leaf_with (fact_of s.worked (prefix x)))) (a ∷ as1)
        ≡ fact_of s.worked (prefix (x ++ (a ∷ as1)))
    by true q each = proved-split p s placed ok (λ c. tree_at p.game s n (x ++ (c ∷ []))) x a as1 each
    by false q each = proved-past_leaf (fact_of s.worked (prefix x)) a as1 ∙ sym (no-fact p s placed ok x a as1 (λ at low high. true≢false (sym (split-yes s.splits x at) ∙ q)))

pub proved_are_worked : ProvedAreWorked
proved_are_worked p peopled cs t run acts =
    proved-at p t (known_in_one_place p peopled cs t run) (are_splits p peopled cs t run) (length p.game.types) [] acts (omega arith)
