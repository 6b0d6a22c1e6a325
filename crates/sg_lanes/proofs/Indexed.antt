-- Worked and split prefixes found by their lists, and the tree that is formed of them.
use Rattle.std.proofs.Common.{◌≡◌, ◌⊎◌, ℕ, zero, suc, ◌+◌, ◌-◌, ◌≤◌, ◌<◌, Bool, true, false, true≢false, cond, nat_eq, ◌&&◌, ◌||◌, List, [], ◌∷◌, ◌++◌, map, length, get_or, take, drop, sym, ◌∙◌, ap, subst, refl, arith, Option, Some, None, ⊎_elim, option_map, find}
use Rattle.std.proofs.Math.Seq.{drop-cons, take-suc}
use Rattle.std.specs.Ordering.{is_eq, nat_cmp}
use Rattle.std.specs.Cmp.Lexicographic.{slice_cmp}
use Rattle.std.specs.Prelude.{bytes_eq}
use Rattle.std.specs.List.{list_any}
use Rattle.std.specs.BTreeMap.{BTreeMap, get_by}
use Rattle.std.specs.BTreeMap as tree
use Rattle.std.specs.BTreeSet.{BTreeSet, contains_by}
use Rattle.std.specs.BTreeSet as sorted
use denote.Ref.{Bor}
use Rattle.std.proofs.lemmas.Bool.{cases_Bool, eqb-true, eq-eqb}
use Rattle.std.proofs.lemmas.List.{map-append}
use Rattle.std.proofs.lemmas.List.Folds.{list_any-append}
use Rattle.std.proofs.lemmas.Map.Text.{btree_map_updates_str, is_eq-slice_cmp}
use Rattle.std.proofs.lemmas.Slice.Eq.{bytes_eq-Decides}
use Rattle.sg_model.specs.Sums.{numbers, numbers_from}
use Rattle.sg_model.specs.Games.{Game, action_count}
use Rattle.sg_tree.specs.declared.fact.Fact.{Fact}
use Rattle.sg_tree.specs.declared.tree.Tree.{Tree}
use Rattle.sg_tree.specs.declared.tree.Tree.TheVariants.{Split}
use Rattle.sg_tree.specs.declared.worked.Worked.{Worked}
use Rattle.sg_bounds.specs.Regions.{prefix}
use Rattle.sg_bounds.specs.Trees.{Node, node_of, parts_of, split}
use Rattle.sg_bounds.proofs.Nodes.{node_of-Split}
use Rattle.sg_search.specs.Searches.{Search, same}
use Rattle.sg_search.specs.Bounding.{fact_of, is_split, leaf_with, tree_at}
use Rattle.sg_lanes.specs.Ends.{HasFacts, HasSplits}
use Rattle.sg_lanes.proofs.Branched.{later-step}

-- lists are compared alike in either order
bytes-turn : (xs ys : List ℕ) → bytes_eq xs ys ≡ bytes_eq ys xs
bytes-turn xs ys = ⊎_elim
    (λ yes. yes ∙ sym ((bytes_eq-Decides ys xs).1 (sym ((bytes_eq-Decides xs ys).0 yes))))
    (λ other. other ∙ sym (⊎_elim
    (λ yes. absurd (true≢false (sym ((bytes_eq-Decides xs ys).1 (sym ((bytes_eq-Decides ys xs).0 yes))) ∙ other)))
    (λ e. e)
    (cases_Bool (bytes_eq ys xs))))
    (cases_Bool (bytes_eq xs ys))

-- ---- facts

abbrev with_first : Bool → Worked → List Worked → List ℕ → Option Fact
with_first b w rest acts = option_map (λ (v : Worked). v.fact) (cond b (Some w) (find (λ (v : Worked). same (prefix acts) v.fix) rest))

first-test : (w : Worked) (rest : List Worked) (acts : List ℕ) (b : Bool) → same (prefix acts) w.fix ≡ b → fact_of (w ∷ rest) (prefix acts) ≡ with_first b w rest acts
first-test w rest acts b e = ap (λ (c : Bool). with_first c w rest acts) e

same-prefix : (w : Worked) (acts : List ℕ) → w.fix.first ≡ 1 → same (prefix acts) w.fix ≡ bytes_eq acts w.fix.acts
same-prefix w acts e = ap (λ (b : Bool). b && bytes_eq acts w.fix.acts) (eq-eqb 1 w.fix.first (sym e))

no-prefix : (w : Worked) (acts : List ℕ) → nat_eq w.fix.first 1 ≡ false → same (prefix acts) w.fix ≡ false
no-prefix w acts e = ap (λ (b : Bool). b && bytes_eq acts w.fix.acts) (⊎_elim
    (λ yes. absurd (true≢false (sym (eq-eqb w.fix.first 1 (sym (eqb-true 1 w.fix.first yes))) ∙ e)))
    (λ other. other)
    (cases_Bool (nat_eq 1 w.fix.first)))

pub facts-put : (w : Worked) (rest : List Worked) (m n : BTreeMap (Bor (List ℕ)) (Bor Fact)) (key : List ℕ) (f : Bor Fact) → w.fix.first ≡ 1 → key ≡ w.fix.acts → f.now ≡ w.fact
    → tree.UpdatesBy (λ (x y : Bor (List ℕ)). slice_cmp nat_cmp x.now y.now) (λ (k : Bor (List ℕ)). slice_cmp nat_cmp key k.now) m n (Some f) → HasFacts rest m → HasFacts (w ∷ rest) n
facts-put w rest m n key f first at is updates h = λ acts.
    ap (option_map (λ (x : Bor Fact). x.now)) (btree_map_updates_str key m n (Some f) updates acts) ∙ by acts (bytes_eq key acts) refl
  where
    by : (acts : List ℕ) (b : Bool) → bytes_eq key acts ≡ b → option_map (λ (x : Bor Fact). x.now) (cond b (Some f) (get_by (λ (k : Bor (List ℕ)). slice_cmp nat_cmp acts k.now) m)) ≡ fact_of (w ∷ rest) (prefix acts)
    by acts true e = ap (λ (x : Fact). Some x) is ∙ sym (first-test w rest acts true (same-prefix w acts first ∙ bytes-turn acts w.fix.acts ∙ ap (λ (k : List ℕ). bytes_eq k acts) (sym at) ∙ e))
    by acts false e = h acts ∙ sym (first-test w rest acts false (same-prefix w acts first ∙ bytes-turn acts w.fix.acts ∙ ap (λ (k : List ℕ). bytes_eq k acts) (sym at) ∙ e))

pub facts-keep : (w : Worked) (rest : List Worked) (m : BTreeMap (Bor (List ℕ)) (Bor Fact)) → nat_eq w.fix.first 1 ≡ false → HasFacts rest m → HasFacts (w ∷ rest) m
facts-keep w rest m other h = λ acts. h acts ∙ sym (first-test w rest acts false (no-prefix w acts other))

pub facts-none : (m : BTreeMap (Bor (List ℕ)) (Bor Fact)) → tree.IsEmpty m → HasFacts [] m
facts-none m e = λ acts. ap (λ es. option_map (λ (x : Bor Fact). x.now) (Rattle.std.specs.Map.lookup (tree.is_at (λ (k : Bor (List ℕ)). slice_cmp nat_cmp acts k.now)) es)) e

-- one place further from the end
pub facts-step : (worked : List Worked) (i : ℕ) (w : Worked) (m n : BTreeMap (Bor (List ℕ)) (Bor Fact)) → i < length worked → w ≡ get_or worked (length worked - 1 - i) w
    → HasFacts (drop (length worked - i) worked) m → ((rest : List Worked) → HasFacts rest m → HasFacts (w ∷ rest) n) → HasFacts (drop (length worked - (i + 1)) worked) n
facts-step worked i w m n lt is h puts =
    let j : ℕ = length worked - 1 - i in
    let here : drop j worked ≡ w ∷ drop (suc j) worked = drop-cons worked j w (omega (arith, lt)) ∙ ap (λ (x : Worked). x ∷ drop (suc j) worked) (sym is) in
    let next : suc j ≡ length worked - i = omega (arith, lt) in
    let at : j ≡ length worked - (i + 1) = omega arith in
    subst (λ (k : ℕ). HasFacts (drop k worked) n) at
    (subst (λ (ws : List Worked). HasFacts ws n) (sym here) (puts (drop (suc j) worked) (subst (λ (k : ℕ). HasFacts (drop k worked) m) (sym next) h)))

-- ---- splits

pub splits-none : (lists : BTreeSet (Bor (List ℕ))) → sorted.IsEmpty lists → HasSplits [] lists
splits-none lists e = λ acts. ap (λ (ks : List (Bor (List ℕ))). list_any (tree.is_at (λ (k : Bor (List ℕ)). slice_cmp nat_cmp acts k.now)) ks) e

pub splits-step : (splits : List (List ℕ)) (i : ℕ) (x : List ℕ) (m n : BTreeSet (Bor (List ℕ))) (key : Bor (List ℕ)) → i < length splits → x ≡ get_or splits i x → key.now ≡ x
    → sorted.UpdatesBy (λ (x y : Bor (List ℕ)). slice_cmp nat_cmp x.now y.now) (λ (k : Bor (List ℕ)). slice_cmp nat_cmp key.now k.now) m n true → HasSplits (take i splits) m → HasSplits (take (i + 1) splits) n
splits-step splits i x m n key lt is at updates h = λ acts.
    let q : Bor (List ℕ) = record { ref_ptr = (0, 0); now = acts } in
    let one : i + 1 ≡ suc i = omega arith in
    let more : take (i + 1) splits ≡ take i splits ++ (x ∷ []) = ap (λ (k : ℕ). take k splits) one ∙ take-suc splits i x lt ∙ ap (λ (y : List ℕ). take i splits ++ (y ∷ [])) (sym is) in
    let test : is_eq (slice_cmp nat_cmp key.now acts) ≡ bytes_eq acts x = is_eq-slice_cmp key.now acts ∙ bytes-turn key.now acts ∙ ap (bytes_eq acts) at in
    updates.0 q ∙ ap (λ (b : Bool). cond b true (contains_by (λ (k : Bor (List ℕ)). slice_cmp nat_cmp acts k.now) m)) test
    ∙ ap (λ (c : Bool). cond (bytes_eq acts x) true c) (h acts)
    ∙ join (bytes_eq acts x) (is_split (take i splits) acts)
    ∙ sym (ap (λ (xs : List (List ℕ)). is_split xs acts) more ∙ list_any-append (bytes_eq acts) (take i splits) (x ∷ []))
  where
    join : (b c : Bool) → cond b true c ≡ (c || (b || false))
    join true true = refl
    join true false = refl
    join false true = refl
    join false false = refl

-- ---- the tree

pub leaf-zero : (g : Game) (s : Search) (left : ℕ) (acts : List ℕ) (node : Node) (f : Option Fact) → left ≡ 0 → node ≡ leaf_with f → f ≡ fact_of s.worked (prefix acts) → node ≡ tree_at g s left acts
leaf-zero g s zero acts node f z e is = e ∙ ap leaf_with is
leaf-zero g s (suc left) acts node f z e is = absurd (omega (arith, z))

pub leaf-unsplit : (g : Game) (s : Search) (left : ℕ) (acts : List ℕ) (node : Node) (f : Option Fact) → is_split s.splits acts ≡ false → node ≡ leaf_with f → f ≡ fact_of s.worked (prefix acts) → node ≡ tree_at g s left acts
leaf-unsplit g s zero acts node f unsplit e is = e ∙ ap leaf_with is
leaf-unsplit g s (suc left) acts node f unsplit e is =
    e ∙ ap leaf_with is
    ∙ sym (ap (λ (b : Bool). cond {A = Node} b (split (length acts + 1) (fact_of s.worked (prefix acts)) (parts_of (map (λ a. tree_at g s left (acts ++ (a ∷ []))) (numbers (action_count g (length acts + 1)))))) (leaf_with (fact_of s.worked (prefix acts)))) unsplit)

pub split-node : (g : Game) (s : Search) (left : ℕ) (acts : List ℕ) (f : Option Fact) (parts : List Tree) → 1 ≤ left → is_split s.splits acts ≡ true → f ≡ fact_of s.worked (prefix acts)
    → map node_of parts ≡ map (λ a. tree_at g s (left - 1) (acts ++ (a ∷ []))) (numbers (action_count g (length acts + 1))) → node_of (Split (length acts + 1) f parts) ≡ tree_at g s left acts
split-node g s zero acts f parts some is_cut is e = absurd (omega (arith, some))
split-node g s (suc left) acts f parts some is_cut is e =
    let one : suc left - 1 ≡ left = omega arith in
    let below = subst (λ (k : ℕ). map node_of parts ≡ map (λ a. tree_at g s k (acts ++ (a ∷ []))) (numbers (action_count g (length acts + 1)))) one e in
    node_of-Split (length acts + 1) f parts
    ∙ ap (λ (ts : List Node). split (length acts + 1) f (parts_of ts)) below
    ∙ ap (λ (o : Option Fact). split (length acts + 1) o (parts_of (map (λ a. tree_at g s left (acts ++ (a ∷ []))) (numbers (action_count g (length acts + 1)))))) is
    ∙ sym (ap (λ (b : Bool). cond {A = Node} b (split (length acts + 1) (fact_of s.worked (prefix acts)) (parts_of (map (λ a. tree_at g s left (acts ++ (a ∷ []))) (numbers (action_count g (length acts + 1)))))) (leaf_with (fact_of s.worked (prefix acts)))) is_cut)

-- one part more
pub parts-step : (f : ℕ → Node) (xs more : List Tree) (x : Tree) (all : List Node) (a count : ℕ) → a < count → more ≡ xs ++ (x ∷ []) → node_of x ≡ f (a + 1)
    → map node_of xs ++ map f (numbers_from (a + 1) (count - a)) ≡ all → map node_of more ++ map f (numbers_from (a + 1 + 1) (count - (a + 1))) ≡ all
parts-step f xs more x all a count lt e is h =
    ap (λ (ts : List Tree). map node_of ts ++ map f (numbers_from (a + 1 + 1) (count - (a + 1)))) e
    ∙ ap (λ (ns : List Node). ns ++ map f (numbers_from (a + 1 + 1) (count - (a + 1)))) (map-append node_of xs (x ∷ []) ∙ ap (λ (y : Node). map node_of xs ++ (y ∷ [])) is)
    ∙ later-step f (map node_of xs) all a count lt h
