-- The facts of a tree and of the proofs of caps, with their nodes: which they are, and that no node is there twice.
use Rattle.std.proofs.Common.{◌≡◌, ℕ, zero, suc, ◌+◌, ◌≤◌, ◌<◌, ◌||◌, Bool, true, false, true≢false, List, [], ◌∷◌, ◌++◌, map, length, get_or, Option, Some, None, sym, ◌∙◌, ap, subst, refl, arith, ⊎_elim, Contains, append-nil, append_assoc, length-append}
use Rattle.std.specs.List.{AllByRecursion, IsDistinct, list_any}
use Rattle.std.proofs.lemmas.Bool.{cases_Bool}
use Rattle.std.proofs.lemmas.List.{length-map}
use Rattle.std.proofs.lemmas.List.Elements.{Contains-append_cases, Contains-append_left, Contains-append_right}
use Rattle.std.proofs.lemmas.Map.Made.{length-le_from_is_member}
use Rattle.sg_tree.specs.declared.fact.Fact.{Fact}
use Rattle.sg_tree.specs.declared.fix.Fix.{Fix}
use Rattle.sg_bounds.specs.Facts.{no_fact}
use Rattle.sg_bounds.specs.Regions.{alone, prefix}
use Rattle.sg_bounds.specs.Trees.{Node, Parts, closed, end, part, split, unproved}
use Rattle.sg_search.specs.Searches.{same}
use Rattle.sg_search.specs.TreeLaws.{proved, proved_in}
use Rattle.sg_search.proofs.Enough.{member, same-laws}
use Rattle.sg_search.proofs.Listing.{either-in, here-in, keyed-in, later-in, none-in}
use Rattle.sg_search.proofs.Placed.{same-is}
use Rattle.sg_programs.specs.CauseRows.{part_facts, proof_facts, tree_facts}

-- a fact with its node
abbrev pub Stated : Type 0
Stated = Fix × Fact

abbrev pub node_in : Stated → Fix
node_in x = x.0

-- ---- lists in which no node is there twice

abbrev pub Differ : List Stated → Type 0
Differ [] = Unit {0}
Differ (x ∷ xs) = ((y : Stated) → Contains xs y → node_in x ≡ node_in y → ⊥) × Differ xs

pub differ-append : (xs ys : List Stated) → Differ xs → Differ ys → ((x y : Stated) → Contains xs x → Contains ys y → node_in x ≡ node_in y → ⊥) → Differ (xs ++ ys)
differ-append [] ys h k cross = k
differ-append (x ∷ xs) ys h k cross = (
  λ y at e. ⊎_elim (λ left. h.0 y left e) (λ right. cross x y (here-in x xs) right e) (Contains-append_cases xs ys y at),
  differ-append xs ys h.1 k (λ a b p q. cross a b (later-in x xs a p) q),
)

pub from-member : (x : Fix) (zs : List Fix) → list_any (same x) zs ≡ true → Contains zs x
from-member x [] m = absurd (true≢false (sym m))
from-member x (z ∷ zs) m = ⊎_elim
    (λ yes. subst (Contains (z ∷ zs)) (sym (same-is x z yes)) (here-in z zs))
    (λ other. later-in z zs x (from-member x zs (sym (ap (λ (b : Bool). b || list_any (same x) zs) other) ∙ m)))
    (cases_Bool (same x z))

-- different nodes that all are in a list are no more than it has
pub distinct-short : (xs ys : List Fix) → IsDistinct same xs → ((x : Fix) → Contains xs x → Contains ys x) → length xs ≤ length ys
distinct-short xs ys d inside = length-le_from_is_member same-laws xs ys d (λ x m. member x ys (inside x (from-member x xs m)))

apart : (x : Stated) (xs : List Stated) → ((y : Stated) → Contains xs y → node_in x ≡ node_in y → ⊥) → AllByRecursion (λ y. same (node_in x) y ≡ false) (map node_in xs)
apart x [] h = tt
apart x (z ∷ xs) h = (
  ⊎_elim (λ yes. absurd (h z (here-in z xs) (same-is (node_in x) (node_in z) yes))) (λ other. other) (cases_Bool (same (node_in x) (node_in z))),
  apart x xs (λ y at. h y (later-in z xs y at)),
)

differ-distinct : (xs : List Stated) → Differ xs → IsDistinct same (map node_in xs)
unfolding IsDistinct
differ-distinct [] h = tt
differ-distinct (x ∷ xs) h = (apart x xs h.0, differ-distinct xs h.1)

pub differ-short : (xs : List Stated) (ys : List Fix) → Differ xs → ((x : Stated) → Contains xs x → Contains ys (node_in x)) → length xs ≤ length ys
differ-short xs ys h inside =
    let l = length-map xs node_in in
    let le = distinct-short (map node_in xs) ys (differ-distinct xs h) (λ y at. let q = keyed-in node_in xs y at in subst (Contains ys) q.2 (inside q.0 q.1)) in
    omega (arith, l, le)

-- ---- lists with the same beginning

same-next : (xs : List ℕ) (a b : ℕ) (as1 bs : List ℕ) → xs ++ (a ∷ as1) ≡ xs ++ (b ∷ bs) → a ≡ b
same-next [] a b as1 bs e = cc
same-next (x ∷ xs) a b as1 bs e = same-next xs a b as1 bs (tails (xs ++ (a ∷ as1)) (xs ++ (b ∷ bs)) e)
  where
    tails : (ys zs : List ℕ) → x ∷ ys ≡ x ∷ zs → ys ≡ zs
    tails ys zs h = cc

no-longer : (xs : List ℕ) (a : ℕ) (as1 : List ℕ) → xs ≡ xs ++ (a ∷ as1) → ⊥
no-longer xs a as1 e = let l : length xs ≡ length (xs ++ (a ∷ as1)) = ap length e in let k = length-append xs (a ∷ as1) in omega (arith, l, k)

-- ---- the facts of a tree

-- a fact of a tree after these actions, with where it is in the tree
pub record IsFactAt (acts : List ℕ) (t : Node) (x : Stated) : Type 0 where
  pub path : List ℕ
  pub fact : proved t path ≡ Some x.1
  pub node : node_in x ≡ prefix (acts ++ path)

-- one of the parts, counted from a
record IsFactIn (acts : List ℕ) (a : ℕ) (ps : Parts) (x : Stated) : Type 0 where
  place : ℕ
  path : List ℕ
  fact : proved_in ps (suc place) path ≡ Some x.1
  node : node_in x ≡ prefix (acts ++ ((a + place) ∷ path))

at-head : (acts : List ℕ) (t : Node) (f : Fact) (x : Stated) → proved t [] ≡ Some f → (prefix acts, f) ≡ x → IsFactAt acts t x
at-head acts t f x has e = record { path = []; fact = has ∙ ap (λ (y : Stated). Some y.1) e; node = ap node_in (sym e) ∙ ap prefix (sym (append-nil acts)) }

at-part : (acts : List ℕ) (l : ℕ) (base : Option Fact) (ps : Parts) (x : Stated) → IsFactIn acts 1 ps x → IsFactAt acts (split l base ps) x
at-part acts l base ps x of =
    let z : 1 + of.place ≡ suc of.place = omega arith in
    record { path = suc of.place ∷ of.path; fact = of.fact; node = subst (λ (i : ℕ). node_in x ≡ prefix (acts ++ (i ∷ of.path))) z of.node }

mutual
  pub tree-fact : (t : Node) (acts : List ℕ) (x : Stated) → Contains (tree_facts acts t) x → IsFactAt acts t x
  tree-fact unproved acts x at = absurd (none-in at)
  tree-fact (closed f) acts x at = ⊎_elim (λ e. at-head acts (closed f) f x refl e) (λ later. absurd (none-in later)) (either-in (prefix acts, f) [] x at)
  tree-fact (split l None parts) acts x at = at-part acts l None parts x (parts-fact parts acts 1 x at)
  tree-fact (split l (Some f) parts) acts x at =
      ⊎_elim (λ e. at-head acts (split l (Some f) parts) f x refl e) (λ later. at-part acts l (Some f) parts x (parts-fact parts acts 1 x later)) (either-in (prefix acts, f) (part_facts acts 1 parts) x at)

  parts-fact : (ps : Parts) (acts : List ℕ) (a : ℕ) (x : Stated) → Contains (part_facts acts a ps) x → IsFactIn acts a ps x
  parts-fact end acts a x at = absurd (none-in at)
  parts-fact (part t rest) acts a x at = ⊎_elim
      (λ left.
      let r = tree-fact t (acts ++ (a ∷ [])) x left in
      let z : a ≡ a + 0 = omega arith in
      record { place = 0; path = r.path; fact = r.fact; node = r.node ∙ ap prefix (append_assoc acts (a ∷ []) r.path) ∙ ap (λ (i : ℕ). prefix (acts ++ (i ∷ r.path))) z })
      (λ right.
      let r = parts-fact rest acts (a + 1) x right in
      let z : a + 1 + r.place ≡ a + suc r.place = omega arith in
      record { place = suc r.place; path = r.path; fact = r.fact; node = r.node ∙ ap (λ (i : ℕ). prefix (acts ++ (i ∷ r.path))) z })
      (Contains-append_cases (tree_facts (acts ++ (a ∷ [])) t) (part_facts acts (a + 1) rest) x at)

-- each proved prefix of a tree is there with its fact
first-part : (xs : List Stated) (acts : List ℕ) (i : ℕ) (path : List ℕ) (f : Fact) → Contains xs (prefix (acts ++ ((1 + i) ∷ path)), f) → Contains xs (prefix (acts ++ (suc i ∷ path)), f)
first-part xs acts i path f at = let z : 1 + i ≡ suc i = omega arith in subst (λ (j : ℕ). Contains xs (prefix (acts ++ (j ∷ path)), f)) z at

one-fact : (f h : Fact) → Some f ≡ Some h → f ≡ h
one-fact f h e = cc

none-some : (f : Fact) → None ≡ Some f → ⊥
none-some f e = cc

none-zeroth : (ps : Parts) (path : List ℕ) → proved_in ps 0 path ≡ None
none-zeroth end path = refl
none-zeroth (part t rest) path = refl

mutual
  pub tree-has : (t : Node) (acts path : List ℕ) (f : Fact) → proved t path ≡ Some f → Contains (tree_facts acts t) (prefix (acts ++ path), f)
  tree-has unproved acts path f e = absurd (none-some f e)
  tree-has (closed h) acts [] f e =
      subst (λ (x : Stated). Contains ((prefix acts, h) ∷ []) x) (ap (λ (y : Fact). (prefix acts, y)) (one-fact h f e) ∙ ap (λ (z : List ℕ). (prefix z, f)) (sym (append-nil acts))) (here-in (prefix acts, h) [])
  tree-has (closed h) acts (a ∷ path) f e = absurd (none-some f e)
  tree-has (split l None parts) acts [] f e = absurd (none-some f e)
  tree-has (split l None parts) acts (zero ∷ path) f e = absurd (none-some f (sym (none-zeroth parts path) ∙ e))
  tree-has (split l None parts) acts (suc i ∷ path) f e = first-part (part_facts acts 1 parts) acts i path f (parts-have parts acts 1 i path f e)
  tree-has (split l (Some h) parts) acts [] f e =
      subst (λ (x : Stated). Contains ((prefix acts, h) ∷ part_facts acts 1 parts) x) (ap (λ (y : Fact). (prefix acts, y)) (one-fact h f e) ∙ ap (λ (z : List ℕ). (prefix z, f)) (sym (append-nil acts))) (here-in (prefix acts, h) (part_facts acts 1 parts))
  tree-has (split l (Some h) parts) acts (zero ∷ path) f e = absurd (none-some f (sym (none-zeroth parts path) ∙ e))
  tree-has (split l (Some h) parts) acts (suc i ∷ path) f e =
      later-in (prefix acts, h) (part_facts acts 1 parts) (prefix (acts ++ (suc i ∷ path)), f) (first-part (part_facts acts 1 parts) acts i path f (parts-have parts acts 1 i path f e))

  parts-have : (ps : Parts) (acts : List ℕ) (b i : ℕ) (path : List ℕ) (f : Fact) → proved_in ps (suc i) path ≡ Some f → Contains (part_facts acts b ps) (prefix (acts ++ ((b + i) ∷ path)), f)
  parts-have end acts b i path f e = absurd (none-some f e)
  parts-have (part t rest) acts b zero path f e =
      let z : b ≡ b + 0 = omega arith in
      let q : (acts ++ (b ∷ [])) ++ path ≡ acts ++ ((b + 0) ∷ path) = append_assoc acts (b ∷ []) path ∙ ap (λ (j : ℕ). acts ++ (j ∷ path)) z in
      Contains-append_left (tree_facts (acts ++ (b ∷ [])) t) (part_facts acts (b + 1) rest) (prefix (acts ++ ((b + 0) ∷ path)), f)
      (subst (λ (y : List ℕ). Contains (tree_facts (acts ++ (b ∷ [])) t) (prefix y, f)) q (tree-has t (acts ++ (b ∷ [])) path f e))
  parts-have (part t rest) acts b (suc i) path f e =
      let z : b + 1 + i ≡ b + suc i = omega arith in
      Contains-append_right (tree_facts (acts ++ (b ∷ [])) t) (part_facts acts (b + 1) rest) (prefix (acts ++ ((b + suc i) ∷ path)), f)
      (subst (λ (j : ℕ). Contains (part_facts acts (b + 1) rest) (prefix (acts ++ (j ∷ path)), f)) z (parts-have rest acts (b + 1) i path f e))

-- no prefix is there twice
mutual
  pub tree-differ : (t : Node) (acts : List ℕ) → Differ (tree_facts acts t)
  tree-differ unproved acts = tt
  tree-differ (closed f) acts = (λ y at e. none-in at, tt)
  tree-differ (split l None parts) acts = parts-differ parts acts 1
  tree-differ (split l (Some f) parts) acts = (
    λ y at e. let r = parts-fact parts acts 1 y at in no-longer acts (1 + r.place) r.path (ap (λ (x : Fix). x.acts) (e ∙ r.node)),
    parts-differ parts acts 1,
  )

  parts-differ : (ps : Parts) (acts : List ℕ) (a : ℕ) → Differ (part_facts acts a ps)
  parts-differ end acts a = tt
  parts-differ (part t rest) acts a =
      differ-append (tree_facts (acts ++ (a ∷ [])) t) (part_facts acts (a + 1) rest) (tree-differ t (acts ++ (a ∷ []))) (parts-differ rest acts (a + 1))
      (λ x y at later e.
      let l = tree-fact t (acts ++ (a ∷ [])) x at in
      let r = parts-fact rest acts (a + 1) y later in
      let q : acts ++ (a ∷ l.path) ≡ acts ++ ((a + 1 + r.place) ∷ r.path) = sym (append_assoc acts (a ∷ []) l.path) ∙ ap (λ (z : Fix). z.acts) (sym l.node ∙ e ∙ r.node) in
      let n = same-next acts a (a + 1 + r.place) l.path r.path q in
      omega (arith, n))

-- ---- the facts that prove a cap

pub record IsProofAt (l a : ℕ) (fs : List Fact) (x : Stated) : Type 0 where
  pub place : ℕ
  pub in_range : place < length fs
  pub fact : get_or fs place no_fact ≡ x.1
  pub node : node_in x ≡ alone l (a + place)

pub proof-fact : (l a : ℕ) (fs : List Fact) (x : Stated) → Contains (proof_facts l a fs) x → IsProofAt l a fs x
proof-fact l a [] x at = absurd (none-in at)
proof-fact l a (f ∷ fs) x at = ⊎_elim
    (λ e. let z : a ≡ a + 0 = omega arith in record { place = 0; in_range = omega arith; fact = ap (λ (y : Stated). y.1) e; node = ap node_in (sym e) ∙ ap (alone l) z })
    (λ later.
    let r = proof-fact l (a + 1) fs x later in
    let z : a + 1 + r.place ≡ a + suc r.place = omega arith in
    let lt = r.in_range in
    record { place = suc r.place; in_range = omega (arith, lt); fact = r.fact; node = r.node ∙ ap (alone l) z })
    (either-in (alone l a, f) (proof_facts l (a + 1) fs) x at)

pub proof-has : (l a : ℕ) (fs : List Fact) (i : ℕ) → i < length fs → Contains (proof_facts l a fs) (alone l (a + i), get_or fs i no_fact)
proof-has l a [] i lt = absurd (omega (arith, lt))
proof-has l a (f ∷ fs) zero lt = let z : a ≡ a + 0 = omega arith in subst (λ (j : ℕ). Contains (proof_facts l a (f ∷ fs)) (alone l j, f)) z (here-in (alone l a, f) (proof_facts l (a + 1) fs))
proof-has l a (f ∷ fs) (suc i) lt =
    let z : a + 1 + i ≡ a + suc i = omega arith in
    subst (λ (j : ℕ). Contains (proof_facts l a (f ∷ fs)) (alone l j, get_or fs i no_fact)) z (later-in (alone l a, f) (proof_facts l (a + 1) fs) (alone l (a + 1 + i), get_or fs i no_fact) (proof-has l (a + 1) fs i (omega (arith, lt))))

first-act : (l m a b : ℕ) → alone l a ≡ alone m b → a ≡ b
first-act l m a b e = heads (ap (λ (x : Fix). x.acts) e)
  where
    heads : a ∷ [] ≡ b ∷ [] → a ≡ b
    heads h = cc

pub proof-differ : (l a : ℕ) (fs : List Fact) → Differ (proof_facts l a fs)
proof-differ l a [] = tt
proof-differ l a (f ∷ fs) = (
  λ y at e. let r = proof-fact l (a + 1) fs y at in let q = first-act l l a (a + 1 + r.place) (e ∙ r.node) in omega (arith, q),
  proof-differ l (a + 1) fs,
)
