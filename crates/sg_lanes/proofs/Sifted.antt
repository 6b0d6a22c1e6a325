-- Lists of nodes sifted, and the parts of a prefix in order.
use Rattle.std.proofs.Common.{◌≡◌, ◌⊎◌, ◌↔◌, ℕ, zero, suc, ◌+◌, ◌≤◌, ◌<◌, Bool, true, false, true≢false, cond, nat_lt, ◌==◌, List, [], ◌∷◌, ◌++◌, map, sym, ◌∙◌, ap, subst, refl, arith, inl, inr, ⊎_elim, Contains, All}
use Rattle.std.specs.Prelude.{filter, not}
use Rattle.std.specs.Ordering.{nat_cmp, is_lt, ordering_then}
use Rattle.std.specs.declared.cmp.Ordering.{Ordering}
use Rattle.std.specs.declared.cmp.Ordering.TheVariants.{Less, Equal, Greater}
use Rattle.std.specs.Cmp.Lexicographic.{slice_cmp}
use Rattle.std.proofs.lemmas.Bool.{cases_Bool, eq-eqb}
use Rattle.std.proofs.lemmas.Bool.Decides.{Decides-ltb}
use Rattle.std.proofs.lemmas.List.Elements.{All-nil, All-cons, All-head, All-tail}
use Rattle.sg_model.specs.Sums.{numbers_from}
use Rattle.sg_tree.specs.declared.fix.Fix.{Fix}
use Rattle.sg_bounds.specs.Regions.{prefix}
use Rattle.sg_search.specs.Searches.{same}
use Rattle.sg_search.specs.Events.{AreChoices, comes_first}
use Rattle.sg_search.proofs.Placed.{same-is, same-self}
use Rattle.sg_search.proofs.Chosen.{InOrder}
use Rattle.sg_search.proofs.Listing.{Passes, choices-kept, choices-same, order-cons, order-nil, keyed-in, none-in}
use Rattle.sg_lanes.specs.declared.ripe.Ripe.{Ripe}

map-same : (xs : List Fix) → map (λ (x : Fix). x) xs ≡ xs
map-same [] = refl
map-same (x ∷ xs) = ap (λ (ys : List Fix). x ∷ ys) (map-same xs)

-- the nodes of a list that pass a test
pub choices-pass : (May : Fix → Type 0) (q : Fix → Bool) (xs : List Fix) → AreChoices May xs → AreChoices (λ y. May y × (q y ≡ true)) (filter q xs)
choices-pass May q xs c =
    let k = choices-kept (λ (x : Fix). x) q May xs (subst (AreChoices May) (sym (map-same xs)) c) in
    choices-same (Passes (λ (x : Fix). x) q xs) (λ y. May y × (q y ≡ true)) (filter q xs)
    (λ y. (
      λ pass. let at = subst (Contains xs) pass.key_is pass.at in ((c.each y).0 at, subst (λ (z : Fix). q z ≡ true) pass.key_is pass.passes),
      λ h. record { item = y; at = (c.each y).1 h.0; key_is = refl; passes = h.1 },
    ))
    (subst (AreChoices (Passes (λ (x : Fix). x) q xs)) (map-same (filter q xs)) k)

not-is : (b : Bool) → not b ≡ true → b ≡ false
not-is true e = absurd (true≢false (sym e))
not-is false e = refl

is-not : (b : Bool) → b ≡ false → not b ≡ true
is-not true e = absurd (true≢false e)
is-not false e = refl

-- a node differs from another one, told by the test in either order
pub other-node : (node x : Fix) → not (same node x) ≡ true → same x node ≡ false
other-node node x e = ⊎_elim
    (λ yes. absurd (true≢false (sym (subst (λ (z : Fix). same z x ≡ true) (same-is x node yes) (same-self x)) ∙ not-is (same node x) e)))
    (λ n. n)
    (cases_Bool (same x node))

pub node-other : (node x : Fix) → same x node ≡ false → not (same node x) ≡ true
node-other node x e = is-not (same node x) (⊎_elim
    (λ yes. absurd (true≢false (sym (subst (λ (z : Fix). same x z ≡ true) (sym (same-is node x yes)) (same-self x)) ∙ e)))
    (λ n. n)
    (cases_Bool (same node x)))

-- what is kept of a list keeps a property of all
pub all-kept : {X : Type 0} (P : X → Type 0) (q : X → Bool) (xs : List X) → All P xs → All P (filter q xs)
all-kept P q [] h = All-nil P
all-kept {X} P q (x ∷ xs) h = by (q x) (all-kept P q xs (All-tail P x xs h))
  where
    by : (b : Bool) → All P (filter q xs) → All P (cond b (x ∷ filter q xs) (filter q xs))
    by true r = All-cons P x (filter q xs) (All-head P x xs h) r
    by false r = r

-- ---- parts in order

cmp-self : (x : ℕ) (o : Ordering) → ordering_then (nat_cmp x x) o ≡ o
cmp-self x o =
    let less : nat_lt x x ≡ false = ⊎_elim (λ yes. absurd (let lt = (Decides-ltb x x).0 yes in omega (arith, lt))) (λ n. n) (cases_Bool (nat_lt x x)) in
    ap (λ (b : Bool). ordering_then (cond b Less (cond (x == x) Equal Greater)) o) less ∙ ap (λ (b : Bool). ordering_then (cond b Equal Greater) o) (eq-eqb x x refl)

pub cmp-less : (a b : ℕ) → a < b → (o : Ordering) → is_lt (ordering_then (nat_cmp a b) o) ≡ true
cmp-less a b lt o = ap (λ (c : Bool). is_lt (ordering_then (cond c Less (cond (a == b) Equal Greater)) o)) ((Decides-ltb a b).1 lt)

pub cmp-last : (xs : List ℕ) (a b : ℕ) → a < b → is_lt (slice_cmp nat_cmp (xs ++ (a ∷ [])) (xs ++ (b ∷ []))) ≡ true
cmp-last [] a b lt = cmp-less a b lt Equal
cmp-last (x ∷ xs) a b lt = ap is_lt (cmp-self x (slice_cmp nat_cmp (xs ++ (a ∷ [])) (xs ++ (b ∷ [])))) ∙ cmp-last xs a b lt

-- parts of one prefix stand by their actions
pub part-first : (acts : List ℕ) (a b : ℕ) → a < b → comes_first (prefix (acts ++ (a ∷ []))) (prefix (acts ++ (b ∷ []))) ≡ true
part-first acts a b lt = cmp-last (1 ∷ acts) a b lt
