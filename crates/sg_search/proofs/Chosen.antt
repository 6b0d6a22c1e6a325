-- A list of choices is the only one.
use Rattle.std.proofs.Common.{◌≡◌, ◌⊎◌, ℕ, zero, suc, ◌<◌, true, true≢false, List, [], ◌∷◌, length, get_or, sym, ◌∙◌, ap, ap₂, subst, refl, arith, inl, inr, ⊎_elim, Contains, AllPairs}
use Rattle.std.specs.Prelude.{Some, slice_get}
use Rattle.std.specs.Ordering.{nat_cmp, is_lt, ordering_reverse}
use Rattle.std.specs.declared.cmp.Ordering.{Ordering}
use Rattle.std.specs.declared.cmp.Ordering.TheVariants.{Less, Equal, Greater}
use Rattle.std.specs.Cmp.Lexicographic.{slice_cmp, nat_list_cmp_total}
use Rattle.sg_tree.specs.declared.fix.Fix.{Fix}
use Rattle.sg_search.specs.Searches.{Task, Search}
use Rattle.sg_search.specs.Changes.{MayTake}
use Rattle.sg_search.specs.Events.{AreChoices, IsChoice, MayBranch, MayChoose, comes_first}
use Rattle.sg_search.specs.GroupLaws.{ChoicesAreOne}

-- of two nodes one alone comes first
pub one-first : (a b : Fix) → comes_first a b ≡ true → comes_first b a ≡ true → ⊥
one-first a b e f = by (slice_cmp nat_cmp (b.first ∷ b.acts) (a.first ∷ a.acts)) (sym (ap is_lt (nat_list_cmp_total.antisymm (a.first ∷ a.acts) (b.first ∷ b.acts))) ∙ e) f
  where
    by : (o : Ordering) → is_lt (ordering_reverse o) ≡ true → is_lt o ≡ true → ⊥
    by Less h k = true≢false (sym h)
    by Equal h k = true≢false (sym h)
    by Greater h k = true≢false (sym k)

abbrev pub InOrder : List Fix → Type 0
InOrder xs = AllPairs (λ a b. comes_first a b ≡ true) xs

pub rest-order : (x : Fix) (xs : List Fix) → InOrder (x ∷ xs) → InOrder xs
rest-order x xs h i j d low high = h (suc i) (suc j) d (omega (arith, low)) (omega (arith, high))

pub head-first : (x : Fix) (xs : List Fix) → InOrder (x ∷ xs) → (y : Fix) → Contains xs y → comes_first x y ≡ true
head-first x xs h y at = let lt = at.1 in subst (λ (z : Fix). comes_first x z ≡ true) at.2 (h 0 (suc at.0) y (omega arith) (omega (arith, lt)))

pub split-at : (x : Fix) (xs : List Fix) (y : Fix) → Contains (x ∷ xs) y → (x ≡ y) ⊎ Contains xs y
split-at x xs y at = by at.0 at.1 at.2
  where
    by : (k : ℕ) → k < length (x ∷ xs) → get_or (x ∷ xs) k y ≡ y → (x ≡ y) ⊎ Contains xs y
    by zero lt e = inl e
    by (suc k) lt e = inr (k, omega (arith, lt), e)

pub more-in : (x : Fix) (xs : List Fix) (y : Fix) → Contains xs y → Contains (x ∷ xs) y
more-in x xs y at = let lt = at.1 in (suc at.0, omega (arith, lt), at.2)

heads-same : (a b : Fix) (as1 bs : List Fix) → InOrder (a ∷ as1) → InOrder (b ∷ bs) → Contains (b ∷ bs) a → Contains (a ∷ as1) b → a ≡ b
heads-same a b as1 bs h k in_b in_a = ⊎_elim
    (λ e. sym e)
    (λ later. ⊎_elim
    (λ e. e)
    (λ also. absurd (one-first b a (head-first b bs k a later) (head-first a as1 h b also)))
    (split-at a as1 b in_a))
    (split-at b bs a in_b)

-- a member of the rest is in the other rest
rest-in : (a b : Fix) (as1 bs : List Fix) → InOrder (a ∷ as1) → a ≡ b → (y : Fix) → Contains as1 y → Contains (b ∷ bs) y → Contains bs y
rest-in a b as1 bs h e y at in_b = ⊎_elim
    (λ q. absurd (let first = head-first a as1 h y at in let again : comes_first a a ≡ true = subst (λ (z : Fix). comes_first a z ≡ true) (sym (e ∙ q)) first in one-first a a again again))
    (λ inside. inside)
    (split-at b bs y in_b)

unique : (as1 bs : List Fix) → InOrder as1 → InOrder bs → ((y : Fix) → Contains as1 y → Contains bs y) → ((y : Fix) → Contains bs y → Contains as1 y) → as1 ≡ bs
unique [] [] h k f g = refl
unique [] (b ∷ bs) h k f g = absurd (let at = g b (0, omega arith, refl) in let lt = at.1 in omega (arith, lt))
unique (a ∷ as1) [] h k f g = absurd (let at = f a (0, omega arith, refl) in let lt = at.1 in omega (arith, lt))
unique (a ∷ as1) (b ∷ bs) h k f g =
    let e = heads-same a b as1 bs h k (f a (0, omega arith, refl)) (g b (0, omega arith, refl)) in
    let tails = unique as1 bs (rest-order a as1 h) (rest-order b bs k)
    (λ y at. rest-in a b as1 bs h e y at (f y (more-in a as1 y at)))
    (λ y at. rest-in b a bs as1 k (sym e) y at (g y (more-in b bs y at))) in
    ap₂ (λ (x : Fix) (xs : List Fix). x ∷ xs) e tails

pub choices_are_one : ChoicesAreOne
choices_are_one p s a b x y = unique a b x.in_order y.in_order (λ node at. (y.each node).1 ((x.each node).0 at)) (λ node at. (x.each node).1 ((y.each node).0 at))

-- where a node may be taken, the choices are the nodes that may be taken
pub choose-take : (p : Task) (s : Search) (nodes : List Fix) → AreChoices (MayTake p s) nodes → (node : Fix) → MayTake p s node → AreChoices (MayChoose p s) nodes
choose-take p s nodes c node may = record {
  in_order = c.in_order;
  each = λ x. (λ at. inl ((c.each x).0 at), λ h. ⊎_elim (λ take. (c.each x).1 take) (λ branch. absurd (branch.nothing node may)) h);
}

-- where none may be taken and no cap node waits or is held, they are the prefixes that may be split
pub choose-branch : (p : Task) (s : Search) (nodes : List Fix) → ((node : Fix) → ¬ (MayTake p s node)) → AreChoices (MayBranch p s) nodes → AreChoices (MayChoose p s) nodes
choose-branch p s nodes none c = record {
  in_order = c.in_order;
  each = λ x. (λ at. inr ((c.each x).0 at), λ h. ⊎_elim (λ take. absurd (none x take)) (λ branch. (c.each x).1 branch) h);
}

-- where the choices are these, one of a number is the one of its place among them
pub choice-at : (p : Task) (s : Search) (nodes : List Fix) → AreChoices (MayChoose p s) nodes → (n : ℕ) (node : Fix) → IsChoice p s n node → slice_get nodes n ≡ Some node
choice-at p s nodes c n node i = subst (λ (xs : List Fix). slice_get xs n ≡ Some node) (choices_are_one p s i.nodes nodes i.choices c) i.place
