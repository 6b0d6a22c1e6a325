-- Nodes put in order.
use Rattle.std.proofs.Common.{◌≡◌, ◌⊎◌, ◌↔◌, ℕ, true, true≢false, List, [], ◌∷◌, sym, ◌∙◌, ap, ap₂, subst, refl, inl, inr, ⊎_elim, Contains}
use Rattle.std.specs.Ordering.{nat_cmp, is_lt, is_eq, ordering_reverse}
use Rattle.std.specs.declared.cmp.Ordering.{Ordering}
use Rattle.std.specs.declared.cmp.Ordering.TheVariants.{Less, Equal, Greater}
use Rattle.std.specs.Cmp.Lexicographic.{slice_cmp, nat_list_cmp_total}
use Rattle.std.proofs.lemmas.Map.Text.{is_eq-slice_cmp}
use Rattle.std.proofs.lemmas.Slice.Eq.{bytes_eq-Decides}
use Rattle.sg_tree.specs.declared.fix.Fix.{Fix}
use Rattle.sg_search.specs.Events.{AreChoices, comes_first}
use Rattle.sg_search.proofs.Chosen.{InOrder, head-first, rest-order}
use Rattle.sg_search.proofs.Listing.{choices-none, either-in, here-in, later-in, none-in, order-cons, order-nil}

less-is : (o : Ordering) → is_lt o ≡ true → o ≡ Less
less-is Less e = refl
less-is Equal e = absurd (true≢false (sym e))
less-is Greater e = absurd (true≢false (sym e))

-- what comes first chains
pub first-chain : (a b c : Fix) → comes_first a b ≡ true → comes_first b c ≡ true → comes_first a c ≡ true
first-chain a b c e f =
    ap is_lt (nat_list_cmp_total.trans (a.first ∷ a.acts) (b.first ∷ b.acts) (c.first ∷ c.acts)
    (less-is (slice_cmp nat_cmp (a.first ∷ a.acts) (b.first ∷ b.acts)) e)
    (less-is (slice_cmp nat_cmp (b.first ∷ b.acts) (c.first ∷ c.acts)) f))

-- of two nodes one comes first, or they are the same
pub data Order (a b : Fix) : Type 0 where
  sooner : comes_first a b ≡ true → Order a b
  equal : a ≡ b → Order a b
  later : comes_first b a ≡ true → Order a b

key-same : (a b : Fix) → a.first ∷ a.acts ≡ b.first ∷ b.acts → a ≡ b
key-same a b e =
    let f : a.first ≡ b.first = cc in
    let h : a.acts ≡ b.acts = cc in
    ap₂ (λ (first : ℕ) (acts : List ℕ). record { first = first; acts = acts }) f h

pub order : (a b : Fix) → Order a b
order a b = by (slice_cmp nat_cmp (a.first ∷ a.acts) (b.first ∷ b.acts)) refl
  where
    by : (o : Ordering) → slice_cmp nat_cmp (a.first ∷ a.acts) (b.first ∷ b.acts) ≡ o → Order a b
    by Less e = sooner (ap is_lt e)
    by Equal e = equal (key-same a b ((bytes_eq-Decides (a.first ∷ a.acts) (b.first ∷ b.acts)).0 (sym (is_eq-slice_cmp (a.first ∷ a.acts) (b.first ∷ b.acts)) ∙ ap is_eq e)))
    by Greater e = later (ap is_lt (nat_list_cmp_total.antisymm (b.first ∷ b.acts) (a.first ∷ a.acts) ∙ ap ordering_reverse e))

-- a node put into a list in order
pub record IsPut (x : Fix) (xs zs : List Fix) : Type 0 where
  pub in_order : InOrder zs
  pub each : (y : Fix) → Contains zs y ↔ ((y ≡ x) ⊎ Contains xs y)

put-by : (x z : Fix) (xs : List Fix) → InOrder (z ∷ xs) → Order x z → (zs : List Fix) × IsPut x xs zs → (zs : List Fix) × IsPut x (z ∷ xs) zs
put-by x z xs h (sooner e) rest = (
  x ∷ z ∷ xs,
  record {
    in_order = order-cons x (z ∷ xs) (λ y at. ⊎_elim
        (λ q. subst (λ (w : Fix). comes_first x w ≡ true) q e)
        (λ l. first-chain x z y e (head-first z xs h y l))
        (either-in z xs y at)) h;
    each = λ y. (
      λ at. ⊎_elim (λ q. inl (sym q)) (λ l. inr l) (either-in x (z ∷ xs) y at),
      λ k. ⊎_elim (λ q. subst (Contains (x ∷ z ∷ xs)) (sym q) (here-in x (z ∷ xs))) (λ l. later-in x (z ∷ xs) y l) k,
    );
  },
)
put-by x z xs h (equal e) rest = (
  z ∷ xs,
  record {
    in_order = h;
    each = λ y. (λ at. inr at, λ k. ⊎_elim (λ q. subst (Contains (z ∷ xs)) (sym (q ∙ e)) (here-in z xs)) (λ l. l) k);
  },
)
put-by x z xs h (later e) rest = (
  z ∷ rest.0,
  record {
    in_order = order-cons z rest.0 (λ y at. ⊎_elim
        (λ q. subst (λ (w : Fix). comes_first z w ≡ true) (sym q) e)
        (λ l. head-first z xs h y l)
        ((rest.1.each y).0 at)) rest.1.in_order;
    each = λ y. (
      λ at. ⊎_elim
          (λ q. inr (subst (Contains (z ∷ xs)) q (here-in z xs)))
          (λ l. ⊎_elim (λ q. inl q) (λ k. inr (later-in z xs y k)) ((rest.1.each y).0 l))
          (either-in z rest.0 y at),
      λ k. ⊎_elim
          (λ q. later-in z rest.0 y ((rest.1.each y).1 (inl q)))
          (λ at. ⊎_elim
          (λ q. subst (Contains (z ∷ rest.0)) q (here-in z rest.0))
          (λ l. later-in z rest.0 y ((rest.1.each y).1 (inr l)))
          (either-in z xs y at))
          k,
    );
  },
)

pub put : (x : Fix) (xs : List Fix) → InOrder xs → (zs : List Fix) × IsPut x xs zs
put x [] h = (
  x ∷ [],
  record {
    in_order = order-cons x [] (λ y at. absurd (none-in at)) order-nil;
    each = λ y. (
      λ at. ⊎_elim (λ q. inl (sym q)) (λ l. inr l) (either-in x [] y at),
      λ k. ⊎_elim (λ q. subst (Contains (x ∷ [])) (sym q) (here-in x [])) (λ l. absurd (none-in l)) k,
    );
  },
)
put x (z ∷ xs) h = put-by x z xs h (order x z) (put x xs (rest-order z xs h))

-- the nodes of a list, in order
pub sorted : (xs : List Fix) → (zs : List Fix) × AreChoices (λ y. Contains xs y) zs
sorted [] = ([], choices-none (λ y. Contains [] y) (λ y at. none-in at))
sorted (x ∷ xs) =
    let r = sorted xs in
    let q = put x r.0 r.1.in_order in (
      q.0,
      record {
        in_order = q.1.in_order;
        each = λ y. (
          λ at. ⊎_elim
              (λ e. subst (Contains (x ∷ xs)) (sym e) (here-in x xs))
              (λ l. later-in x xs y ((r.1.each y).0 l))
              ((q.1.each y).0 at),
          λ at. (q.1.each y).1 (⊎_elim (λ e. inl (sym e)) (λ l. inr ((r.1.each y).1 l)) (either-in x xs y at)),
        );
      },
    )
