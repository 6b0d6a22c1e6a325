-- Lists of exactly the nodes for which something holds, in order: joined, cut, filled and sifted.
use Rattle.std.proofs.Common.{◌≡◌, ◌≢◌, ◌⊎◌, ℕ, zero, suc, ◌≤◌, ◌<◌, Bool, true, false, cond, ◌||◌, List, [], ◌∷◌, ◌++◌, map, length, get_or, take, drop, sym, ◌∙◌, ap, subst, refl, arith, Some, None, inl, inr, ⊎_elim, true≢false, Contains}
use Rattle.std.specs.Prelude.{◌↔◌, slice_get, filter, remove, insert}
use Rattle.std.proofs.lemmas.List.{take-append-drop}
use Rattle.std.proofs.lemmas.List.Elements.{Contains-append_cases, Contains-append_left, Contains-append_right}
use Rattle.std.proofs.lemmas.Bool.{cases_Bool}
use Rattle.std.specs.List.{AllByRecursion, IsDistinct, list_any}
use Rattle.std.proofs.lemmas.Map.Made.{length-le_from_is_member}
use Rattle.sg_tree.specs.declared.fix.Fix.{Fix}
use Rattle.sg_search.specs.Searches.{same}
use Rattle.sg_search.specs.Events.{AreChoices, comes_first}
use Rattle.sg_search.proofs.Placed.{same-is}
use Rattle.sg_search.proofs.Enough.{member, same-laws}
use Rattle.sg_search.proofs.Chosen.{InOrder, head-first, one-first, rest-order}

-- ---- order

pub get-in : {X : Type 0} (xs : List X) (j : ℕ) (d : X) → j < length xs → Contains xs (get_or xs j d)
get-in [] j d lt = absurd (omega (arith, lt))
get-in (x ∷ xs) zero d lt = (0, omega arith, refl)
get-in (x ∷ xs) (suc j) d lt = let r = get-in xs j d (omega (arith, lt)) in let l = r.1 in (suc r.0, omega (arith, l), r.2)

pub none-in : {X : Type 0} {x : X} → Contains [] x → ⊥
none-in at = let lt = at.1 in omega (arith, lt)

pub here-in : {X : Type 0} (x : X) (xs : List X) → Contains (x ∷ xs) x
here-in x xs = (0, omega arith, refl)

pub later-in : {X : Type 0} (x : X) (xs : List X) (y : X) → Contains xs y → Contains (x ∷ xs) y
later-in x xs y at = let lt = at.1 in (suc at.0, omega (arith, lt), at.2)

pub either-in : {X : Type 0} (x : X) (xs : List X) (y : X) → Contains (x ∷ xs) y → (x ≡ y) ⊎ Contains xs y
either-in {X} x xs y at = by at.0 at.1 at.2
  where
    by : (k : ℕ) → k < length (x ∷ xs) → get_or (x ∷ xs) k y ≡ y → (x ≡ y) ⊎ Contains xs y
    by zero lt e = inl e
    by (suc k) lt e = inr (k, omega (arith, lt), e)

pub order-nil : InOrder []
order-nil i j d low high = absurd (omega (arith, high))

pub order-cons : (x : Fix) (xs : List Fix) → ((y : Fix) → Contains xs y → comes_first x y ≡ true) → InOrder xs → InOrder (x ∷ xs)
order-cons x xs first order i zero d low high = absurd (omega (arith, low))
order-cons x xs first order zero (suc j) d low high = first (get_or xs j d) (get-in xs j d (omega (arith, high)))
order-cons x xs first order (suc i) (suc j) d low high = order i j d (omega (arith, low)) (omega (arith, high))

pub order-append : (xs ys : List Fix) → InOrder xs → InOrder ys → ((a b : Fix) → Contains xs a → Contains ys b → comes_first a b ≡ true) → InOrder (xs ++ ys)
order-append [] ys h k cross = k
order-append (x ∷ xs) ys h k cross =
    order-cons x (xs ++ ys)
    (λ y at. ⊎_elim (λ in_xs. head-first x xs h y in_xs) (λ in_ys. cross x y (here-in x xs) in_ys) (Contains-append_cases xs ys y at))
    (order-append xs ys (rest-order x xs h) k (λ a b p q. cross a b (later-in x xs a p) q))

-- what an ordered list says of its two parts
pub record AreParts (xs ys : List Fix) : Type 0 where
  pub front : InOrder xs
  pub back : InOrder ys
  pub cross : (a b : Fix) → Contains xs a → Contains ys b → comes_first a b ≡ true

pub order-parts : (xs ys : List Fix) → InOrder (xs ++ ys) → AreParts xs ys
order-parts [] ys h = record { front = order-nil; back = h; cross = λ a b p q. absurd (none-in p) }
order-parts (x ∷ xs) ys h =
    let r = order-parts xs ys (rest-order x (xs ++ ys) h) in
    record {
      front = order-cons x xs (λ y at. head-first x (xs ++ ys) h y (Contains-append_left xs ys y at)) r.front;
      back = r.back;
      cross = λ a b p q. ⊎_elim
          (λ e. subst (λ (z : Fix). comes_first z b ≡ true) e (head-first x (xs ++ ys) h b (Contains-append_right xs ys b q)))
          (λ later. r.cross a b later q)
          (either-in x xs a p);
    }

-- no node comes before itself
pub not-before : (x y : Fix) → comes_first x y ≡ true → x ≢ y
not-before x y first e = let again : comes_first x x ≡ true = subst (λ (z : Fix). comes_first x z ≡ true) (sym e) first in one-first x x again again

-- ---- one less

pub cut : {X : Type 0} (xs : List X) (n : ℕ) (x : X) → slice_get xs n ≡ Some x → xs ≡ take n xs ++ (x ∷ drop (suc n) xs)
cut [] n x e = absurd (none-some e)
  where
    none-some : {X : Type 0} {a : X} → None ≡ Some a → ⊥
    none-some h = cc
cut {X} (y ∷ xs) zero x e = ap (λ (z : X). z ∷ xs) (some-one e)
  where
    some-one : {Y : Type 0} {a b : Y} → Some a ≡ Some b → a ≡ b
    some-one h = cc
cut {X} (y ∷ xs) (suc n) x e = ap (λ (zs : List X). y ∷ zs) (cut xs n x e)

parts-less : (May : Fix → Type 0) (front : List Fix) (x : Fix) (back : List Fix) → AreChoices May (front ++ (x ∷ back)) → AreChoices (λ y. May y × (y ≢ x)) (front ++ back)
parts-less May front x back c =
    let o = order-parts front (x ∷ back) c.in_order in
    record {
      in_order = order-append front back o.front (rest-order x back o.back) (λ a b p q. o.cross a b p (later-in x back b q));
      each = λ y. (
        λ at. ⊎_elim
            (λ p. ((c.each y).0 (Contains-append_left front (x ∷ back) y p), not-before y x (o.cross y x p (here-in x back))))
            (λ q. ((c.each y).0 (Contains-append_right front (x ∷ back) y (later-in x back y q)), λ e. not-before x y (head-first x back o.back y q) (sym e)))
            (Contains-append_cases front back y at),
        λ may. ⊎_elim
            (λ p. Contains-append_left front back y p)
            (λ q. ⊎_elim (λ e. absurd (may.1 (sym e))) (λ later. Contains-append_right front back y later) (either-in x back y q))
            (Contains-append_cases front (x ∷ back) y ((c.each y).1 may.0)),
      );
    }

-- one of its nodes taken out
pub choices-less : (May : Fix → Type 0) (xs : List Fix) (n : ℕ) (x : Fix) → AreChoices May xs → slice_get xs n ≡ Some x → AreChoices (λ y. May y × (y ≢ x)) (remove xs n)
choices-less May xs n x c e = parts-less May (take n xs) x (drop (suc n) xs) (subst (AreChoices May) (cut xs n x e) c)

-- a node put in at its place
pub choices-more : (May : Fix → Type 0) (xs : List Fix) (n : ℕ) (x : Fix) → AreChoices May xs
    → ((y : Fix) → Contains (take n xs) y → comes_first y x ≡ true) → ((y : Fix) → Contains (drop n xs) y → comes_first x y ≡ true)
    → AreChoices (λ y. (y ≡ x) ⊎ May y) (insert xs n x)
choices-more May xs n x c before after =
    let front : List Fix = take n xs in
    let back : List Fix = drop n xs in
    let whole : front ++ back ≡ xs = take-append-drop n xs in
    let o = order-parts front back (subst InOrder (sym whole) c.in_order) in
    record {
      in_order = order-append front (x ∷ back) o.front (order-cons x back after o.back)
          (λ a b p q. ⊎_elim (λ e. subst (λ (z : Fix). comes_first a z ≡ true) e (before a p)) (λ later. o.cross a b p later) (either-in x back b q));
      each = λ y. (
        λ at. ⊎_elim
            (λ p. inr ((c.each y).0 (subst (λ (zs : List Fix). Contains zs y) whole (Contains-append_left front back y p))))
            (λ q. ⊎_elim (λ e. inl (sym e)) (λ later. inr ((c.each y).0 (subst (λ (zs : List Fix). Contains zs y) whole (Contains-append_right front back y later)))) (either-in x back y q))
            (Contains-append_cases front (x ∷ back) y at),
        λ h. ⊎_elim
            (λ e. subst (Contains (front ++ (x ∷ back))) (sym e) (Contains-append_right front (x ∷ back) x (here-in x back)))
            (λ may. ⊎_elim
            (λ p. Contains-append_left front (x ∷ back) y p)
            (λ q. Contains-append_right front (x ∷ back) y (later-in x back y q))
            (Contains-append_cases front back y (subst (λ (zs : List Fix). Contains zs y) (sym whole) ((c.each y).1 may))))
            h,
      );
    }

-- ---- joined

pub choices-append : (A B : Fix → Type 0) (xs ys : List Fix) → AreChoices A xs → AreChoices B ys → ((a b : Fix) → A a → B b → comes_first a b ≡ true) → AreChoices (λ y. A y ⊎ B y) (xs ++ ys)
choices-append A B xs ys c d cross = record {
  in_order = order-append xs ys c.in_order d.in_order (λ a b p q. cross a b ((c.each a).0 p) ((d.each b).0 q));
  each = λ y. (
    λ at. ⊎_elim (λ p. inl ((c.each y).0 p)) (λ q. inr ((d.each y).0 q)) (Contains-append_cases xs ys y at),
    λ h. ⊎_elim (λ a. Contains-append_left xs ys y ((c.each y).1 a)) (λ b. Contains-append_right xs ys y ((d.each y).1 b)) h,
  );
}

-- the same for another property that holds of the same nodes
pub choices-same : (A B : Fix → Type 0) (xs : List Fix) → ((y : Fix) → A y ↔ B y) → AreChoices A xs → AreChoices B xs
choices-same A B xs same_as c = record { in_order = c.in_order; each = λ y. (λ at. (same_as y).0 ((c.each y).0 at), λ b. (c.each y).1 ((same_as y).1 b)) }

pub choices-none : (May : Fix → Type 0) → ((y : Fix) → May y → ⊥) → AreChoices May []
choices-none May none = record { in_order = order-nil; each = λ y. (λ at. absurd (none-in at), λ may. absurd (none y may)) }

-- ---- keyed lists

-- what an item with a key passes
pub record Passes {X : Type 0} (key : X → Fix) (test : X → Bool) (xs : List X) (y : Fix) : Type 0 where
  pub item : X
  pub at : Contains xs item
  pub key_is : key item ≡ y
  pub passes : test item ≡ true

pub keyed-in : {X : Type 0} (key : X → Fix) (xs : List X) (y : Fix) → Contains (map key xs) y → (x : X) × Contains xs x × (key x ≡ y)
keyed-in key [] y at = absurd (none-in at)
keyed-in key (x ∷ xs) y at = ⊎_elim
    (λ e. (x, here-in x xs, e))
    (λ later. let r = keyed-in key xs y later in (r.0, later-in x xs r.0 r.1, r.2))
    (either-in (key x) (map key xs) y at)

pub in-keyed : {X : Type 0} (key : X → Fix) (xs : List X) (x : X) → Contains xs x → Contains (map key xs) (key x)
in-keyed key [] x at = absurd (none-in at)
in-keyed key (z ∷ xs) x at = ⊎_elim
    (λ e. subst (λ (w : Fix). Contains (map key (z ∷ xs)) w) (ap key e) (here-in (key z) (map key xs)))
    (λ later. later-in (key z) (map key xs) (key x) (in-keyed key xs x later))
    (either-in z xs x at)

-- what stays of a list stands in it
pub kept-from : {X : Type 0} (test : X → Bool) (xs : List X) (x : X) → Contains (filter test xs) x → Contains xs x × (test x ≡ true)
kept-from test [] x at = absurd (none-in at)
kept-from {X} test (z ∷ xs) x at = by (test z) refl (λ later. kept-from test xs x later) at
  where
    by : (b : Bool) → test z ≡ b → (Contains (filter test xs) x → Contains xs x × (test x ≡ true)) → Contains (cond b (z ∷ filter test xs) (filter test xs)) x → Contains (z ∷ xs) x × (test x ≡ true)
    by true e rest inside = ⊎_elim
        (λ q. (subst (Contains (z ∷ xs)) q (here-in z xs), subst (λ (w : X). test w ≡ true) q e))
        (λ later. let r = rest later in (later-in z xs x r.0, r.1))
        (either-in z (filter test xs) x inside)
    by false e rest inside = let r = rest inside in (later-in z xs x r.0, r.1)

pub kept-of : {X : Type 0} (test : X → Bool) (xs : List X) (x : X) → Contains xs x → test x ≡ true → Contains (filter test xs) x
kept-of test [] x at pass = absurd (none-in at)
kept-of {X} test (z ∷ xs) x at pass = by (test z) refl (λ later. kept-of test xs x later pass)
  where
    by : (b : Bool) → test z ≡ b → (Contains xs x → Contains (filter test xs) x) → Contains (cond b (z ∷ filter test xs) (filter test xs)) x
    by true e rest = ⊎_elim
        (λ q. subst (Contains (z ∷ filter test xs)) q (here-in z (filter test xs)))
        (λ later. later-in z (filter test xs) x (rest later))
        (either-in z xs x at)
    by false e rest = ⊎_elim
        (λ q. absurd (true≢false (sym pass ∙ ap test (sym q) ∙ e)))
        (λ later. rest later)
        (either-in z xs x at)

order-kept : {X : Type 0} (key : X → Fix) (test : X → Bool) (xs : List X) → InOrder (map key xs) → InOrder (map key (filter test xs))
order-kept key test [] h = order-nil
order-kept {X} key test (z ∷ xs) h = by (test z) (order-kept key test xs (rest-order (key z) (map key xs) h))
  where
    by : (b : Bool) → InOrder (map key (filter test xs)) → InOrder (map key (cond b (z ∷ filter test xs) (filter test xs)))
    by true r = order-cons (key z) (map key (filter test xs))
        (λ y at. let q = keyed-in key (filter test xs) y at in let inside = (kept-from test xs q.0 q.1).0 in head-first (key z) (map key xs) h y (subst (Contains (map key xs)) q.2 (in-keyed key xs q.0 inside))) r
    by false r = r

-- a list sifted by a test of its items
pub choices-kept : {X : Type 0} (key : X → Fix) (test : X → Bool) (May : Fix → Type 0) (xs : List X) → AreChoices May (map key xs) → AreChoices (Passes key test xs) (map key (filter test xs))
choices-kept key test May xs c = record {
  in_order = order-kept key test xs c.in_order;
  each = λ y. (
    λ at. let q = keyed-in key (filter test xs) y at in let k = kept-from test xs q.0 q.1 in record { item = q.0; at = k.0; key_is = q.2; passes = k.1 },
    λ p. subst (Contains (map key (filter test xs))) p.key_is (in-keyed key (filter test xs) p.item (kept-of test xs p.item p.at p.passes)),
  );
}

-- ---- how many

apart : (x : Fix) (xs : List Fix) → ((y : Fix) → Contains xs y → comes_first x y ≡ true) → AllByRecursion (λ y. same x y ≡ false) xs
apart x [] h = tt
apart x (z ∷ xs) h = (
  ⊎_elim (λ yes. absurd (not-before x z (h z (here-in z xs)) (same-is x z yes))) (λ no_same. no_same) (cases_Bool (same x z)),
  apart x xs (λ y at. h y (later-in z xs y at)),
)

order-distinct : (xs : List Fix) → InOrder xs → IsDistinct same xs
unfolding IsDistinct
order-distinct [] h = tt
order-distinct (x ∷ xs) h = (apart x xs (λ y at. head-first x xs h y at), order-distinct xs (rest-order x xs h))

-- a list in order is no longer than one that holds its nodes
pub order-short : (xs ys : List Fix) → InOrder xs → ((y : Fix) → Contains xs y → Contains ys y) → length xs ≤ length ys
order-short xs ys h inside = length-le_from_is_member same-laws xs ys (order-distinct xs h)
    (λ x m. member x ys (inside x (from-member x xs m)))
  where
    from-member : (x : Fix) (zs : List Fix) → list_any (same x) zs ≡ true → Contains zs x
    from-member x [] m = absurd (true≢false (sym m))
    from-member x (z ∷ zs) m = ⊎_elim
        (λ yes. subst (Contains (z ∷ zs)) (sym (same-is x z yes)) (here-in z zs))
        (λ no_same. later-in z zs x (from-member x zs (sym (ap (λ (b : Bool). b || list_any (same x) zs) no_same) ∙ m)))
        (cases_Bool (same x z))
