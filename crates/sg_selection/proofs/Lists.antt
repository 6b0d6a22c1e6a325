-- Places and members of lists, the least of a list, and lists of rising numbers.
use Rattle.std.proofs.Common.{◌≡◌, ◌⊎◌, ℕ, zero, suc, ◌<◌, ◌≤◌, List, [], ◌∷◌, length, get_or, Some, None, sym, ◌∙◌, ap, ap₂, subst, refl, arith, inl, inr, ⊎_elim, Contains, AllPairs}
use Rattle.std.specs.Prelude.{slice_get}
use Rattle.sg_search.proofs.Listing.{either-in, here-in, later-in, none-in}

none-some : {X : Type 0} {x : X} → None ≡ Some x → ⊥
none-some h = cc

some-one : {X : Type 0} {x y : X} → Some x ≡ Some y → x ≡ y
some-one h = cc

-- the item at a place that is there
pub at-place : {X : Type 0} (xs : List X) (n : ℕ) (d : X) → n < length xs → slice_get xs n ≡ Some (get_or xs n d)
at-place [] n d lt = absurd (omega (arith, lt))
at-place (x ∷ xs) zero d lt = refl
at-place (x ∷ xs) (suc n) d lt = at-place xs n d (omega (arith, lt))

pub place-below : {X : Type 0} (xs : List X) (n : ℕ) (x : X) → slice_get xs n ≡ Some x → n < length xs
place-below [] n x e = absurd (none-some e)
place-below (z ∷ xs) zero x e = omega arith
place-below (z ∷ xs) (suc n) x e = let r = place-below xs n x e in omega (arith, r)

pub place-one : {X : Type 0} (xs : List X) (n : ℕ) (x y : X) → slice_get xs n ≡ Some x → slice_get xs n ≡ Some y → x ≡ y
place-one xs n x y e f = some-one (sym e ∙ f)

pub le-or-above : (a b : ℕ) → (a ≤ b) ⊎ (b < a)
le-or-above zero b = inl (omega arith)
le-or-above (suc a) zero = inr (omega arith)
le-or-above (suc a) (suc b) = ⊎_elim (λ h. inl (omega (arith, h))) (λ h. inr (omega (arith, h))) (le-or-above a b)

-- an item of which a number is least
pub least-of : {X : Type 0} (f : X → ℕ) (x : X) (xs : List X) → (y : X) × Contains (x ∷ xs) y × ((z : X) → Contains (x ∷ xs) z → f y ≤ f z)
least-of f x [] = (x, here-in x [], λ z at. ⊎_elim (λ e. let q : f x ≡ f z = ap f e in omega (arith, q)) (λ l. absurd (none-in l)) (either-in x [] z at))
least-of f x (w ∷ xs) =
    let r = least-of f w xs in
    ⊎_elim
    (λ low. (x, here-in x (w ∷ xs), λ z at. ⊎_elim (λ e. let q : f x ≡ f z = ap f e in omega (arith, q)) (λ l. let k = r.2 z l in omega (arith, k, low)) (either-in x (w ∷ xs) z at)))
    (λ high. (r.0, later-in x (w ∷ xs) r.0 r.1, λ z at. ⊎_elim (λ e. let q : f x ≡ f z = ap f e in omega (arith, q, high)) (λ l. r.2 z l) (either-in x (w ∷ xs) z at)))
    (le-or-above (f x) (f r.0))

-- ---- rising numbers

abbrev pub Rises : List ℕ → Type 0
Rises xs = AllPairs (λ (a b : ℕ). a < b) xs

rest-rises : (x : ℕ) (xs : List ℕ) → Rises (x ∷ xs) → Rises xs
rest-rises x xs h i j d low high = h (suc i) (suc j) d (omega (arith, low)) (omega (arith, high))

head-least : (x : ℕ) (xs : List ℕ) → Rises (x ∷ xs) → (y : ℕ) → Contains xs y → x < y
head-least x xs h y at = let lt = at.1 in subst (λ (z : ℕ). x < z) at.2 (h 0 (suc at.0) y (omega arith) (omega (arith, lt)))

heads-same : (a b : ℕ) (as1 bs : List ℕ) → Rises (a ∷ as1) → Rises (b ∷ bs) → Contains (b ∷ bs) a → Contains (a ∷ as1) b → a ≡ b
heads-same a b as1 bs h k in_b in_a = ⊎_elim
    (λ e. sym e)
    (λ later. ⊎_elim
    (λ e. e)
    (λ also. absurd (let one = head-least b bs k a later in let two = head-least a as1 h b also in omega (arith, one, two)))
    (either-in a as1 b in_a))
    (either-in b bs a in_b)

rest-in : (a b : ℕ) (as1 bs : List ℕ) → Rises (a ∷ as1) → a ≡ b → (y : ℕ) → Contains as1 y → Contains (b ∷ bs) y → Contains bs y
rest-in a b as1 bs h e y at in_b = ⊎_elim
    (λ q. absurd (let first = head-least a as1 h y at in omega (arith, e, q, first)))
    (λ inside. inside)
    (either-in b bs y in_b)

-- rising numbers with the same members are the same
pub rises-one : (as1 bs : List ℕ) → Rises as1 → Rises bs → ((y : ℕ) → Contains as1 y → Contains bs y) → ((y : ℕ) → Contains bs y → Contains as1 y) → as1 ≡ bs
rises-one [] [] h k f g = refl
rises-one [] (b ∷ bs) h k f g = absurd (none-in (g b (here-in b bs)))
rises-one (a ∷ as1) [] h k f g = absurd (none-in (f a (here-in a as1)))
rises-one (a ∷ as1) (b ∷ bs) h k f g =
    let e = heads-same a b as1 bs h k (f a (here-in a as1)) (g b (here-in b bs)) in
    let tails = rises-one as1 bs (rest-rises a as1 h) (rest-rises b bs k)
    (λ y at. rest-in a b as1 bs h e y at (f y (later-in a as1 y at)))
    (λ y at. rest-in b a bs as1 k (sym e) y at (g y (later-in b bs y at))) in
    ap₂ (λ (x : ℕ) (xs : List ℕ). x ∷ xs) e tails
