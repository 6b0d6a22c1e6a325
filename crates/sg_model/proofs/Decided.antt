-- Tests that decide: of numbers, lists, plays and columns.
use Rattle.std.proofs.Common.{◌≡◌, ℕ, zero, suc, ◌≤◌, Bool, true, false, true≢false, cond, not, ◌||◌, List, [], ◌∷◌, ℤ, ◌≤ℤ◌, sym, ◌∙◌, subst, refl, arith, nat_le, int_le, MatchBool, slice_index_or, inl, inr, ◌⊎◌}
use Rattle.std.specs.Bool.{Decides}
use Rattle.std.specs.List.{All, Contains, list_all, list_any}
use Rattle.std.proofs.lemmas.Int.{ints}
use Rattle.std.proofs.lemmas.Bool.Decides.{nat_tests, Decides-by_and, Decides-like, Decides-or}
use Rattle.std.proofs.lemmas.List.Elements.{All-contains}
use Rattle.sg_model.specs.Sums.{numbers}
use Rattle.sg_model.proofs.Greatest.{Contains-head, Contains-tail}
use Rattle.sg_model.proofs.Numbers.{All-numbers, All-numbers-at}

pub Decides-le : (a b : ℕ) → Decides (nat_le a b) (a ≤ b)
Decides-le a b = (λ e. grind (arith, nat_tests, e), λ h. grind (arith, nat_tests, h))

pub Decides-le_z : (a b : ℤ) → Decides (int_le a b) (a ≤ℤ b)
Decides-le_z a b = (λ e. omega (arith, ints, e), λ h. sym (omega (arith, ints, h)))

pub Decides-all : {X : Type 0} (p : X → Bool) (P : X → Type 0) → ((x : X) → Decides (p x) (P x)) → (xs : List X) → Decides (list_all p xs) (All P xs)
Decides-all p P each xs = Decides-by_and p P (list_all p) each refl (λ x xs. refl) xs

pub Decides-if : {P Q : Type 0} (b x y : Bool) → Decides x P → Decides y Q → Decides (cond b x y) (MatchBool b P Q)
Decides-if true x y d k = d
Decides-if false x y d k = k

pub Decides-iff : {Q : Type 0} (x y : Bool) → Decides y Q → Decides (cond x y (not y)) (((x ≡ true) → Q) × (Q → x ≡ true))
Decides-iff {Q} true y d = (λ e. (λ _. d.0 e, λ _. refl), λ h. d.1 (h.0 refl))
Decides-iff {Q} false true d = (λ e. absurd (true≢false (sym e)), λ h. absurd (true≢false (sym (h.1 (d.0 refl)))))
Decides-iff {Q} false false d = (λ e. (λ f. absurd (true≢false (sym f)), λ q. absurd (true≢false (sym (d.1 q)))), λ h. refl)

pub Decides-none : (b : Bool) → b ≡ false → Decides b ⊥
Decides-none b none = (λ e. true≢false (sym e ∙ none), λ h. absurd h)

-- an item of the list passes
pub Decides-any : {X : Type 0} (p : X → Bool) (P : X → Type 0) → ((x : X) → Decides (p x) (P x)) → (xs : List X) → Decides (list_any p xs) ((x : X) × Contains xs x × P x)
Decides-any p P each [] = (λ e. absurd (true≢false (sym e)), λ h. let c = h.1 in absurd (omega (arith, c.1)))
Decides-any p P each (x ∷ xs) = Decides-like (p x || list_any p xs) there back (Decides-or (p x) (list_any p xs) (each x) (Decides-any p P each xs))
  where
    there : P x ⊎ ((y : _) × Contains xs y × P y) → (y : _) × Contains (x ∷ xs) y × P y
    there (inl h) = (x, Contains-head x xs, h)
    there (inr h) = (h.0, Contains-tail x xs h.0 h.1, h.2)

    back : (y : _) × Contains (x ∷ xs) y × P y → P x ⊎ ((y : _) × Contains xs y × P y)
    back (y, (zero, lt, e), h) = inl (subst P (sym e) h)
    back (y, (suc i, lt, e), h) = inr (y, (i, omega arith, e), h)

-- each number from 1 to n
pub Decides-numbers : (p : ℕ → Bool) (P : ℕ → Type 0) → ((a : ℕ) → Decides (p a) (P a)) → (n : ℕ) → Decides (list_all p (numbers n)) ((a : ℕ) → 1 ≤ a → a ≤ n → P a)
Decides-numbers p P each n = Decides-like (list_all p (numbers n)) (λ all a low high. All-numbers-at P n all a low high) (λ h. All-numbers P n h) (Decides-all p P each (numbers n))

-- whatever has a property, where a list holds just what has it
pub Decides-listed : {X : Type 0} (Is : X → Type 0) (xs : List X) → All Is xs → ((x : X) → Is x → Contains xs x)
    → (p : X → Bool) (P : X → Type 0) → ((x : X) → Decides (p x) (P x)) → Decides (list_all p xs) ((x : X) → Is x → P x)
Decides-listed Is xs are inside p P each = Decides-like (list_all p xs) (λ all x is. All-contains P xs x all (inside x is)) (λ h i d lt. h (slice_index_or xs i d) (are i d lt)) (Decides-all p P each xs)
