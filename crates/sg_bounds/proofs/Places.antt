-- Items of a list by their places, and what holds of each of two lists.
use Rattle.std.proofs.Common.{◌≡◌, ℕ, zero, suc, ◌+◌, ◌≤◌, List, [], ◌∷◌, ◌++◌, refl, arith}
use Rattle.std.specs.List.{All}
use Rattle.std.proofs.lemmas.List.Elements.{All-nil, All-cons, All-head, All-tail}
use Rattle.sg_model.specs.Sums.{nth}

pub nth-next : {X : Type 0} (x : X) (xs : List X) (n m : ℕ) (d : X) → n ≡ m + 1 → 1 ≤ m → nth (x ∷ xs) n d ≡ nth xs m d
nth-next x xs n zero d e low = absurd (omega arith)
nth-next x xs n (suc m) d e low = let f : n ≡ suc (suc m) = omega (arith, e) in rw f refl

pub nth-first : {X : Type 0} (x : X) (xs : List X) (n : ℕ) (d : X) → n ≡ 1 → nth (x ∷ xs) n d ≡ x
nth-first x xs n d e = rw e refl

pub All-left : {X : Type 0} (P : X → Type 0) (xs ys : List X) → All P (xs ++ ys) → All P xs
All-left P [] ys h = All-nil P
All-left P (x ∷ xs) ys h = All-cons P x xs (All-head P x (xs ++ ys) h) (All-left P xs ys (All-tail P x (xs ++ ys) h))

pub All-right : {X : Type 0} (P : X → Type 0) (xs ys : List X) → All P (xs ++ ys) → All P ys
All-right P [] ys h = h
All-right P (x ∷ xs) ys h = All-right P xs ys (All-tail P x (xs ++ ys) h)
