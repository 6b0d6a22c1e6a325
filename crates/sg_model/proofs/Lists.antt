-- Lists laid end to end.
use Rattle.std.proofs.Common.{◌≡◌, ℕ, ◌*◌, List, [], ◌∷◌, length, arith, length-append, flat_map}
use Rattle.std.specs.List.{All}
use Rattle.std.proofs.lemmas.List.Elements.{All-nil, All-append, All-head, All-tail}

pub All-flat_map : {X Y : Type 0} (P : Y → Type 0) (h : X → List Y) (xs : List X) → All (λ x. All P (h x)) xs → All P (flat_map h xs)
All-flat_map P h [] all = All-nil P
All-flat_map P h (x ∷ xs) all = All-append P (h x) (flat_map h xs) (All-head (λ x. All P (h x)) x xs all) (All-flat_map P h xs (All-tail (λ x. All P (h x)) x xs all))

pub length-flat_map-same : {X Y : Type 0} (f : X → List Y) (n : ℕ) → ((x : X) → length (f x) ≡ n) → (xs : List X) → length (flat_map f xs) ≡ length xs * n
length-flat_map-same f n each [] = omega arith
length-flat_map-same f n each (x ∷ xs) = omega (arith, length-append (f x) (flat_map f xs), each x, length-flat_map-same f n each xs)
