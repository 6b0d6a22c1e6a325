-- The front of an array of zeros.
use Rattle.std.proofs.Common.{◌≡◌, ◌∙◌, ℕ, zero, suc, ◌≤◌, List, length, replicate, take, ℤ, pos, ap, refl}
use Rattle.std.proofs.lemmas.List.{length-replicate, take-replicate}
use Rattle.sg_model.specs.Sums.{nth}

pub room-long : (m n count : ℕ) → n ≤ m → n ≡ count → length (take n (replicate m (pos 0))) ≡ count
room-long m n count h e = ap (λ (xs : List ℤ). length xs) (take-replicate n m (pos 0) h) ∙ length-replicate n (pos 0) ∙ e

zeros : (n t : ℕ) → nth (replicate n (pos 0)) t (pos 0) ≡ pos 0
zeros n zero = refl
zeros zero (suc k) = refl
zeros (suc n) (suc zero) = refl
zeros (suc n) (suc (suc k)) = zeros n (suc k)

pub room-zero : (m n t : ℕ) → n ≤ m → nth (take n (replicate m (pos 0))) t (pos 0) ≡ pos 0
room-zero m n t h = ap (λ (xs : List ℤ). nth xs t (pos 0)) (take-replicate n m (pos 0) h) ∙ zeros n t
