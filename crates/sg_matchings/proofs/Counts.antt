-- How often a number stands in a list.
use Rattle.std.proofs.Common.{◌≡◌, ℕ, ◌<◌, List, length, cond, eqb, get_or, set, arith, ap, get_or-set_same, get_or-set_other}
use Rattle.std.specs.Prelude.{ℤ, pos, ◌+ℤ◌}
use Rattle.std.proofs.Math.ListN.{length-set}
use Rattle.std.proofs.lemmas.Int.{ints}
use Rattle.sg_linear.specs.Sums.{sum_below}
use Rattle.sg_matchings.specs.Sums.{occurrences}
use Rattle.sg_matchings.proofs.Places.{sum_below-but}

abbrev pub hit : ℕ → ℕ → ℤ
hit y x = cond (eqb y x) (pos 1) (pos 0)

-- one place written anew
pub occurrences-set : (xs : List ℕ) (k v x : ℕ) → k < length xs → occurrences x (set xs k v) +ℤ hit (get_or xs k 0) x ≡ occurrences x xs +ℤ hit v x
occurrences-set xs k v x lt =
    let long : length (set xs k v) ≡ length xs = length-set xs k v in
    let but = sum_below-but (length xs) k (λ i. hit (get_or (set xs k v) i 0) x) (λ i. hit (get_or xs i 0) x) lt (λ i l ne. ap (λ (y : ℕ). hit y x) (get_or-set_other xs k i v 0 ne)) in
    let there : hit (get_or (set xs k v) k 0) x ≡ hit v x = ap (λ (y : ℕ). hit y x) (get_or-set_same xs k v 0 lt) in
    let sums : occurrences x (set xs k v) ≡ sum_below (length xs) (λ i. hit (get_or (set xs k v) i 0) x) = ap (λ (n : ℕ). sum_below n (λ i. hit (get_or (set xs k v) i 0) x)) long in
    omega (arith, ints, but, there, sums)
