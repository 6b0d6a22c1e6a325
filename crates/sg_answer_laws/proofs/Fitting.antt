-- Numbers that fit 128 bits since others do.
use Rattle.std.proofs.Common.{List, [], ◌∷◌, ℤ, pos, ◌+ℤ◌, ◌*ℤ◌, ◌≤ℤ◌, refl, arith}
use Rattle.std.specs.List.{All}
use Rattle.std.proofs.lemmas.Int.{ints}
use Rattle.std.proofs.lemmas.List.Elements.{All-cons, All-head, All-nil, All-tail}
use Rattle.sg_model.proofs.Ints.{v, n, times, le_by, le_from, mul-le}
use Rattle.sg_num.specs.Exact.{Fits}
use Rattle.sg_bounds.specs.Sizes.{running}
use Rattle.sg_search.proofs.Fitting.{fits-between}

-- what lies from 0 to a number that fits
pub fits-below : (z top : ℤ) → pos 0 ≤ℤ z → z ≤ℤ top → Fits top → Fits z
fits-below z top low high fit = fits-between (pos 0) z top refl fit low high

-- a factor not below 0 of a product that fits, where the other is at least 1
pub factor-below : (a b : ℤ) → pos 0 ≤ℤ a → pos 1 ≤ℤ b → a ≤ℤ (a *ℤ b)
factor-below a b low one =
    let up = mul-le (pos 1) b a one low in
    le_by (v a) (times (v a) (v b)) (omega (arith, le_from (times (n 1) (v a)) (times (v b) (v a)) up))

-- numbers not below 0 whose running sums fit
pub each-fits : (z : ℤ) (xs : List ℤ) → pos 0 ≤ℤ z → All (λ x. pos 0 ≤ℤ x) xs → All Fits (running z xs) → All Fits xs
each-fits z [] low all fit = All-nil Fits
each-fits z (x ∷ xs) low all fit =
    let P : ℤ → Type 0 = λ x. pos 0 ≤ℤ x in
    let here = All-head P x xs all in
    let sums : List ℤ = running (z +ℤ x) xs in
    All-cons Fits x xs
    (fits-below x (z +ℤ x) here (omega (arith, ints, low)) (All-head Fits (z +ℤ x) sums fit))
    (each-fits (z +ℤ x) xs (omega (arith, ints, low, here)) (All-tail P x xs all) (All-tail Fits (z +ℤ x) sums fit))
