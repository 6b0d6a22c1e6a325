-- When a total is the sum of positive weights, and when weights are in lowest terms.
use Rattle.std.proofs.Common.{◌≡◌, ◌↔◌, ◌^◌, ◌-◌, Bool, true, false, List, [], ◌∷◌, ℤ, pos, negsuc, ◌+ℤ◌, ◌≤ℤ◌, ap, sym, subst, ◌∙◌, arith}
use Rattle.std.specs.Prelude.{Result, Ok, Err, FitsSigned, IsTrue, unsigned_abs}
use Rattle.std.specs.Int.{w128, ◌∣◌}
use Rattle.std.proofs.Math.Nat.{one-dvd}
use Rattle.std.proofs.lemmas.Nat.Gcd.{dvd_antisymm}
use Rattle.std.proofs.lemmas.Int.{ints}
use Rattle.std.proofs.lemmas.List.Elements.{All-head, All-tail}
use Rattle.sg_model.specs.declared.ticket.Ticket.{Ticket}
use Rattle.sg_model.specs.Commitments.{weight_total, AreLowest}
use Rattle.sg_num.specs.declared.step.Wide.{Wide}
use Rattle.sg_num.specs.declared.step.Op.TheVariants.{Sum}
use Rattle.sg_num.specs.Exact.{and_then, exact_sum, fits}
use Rattle.sg_num.proofs.Steps.{exact-fits, fits-from_FitsSigned}
use Rattle.sg_commit.specs.Joining.{IsCommonDivisor}
use Rattle.sg_commit.specs.Parts.{exact_total}
use Rattle.sg_commit.specs.Rising.{AreShares}
use Rattle.sg_commit.proofs.Faults.{exact_total-is}
use Rattle.sg_model.proofs.Covers.{ArePositive, weight_total-nonneg}

sum_in : (z : ℤ) → pos 0 ≤ℤ z → z ≤ℤ pos (2 ^ 127 - 1) → IsTrue (fits z)
sum_in z h k = fits-from_FitsSigned z (let q : FitsSigned w128 z = omega (arith, ints, h, k) in q)

same_ok : (a b : ℤ) → a ≡ b → ◌≡◌ {A = Result ℤ Wide} (Ok a) (Ok b)
same_ok a b e = cc

-- weights whose sum fits are added without a step that doesn't
pub exact_total-fits : (acc : ℤ) (k : List Ticket) → pos 0 ≤ℤ acc → ArePositive k → (acc +ℤ weight_total k) ≤ℤ pos (2 ^ 127 - 1) → exact_total acc k ≡ Ok (acc +ℤ weight_total k)
exact_total-fits acc [] low h le = same_ok acc (acc +ℤ pos 0) (omega (arith, ints))
exact_total-fits acc (x ∷ xs) low h le =
    let here = All-head (λ (x : Ticket). pos 1 ≤ℤ x.weight) x xs h in
    let rest = All-tail (λ (x : Ticket). pos 1 ≤ℤ x.weight) x xs h in
    let more = weight_total-nonneg xs rest in
    let step : exact_sum acc x.weight ≡ Ok (acc +ℤ x.weight) = exact-fits Sum acc x.weight (sum_in (acc +ℤ x.weight) (omega (arith, ints, low, here)) (omega (arith, ints, le, more))) in
    let after = exact_total-fits (acc +ℤ x.weight) xs (omega (arith, ints, low, here)) rest (omega (arith, ints, le)) in
    ap (λ (r : Result ℤ Wide). and_then r (λ next. exact_total next xs)) step
    ∙ (after ∙ same_ok ((acc +ℤ x.weight) +ℤ weight_total xs) (acc +ℤ (x.weight +ℤ weight_total xs)) (omega (arith, ints)))

-- the sum is the total just where the total is the sum of the weights
pub sum_is : (k : List Ticket) (sum : ℤ) → Ok sum ≡ exact_total (pos 0) k → sum ≡ weight_total k
sum_is k sum e = omega (arith, ints, exact_total-is (pos 0) k sum (sym e))

-- a sum that doesn't fit is no total
pub not_sum : (k : List Ticket) (total : ℤ) (w : Wide) → ArePositive k → Err w ≡ exact_total (pos 0) k → total ≤ℤ pos (2 ^ 127 - 1) → total ≡ weight_total k → ⊥
not_sum k total w h e fits same =
    let q : ◌≡◌ {A = Result ℤ Wide} (Err w) (Ok (pos 0 +ℤ weight_total k)) = e ∙ exact_total-fits (pos 0) k (omega (arith, ints)) h (omega (arith, ints, fits, same)) in cc

-- weights are in lowest terms just where their greatest common divisor is 1
pub lowest_from : (k : List Ticket) (g : ℤ) → IsCommonDivisor k (unsigned_abs g) → g ≡ pos 1 → AreLowest k
lowest_from k g h e = λ d all.
    let one : d ∣ 1 = subst (λ (z : ℤ). d ∣ unsigned_abs z) e (h.greatest d all) in
    dvd_antisymm one (one-dvd d)

pub lowest_to : (k : List Ticket) (g : ℤ) → pos 1 ≤ℤ g → IsCommonDivisor k (unsigned_abs g) → AreLowest k → g ≡ pos 1
lowest_to k (pos n) low h l = ap pos (l n h.divides)
lowest_to k (negsuc n) low h l = absurd (omega (arith, ints, low))

pub shares_from : (k first second : List Ticket) (total : ℤ) (a b : Bool) → first ≡ k → second ≡ k → (IsTrue a ↔ (total ≡ weight_total first)) → a ≡ true → (IsTrue b ↔ AreLowest second) → b ≡ true → AreShares k total
shares_from k first second total a b e f s p l q = record { sum = s.0 p ∙ ap weight_total e; lowest = subst AreLowest f (l.0 q) }

pub no_sum : (k first : List Ticket) (total : ℤ) (a : Bool) → first ≡ k → (IsTrue a ↔ (total ≡ weight_total first)) → a ≡ false → AreShares k total → ⊥
no_sum k first total a e s p h = let t : a ≡ true = s.1 (h.sum ∙ ap weight_total (sym e)) in cc

pub not_lowest : (k second : List Ticket) (total : ℤ) (b : Bool) → second ≡ k → (IsTrue b ↔ AreLowest second) → b ≡ false → AreShares k total → ⊥
not_lowest k second total b f l q h = let t : b ≡ true = l.1 (subst AreLowest (sym f) h.lowest) in cc
