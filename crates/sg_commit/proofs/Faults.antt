-- What parts without a fault are: positive weights, whose sum fits.
use Rattle.std.proofs.Common.{◌≡◌, ◌≢◌, ℕ, ◌+◌, Bool, true, false, cond, List, [], ◌∷◌, ℤ, pos, ◌+ℤ◌, ◌≤ℤ◌, refl, arith}
use Rattle.std.specs.Prelude.{Option, Some, None, Result, Ok, Err, int_le}
use Rattle.std.proofs.lemmas.Int.{ints}
use Rattle.std.proofs.lemmas.List.Elements.{All-nil, All-cons}
use Rattle.sg_model.specs.declared.ticket.Ticket.{Ticket}
use Rattle.sg_model.specs.Commitments.{weight_total}
use Rattle.sg_num.specs.declared.step.Wide.{Wide}
use Rattle.sg_num.specs.Exact.{and_then, fits}
use Rattle.sg_commit.specs.Parts.{exact_total, fault_from, part_fault, first_below}
use Rattle.sg_model.proofs.Covers.{ArePositive}

none_below : (i : ℕ) (k : List Ticket) → first_below i k ≡ None → ArePositive k
none_below i [] e = All-nil (λ (x : Ticket). pos 1 ≤ℤ x.weight)
none_below i (x ∷ xs) e = elim (int_le (pos 1) x.weight) as (λ (b : Bool). int_le (pos 1) x.weight ≡ b → cond b (first_below (i + 1) xs) (Some i) ≡ None → ArePositive (x ∷ xs)) [
  | true ↦ (λ low rest. All-cons (λ (x : Ticket). pos 1 ≤ℤ x.weight) x xs (omega (arith, ints, low)) (none_below (i + 1) xs rest))
  | false ↦ (λ low none. cc)
] refl e

pub no_fault-some : (k : List Ticket) → part_fault k ≡ None → k ≢ []
no_fault-some [] e = cc
no_fault-some (x ∷ xs) e = λ q. cc

fault_from-none : (place : Option ℕ) (sum : Result ℤ Wide) → fault_from place sum ≡ None → place ≡ None
fault_from-none (Some i) sum e = cc
fault_from-none None sum e = refl

pub no_fault-positive : (k : List Ticket) → part_fault k ≡ None → ArePositive k
no_fault-positive [] e = All-nil (λ (x : Ticket). pos 1 ≤ℤ x.weight)
no_fault-positive (x ∷ xs) e = none_below 0 (x ∷ xs) (fault_from-none (first_below 0 (x ∷ xs)) (exact_total (pos 0) (x ∷ xs)) e)

-- the sum that is formed is the sum of the weights
pub exact_total-is : (acc : ℤ) (k : List Ticket) (t : ℤ) → exact_total acc k ≡ Ok t → t ≡ acc +ℤ weight_total k
exact_total-is acc [] t e = let q : acc ≡ t = cc in omega (arith, ints, q)
exact_total-is acc (x ∷ xs) t e = step (exact_total-is (acc +ℤ x.weight) xs t) (fits (acc +ℤ x.weight)) _ e
  where
    step : (exact_total (acc +ℤ x.weight) xs ≡ Ok t → t ≡ (acc +ℤ x.weight) +ℤ weight_total xs) → (b : Bool) (w : Wide) → and_then (cond b (Ok (acc +ℤ x.weight)) (Err w)) (λ next. exact_total next xs) ≡ Ok t → t ≡ acc +ℤ (x.weight +ℤ weight_total xs)
    step rest true w q = omega (arith, ints, rest q)
    step rest false w q = cc
