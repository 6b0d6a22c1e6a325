-- Weights in lowest terms, and the divisor of all weights.
use Rattle.std.proofs.Common.{◌≡◌, ℕ, ◌+◌, ◌<◌, List, length, get_or, take, subst, sym, arith}
use Rattle.std.specs.List.{All}
use Rattle.std.specs.Int.{◌∣◌, IsGcd}
use Rattle.std.specs.Int.RustNames.{unsigned_abs}
use Rattle.std.proofs.Math.Nat.{eq-one_of_dvd-one}
use Rattle.std.proofs.lemmas.List.{get_or-take, length-take, take-take}
use Rattle.std.proofs.lemmas.List.Elements.{All-more, All-take, All-weaker}
use Rattle.std.proofs.lemmas.Nat.Gcd.{dvd_trans}
use Rattle.sg_model.specs.declared.ticket.Ticket.{Ticket}
use Rattle.sg_model.specs.Commitments.{AreLowest}

abbrev pub DividesAll : ℕ → List Ticket → Type 0
DividesAll d k = All (λ (x : Ticket). d ∣ unsigned_abs x.weight) k

pub divided_by : (k : List Ticket) (d : ℕ) → AreLowest k → DividesAll d k → d ≡ 1
divided_by k d low h = low d h

pub lowest_by : (k : List Ticket) (d : ℕ) → d ≡ 1 → ((b : ℕ) → DividesAll b k → b ∣ d) → AreLowest k
lowest_by k d e h b all = eq-one_of_dvd-one (subst (λ (n : ℕ). b ∣ n) e (h b all))

-- what divides the weights so far, and the next one
pub record DividesSoFar (d : ℕ) (k : List Ticket) : Type 0 where
  pub divides : DividesAll d k
  pub greatest : (b : ℕ) → DividesAll b k → b ∣ d

before : (k : List Ticket) (i b : ℕ) → DividesAll b (take (i + 1) k) → DividesAll b (take i k)
before k i b all =
    subst (DividesAll b) (take-take i (i + 1) k (omega arith)) (All-take (λ (y : Ticket). b ∣ unsigned_abs y.weight) i (take (i + 1) k) all)

last : (k : List Ticket) (i : ℕ) (x : Ticket) (b : ℕ) → i < length k → DividesAll b (take (i + 1) k) → b ∣ unsigned_abs (get_or k i x).weight
last k i x b lt all =
    subst (λ (y : Ticket). b ∣ unsigned_abs y.weight) (get_or-take (i + 1) k i x (omega arith)) (all i x (omega (arith, length-take (i + 1) k)))

pub divides-more : (k : List Ticket) (i : ℕ) (x : Ticket) (d e w : ℕ) → i < length k → x ≡ get_or k i x → w ≡ unsigned_abs x.weight → IsGcd d w e
    → DividesSoFar d (take i k) → DividesSoFar e (take (i + 1) k)
divides-more k i x d e w lt is same gcd h =
    let here : get_or k i x ≡ x = sym is in
    let at : e ∣ unsigned_abs (get_or k i x).weight = subst (λ (y : Ticket). e ∣ unsigned_abs y.weight) is (subst (λ (n : ℕ). e ∣ n) same gcd.1) in
    record {
      divides = All-more (λ (y : Ticket). e ∣ unsigned_abs y.weight) k i x lt (All-weaker (λ (y : Ticket). d ∣ unsigned_abs y.weight) (λ (y : Ticket). e ∣ unsigned_abs y.weight) (λ y p. dvd_trans e gcd.0 p) (take i k) h.divides) at;
      greatest = λ b all. gcd.2 b (h.greatest b (before k i b all)) (subst (λ (n : ℕ). b ∣ n) (sym same) (subst (λ (y : Ticket). b ∣ unsigned_abs y.weight) here (last k i x b lt all)));
    }
