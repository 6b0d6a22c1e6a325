-- Counting the tickets that pass a test.
use Rattle.std.proofs.Common.{◌≡◌, ℕ, ◌+◌, ◌<◌, Bool, true, false, cond, List, ◌∷◌, drop, length, ℤ, pos, ◌+ℤ◌, ◌≤ℤ◌, ap, arith, slice_index_or}
use Rattle.std.proofs.lemmas.Int.{ints}
use Rattle.std.proofs.lemmas.List.{drop_more}
use Rattle.std.proofs.lemmas.List.Elements.{All-drop}
use Rattle.sg_model.specs.declared.ticket.Ticket.{Ticket}
use Rattle.sg_model.specs.Commitments.{weight_total}
use Rattle.sg_model.specs.Sums.{total}
use Rattle.sg_model.proofs.Covers.{ArePositive, weight_total-nonneg}

-- the weight of a ticket where it counts
pub counts : Bool → ℤ → ℤ
counts b w = cond b w (pos 0)

pub counts-range : (b : Bool) (w : ℤ) → pos 0 ≤ℤ w → (pos 0 ≤ℤ cond b w (pos 0)) × (cond b w (pos 0) ≤ℤ w)
counts-range true w h = (h, omega (arith, ints))
counts-range false w h = (omega (arith, ints), h)

-- the weights of those that pass
abbrev pub weight_of : (Ticket → Bool) → List Ticket → ℤ
weight_of p k = total (λ (x : Ticket). cond (p x) x.weight (pos 0)) k

-- what is counted of the tickets from place i on
pub record Counted (p : Ticket → Bool) (k : List Ticket) (i : ℕ) (one count : ℤ) : Type 0 where
  pub whole : weight_of p k ≡ (count +ℤ one) +ℤ weight_of p (drop (i + 1) k)
  pub low : pos 0 ≤ℤ (count +ℤ one)
  pub high : ((count +ℤ one) +ℤ weight_total (drop (i + 1) k)) ≤ℤ weight_total k
  pub within : (count +ℤ one) ≤ℤ weight_total k

pub counted_more : (p : Ticket → Bool) (k : List Ticket) (i : ℕ) (d : Ticket) (one count : ℤ) → i < length k → ArePositive k
    → one ≡ cond (p (slice_index_or k i d)) (slice_index_or k i d).weight (pos 0)
    → weight_of p k ≡ count +ℤ weight_of p (drop i k) → pos 0 ≤ℤ count → (count +ℤ weight_total (drop i k)) ≤ℤ weight_total k → Counted p k i one count
counted_more p k i d one count lt positive is whole low high =
    let a : weight_of p (drop i k) ≡ weight_of p (slice_index_or k i d ∷ drop (i + 1) k) = ap (weight_of p) (drop_more k i d lt) in
    let b : weight_total (drop i k) ≡ weight_total (slice_index_or k i d ∷ drop (i + 1) k) = ap weight_total (drop_more k i d lt) in
    let w : pos 0 ≤ℤ (slice_index_or k i d).weight = omega (arith, ints, positive i d lt) in
    let r = counts-range (p (slice_index_or k i d)) (slice_index_or k i d).weight w in
    let rest = weight_total-nonneg (drop (i + 1) k) (All-drop (λ (x : Ticket). pos 1 ≤ℤ x.weight) (i + 1) k positive) in
    record {
      whole = omega (arith, ints, whole, a, is);
      low = omega (arith, ints, low, is, r.0);
      high = omega (arith, ints, high, b, is, r.1);
      within = omega (arith, ints, high, b, is, r.1, rest);
    }
