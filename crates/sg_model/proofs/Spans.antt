-- Numbers from -m to m: products and sums of them, factors, and sums that stay within a room.
use Rattle.std.proofs.Common.{◌≡◌, ℕ, ◌*◌, ◌<◌, ◌^◌, List, [], ◌∷◌, length, ℤ, pos, ◌+ℤ◌, ◌-ℤ◌, ◌*ℤ◌, ◌≤ℤ◌, arith}
use Rattle.std.specs.Prelude.{FitsSigned}
use Rattle.std.specs.Int.{w128}
use Rattle.std.specs.List.{All}
use Rattle.std.proofs.lemmas.Int.{ints}
use Rattle.std.proofs.lemmas.List.Elements.{All-head, All-tail}
use Rattle.sg_model.specs.Limits.{IsPay}
use Rattle.sg_model.specs.Sums.{total}
use Rattle.sg_model.proofs.Ints.{v, n, plus, less, times, same_by, le_by, le_from, mul-le, cancel-le, product_nonneg, factor_positive}

-- z lies from -m to m
pub record Within (m z : ℤ) : Type 0 where
  pub low : (pos 0 -ℤ m) ≤ℤ z
  pub high : z ≤ℤ m

abbrev pub Spans : ℕ → ℤ → Type 0
Spans m z = Within (pos m) z

pub pay-within : (p : ℤ) → IsPay p → Spans (2 ^ 30) p
pay-within p h = record { low = h.at_least; high = h.at_most }

pub fits_span : (m : ℕ) (z : ℤ) → m < 2 ^ 127 → Spans m z → FitsSigned w128 z
fits_span m z h s = omega (arith, ints, s.low, s.high)

pub spans_product : (m k : ℕ) (a b : ℤ) → Spans m a → Spans k b → Spans (m * k) (a *ℤ b)
spans_product m k a b p q =
    let x = v a in let y = v b in
    let f = product_nonneg (pos m -ℤ a) (pos k -ℤ b) (omega (arith, ints, p.high)) (omega (arith, ints, q.high)) in
    let g = product_nonneg (pos m +ℤ a) (pos k +ℤ b) (omega (arith, ints, p.low)) (omega (arith, ints, q.low)) in
    let h = product_nonneg (pos m -ℤ a) (pos k +ℤ b) (omega (arith, ints, p.high)) (omega (arith, ints, q.low)) in
    let i = product_nonneg (pos m +ℤ a) (pos k -ℤ b) (omega (arith, ints, p.low)) (omega (arith, ints, q.high)) in
    record {
      low = le_by (less (n 0) (n (m * k))) (times x y) (omega (arith, le_from (n 0) (times (less (n m) x) (less (n k) y)) f, le_from (n 0) (times (plus (n m) x) (plus (n k) y)) g));
      high = le_by (times x y) (n (m * k)) (omega (arith, le_from (n 0) (times (less (n m) x) (plus (n k) y)) h, le_from (n 0) (times (plus (n m) x) (less (n k) y)) i));
    }

pub spans_total : {X : Type 0} (f : X → ℤ) (m : ℕ) (xs : List X) → All (λ x. Spans m (f x)) xs → Spans (length xs * m) (total f xs)
spans_total f m [] h = record { low = omega (arith, ints); high = omega (arith, ints) }
spans_total f m (x ∷ xs) h =
    let first = All-head (λ x. Spans m (f x)) x xs h in
    let rest = spans_total f m xs (All-tail (λ x. Spans m (f x)) x xs h) in
    record { low = omega (arith, ints, first.low, rest.low); high = omega (arith, ints, first.high, rest.high) }

-- a factor is within what the product is within
pub spans_factor : (m : ℕ) (z x by : ℤ) → z ≡ x *ℤ by → pos 1 ≤ℤ by → Spans m z → Spans m x
spans_factor m z x by e h w =
    let most = mul-le (pos 1) by (pos m) h (omega (arith, ints)) in
    let least : (pos 0 -ℤ pos m) *ℤ by ≡ pos 0 -ℤ by *ℤ pos m = same_by (times (less (n 0) (n m)) (v by)) (less (n 0) (times (v by) (n m))) (omega arith) in
    let whole : pos 1 *ℤ pos m ≡ pos m = same_by (times (n 1) (n m)) (n m) (omega arith) in
    let turn : pos m *ℤ by ≡ by *ℤ pos m = same_by (times (n m) (v by)) (times (v by) (n m)) (omega arith) in
    record {
      low = cancel-le (pos 0 -ℤ pos m) x by (omega (arith, ints, w.low, e, most, least, whole)) h;
      high = cancel-le x (pos m) by (omega (arith, ints, w.high, e, most, turn, whole)) h;
    }

-- the quotient of a scale by a gap that divides it
pub multiple_bounds : (m gap scale : ℤ) (most : ℕ) → m *ℤ gap ≡ scale → pos 1 ≤ℤ gap → pos 1 ≤ℤ scale → scale ≤ℤ pos most → (pos 1 ≤ℤ m) × (m ≤ℤ pos most)
multiple_bounds m gap scale most e g s h =
    let low = factor_positive m gap scale e s (omega (arith, ints)) in
    let p = product_nonneg m (gap -ℤ pos 1) (omega (arith, ints)) (omega (arith, ints)) in
    let q : m ≤ℤ (m *ℤ gap) = le_by (v m) (times (v m) (v gap)) (omega (arith, le_from (n 0) (times (v m) (less (v gap) (n 1))) p)) in
    (low, omega (arith, ints, q, e))

-- a product with what is within m is within as many times m
pub product-within : (w m z : ℤ) → pos 0 ≤ℤ w → Within m z → Within (w *ℤ m) (w *ℤ z)
product-within w m z h b =
    let turn : (y : ℤ) → y *ℤ w ≡ w *ℤ y = λ y. same_by (times (v y) (v w)) (times (v w) (v y)) (omega arith) in
    let least : (pos 0 -ℤ m) *ℤ w ≡ pos 0 -ℤ w *ℤ m = same_by (times (less (n 0) (v m)) (v w)) (less (n 0) (times (v w) (v m))) (omega arith) in
    record {
      low = omega (arith, ints, mul-le (pos 0 -ℤ m) z w b.low h, least, turn z);
      high = omega (arith, ints, mul-le z m w b.high h, turn z, turn m);
    }

-- one term more: what is left of the room is enough for the others
pub room : (acc term t rest : ℤ) → Within t term → pos 0 ≤ℤ t → pos 0 ≤ℤ rest → Within (pos (2 ^ 126) -ℤ (t +ℤ rest)) acc
    → Spans (2 ^ 126) term × Spans (2 ^ 126) (acc +ℤ term) × Within (pos (2 ^ 126) -ℤ rest) (acc +ℤ term)
room acc term t rest p some more b = (
  record { low = omega (arith, ints, p.low, b.low, b.high); high = omega (arith, ints, p.high, b.low, b.high) },
  record { low = omega (arith, ints, p.low, b.low, b.high); high = omega (arith, ints, p.high, b.low, b.high) },
  record { low = omega (arith, ints, p.low, b.low); high = omega (arith, ints, p.high, b.high) },
)
