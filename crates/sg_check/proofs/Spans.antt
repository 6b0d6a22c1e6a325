-- Products, differences and sums in the code.
use Rattle.std.proofs.Common.{◌≡◌, ℕ, ◌*◌, ◌<◌, ◌≤◌, ◌^◌, ℤ, pos, ◌+ℤ◌, ◌-ℤ◌, ◌*ℤ◌, ◌≤ℤ◌, ap, sym, subst, ◌∙◌, to_z, of_z, arith}
use Rattle.std.specs.Prelude.{FitsSigned}
use Rattle.std.specs.Int.{w128}
use Rattle.std.proofs.lemmas.Int.{ints, to_z-of_z}
use Rattle.sg_model.specs.Limits.{IsPay, IsWithin}
use Rattle.sg_model.specs.Sums.{total}
use Rattle.sg_num.proofs.Signs.{mul-pos}
use Rattle.sg_game.specs.Tallies.{IsTicketCount}
use Rattle.sg_model.proofs.Spans.{Spans, fits_span, pay-within, spans_product}

-- a product in the code, of numbers read as they are
pub record IsMade (m k : ℕ) (a b a' b' : ℤ) : Type 0 where
  pub fits : FitsSigned w128 (a' *ℤ b')
  pub value : to_z w128 (of_z w128 (a' *ℤ b')) ≡ a *ℤ b
  pub spans : Spans (m * k) (a *ℤ b)

pub made : (m k : ℕ) (a b a' b' : ℤ) → a' ≡ a → b' ≡ b → Spans m a → Spans k b → m * k < 2 ^ 127 → IsMade m k a b a' b'
made m k a b a' b' e f p q h =
    let s = spans_product m k a b p q in
    let fit = fits_span (m * k) (a *ℤ b) h s in
    let same : a' *ℤ b' ≡ a *ℤ b = (λ i. e i *ℤ f i) in
    record { fits = subst (FitsSigned w128) (sym same) fit; value = ap (λ (z : ℤ). to_z w128 (of_z w128 z)) same ∙ to_z-of_z w128 (a *ℤ b) fit; spans = s }

-- a number in the code, read as it is
pub read : (m : ℕ) (z : ℤ) → m < 2 ^ 127 → Spans m z → to_z w128 (of_z w128 z) ≡ z
read m z h s = to_z-of_z w128 z (fits_span m z h s)

-- a difference and a sum in the code
pub made_less : (x y x' y' : ℤ) → x' ≡ x → y' ≡ y → FitsSigned w128 (x -ℤ y) → FitsSigned w128 (x' -ℤ y') × (to_z w128 (of_z w128 (x' -ℤ y')) ≡ x -ℤ y)
made_less x y x' y' e f fit =
    let same : x' -ℤ y' ≡ x -ℤ y = (λ i. e i -ℤ f i) in
    (subst (FitsSigned w128) (sym same) fit, ap (λ (z : ℤ). to_z w128 (of_z w128 z)) same ∙ to_z-of_z w128 (x -ℤ y) fit)

pub made_sum : (x y x' y' : ℤ) → x' ≡ x → y' ≡ y → FitsSigned w128 (x +ℤ y) → FitsSigned w128 (x' +ℤ y') × (to_z w128 (of_z w128 (x' +ℤ y')) ≡ x +ℤ y)
made_sum x y x' y' e f fit =
    let same : x' +ℤ y' ≡ x +ℤ y = (λ i. e i +ℤ f i) in
    (subst (FitsSigned w128) (sym same) fit, ap (λ (z : ℤ). to_z w128 (of_z w128 z)) same ∙ to_z-of_z w128 (x +ℤ y) fit)

-- how far a payoff is above a level, in the code
pub record IsExcess (u d z : ℤ) : Type 0 where
  pub fits : FitsSigned w128 (to_z w128 (of_z w128 (to_z w128 (of_z w128 u) *ℤ to_z w128 (of_z w128 d))) -ℤ to_z w128 (of_z w128 z))
  pub value : to_z w128 (of_z w128 (to_z w128 (of_z w128 (to_z w128 (of_z w128 u) *ℤ to_z w128 (of_z w128 d))) -ℤ to_z w128 (of_z w128 z))) ≡ u *ℤ d -ℤ z
  pub low : (pos 0 -ℤ pos (2 ^ 78)) ≤ℤ to_z w128 (of_z w128 (to_z w128 (of_z w128 (to_z w128 (of_z w128 u) *ℤ to_z w128 (of_z w128 d))) -ℤ to_z w128 (of_z w128 z)))
  pub high : to_z w128 (of_z w128 (to_z w128 (of_z w128 (to_z w128 (of_z w128 u) *ℤ to_z w128 (of_z w128 d))) -ℤ to_z w128 (of_z w128 z))) ≤ℤ pos (2 ^ 78)

pub excess_made : (u d z : ℤ) → IsPay u → IsWithin (pos 1) (pos (2 ^ 46)) d → IsWithin (pos 0 -ℤ pos (2 ^ 77)) (pos (2 ^ 77)) z → IsExcess u d z
excess_made u d z pay den num =
    let su = pay-within u pay in
    let sd : Spans (2 ^ 46) d = record { low = omega (arith, ints, den.at_least); high = den.at_most } in
    let sz : Spans (2 ^ 77) z = record { low = num.at_least; high = num.at_most } in
    let p = made (2 ^ 30) (2 ^ 46) u d _ _ (read (2 ^ 30) u (omega arith) su) (read (2 ^ 46) d (omega arith) sd) su sd (omega arith) in
    let r = made_less (u *ℤ d) z _ _ p.value (read (2 ^ 77) z (omega arith) sz) (omega (arith, ints, p.spans.low, p.spans.high, sz.low, sz.high)) in
    record {
      fits = r.0;
      value = r.1;
      low = omega (arith, ints, r.1, p.spans.low, sz.high);
      high = omega (arith, ints, r.1, p.spans.high, sz.low);
    }

-- both products of a part of the bound
pub part_made : (a b : ℤ) → IsPay a → pos 1 ≤ℤ b → b ≤ℤ pos (2 ^ 78) → IsMade (2 ^ 30) (2 ^ 78) a b (to_z w128 (of_z w128 a)) (to_z w128 (of_z w128 b))
part_made a b pay low high =
    let sa = pay-within a pay in
    let sb : Spans (2 ^ 78) b = record { low = omega (arith, ints, low); high = high } in
    made (2 ^ 30) (2 ^ 78) a b _ _ (read (2 ^ 30) a (omega arith) sa) (read (2 ^ 78) b (omega arith) sb) sa sb (omega arith)

pub gain_made : (a b : ℤ) → IsWithin (pos 1) (pos (2 ^ 31)) a → pos 0 ≤ℤ b → b ≤ℤ pos (2 ^ 86) → IsMade (2 ^ 31) (2 ^ 86) a b (to_z w128 (of_z w128 a)) (to_z w128 (of_z w128 b))
gain_made a b range low high =
    let sa : Spans (2 ^ 31) a = record { low = omega (arith, ints, range.at_least); high = range.at_most } in
    let sb : Spans (2 ^ 86) b = record { low = omega (arith, ints, low); high = high } in
    made (2 ^ 31) (2 ^ 86) a b _ _ (read (2 ^ 31) a (omega arith) sa) (read (2 ^ 86) b (omega arith) sb) sa sb (omega arith)

-- what the patrols have
pub record IsHave (p d s : ℤ) : Type 0 where
  pub fits : FitsSigned w128 (to_z w128 (of_z w128 (to_z w128 (of_z w128 p) *ℤ to_z w128 (of_z w128 d))) *ℤ to_z w128 (of_z w128 s))
  pub value : to_z w128 (of_z w128 (to_z w128 (of_z w128 (to_z w128 (of_z w128 p) *ℤ to_z w128 (of_z w128 d))) *ℤ to_z w128 (of_z w128 s))) ≡ (p *ℤ d) *ℤ s

pub have_made : (p d s : ℤ) (patrols : ℕ) (scale : ℤ) → p ≡ pos patrols → s ≡ scale → patrols ≤ 200 → IsWithin (pos 1) (pos (2 ^ 46)) d → IsWithin (pos 1) (pos (2 ^ 32)) scale → IsHave p d s
have_made p d s patrols scale e f few den range =
    let sp : Spans 200 p = record { low = omega (arith, ints, e); high = omega (arith, ints, e, few) } in
    let sd : Spans (2 ^ 46) d = record { low = omega (arith, ints, den.at_least); high = den.at_most } in
    let ss : Spans (2 ^ 32) s = record { low = omega (arith, ints, f, range.at_least); high = omega (arith, ints, f, range.at_most) } in
    let a = made 200 (2 ^ 46) p d _ _ (read 200 p (omega arith) sp) (read (2 ^ 46) d (omega arith) sd) sp sd (omega arith) in
    let b = made (200 * 2 ^ 46) (2 ^ 32) (p *ℤ d) s _ _ a.value (read (2 ^ 32) s (omega arith) ss) a.spans ss (omega arith) in
    record { fits = b.fits; value = b.value }

-- the denominator times the scale
pub record IsWhole (d s : ℤ) : Type 0 where
  pub low : pos 1 ≤ℤ to_z w128 (of_z w128 (to_z w128 (of_z w128 d) *ℤ to_z w128 (of_z w128 s)))
  pub high : to_z w128 (of_z w128 (to_z w128 (of_z w128 d) *ℤ to_z w128 (of_z w128 s))) ≤ℤ pos (2 ^ 78)

pub whole_made : (d s scale : ℤ) → s ≡ scale → IsWithin (pos 1) (pos (2 ^ 46)) d → IsWithin (pos 1) (pos (2 ^ 32)) scale → IsWhole d s
whole_made d s scale f den range =
    let sd : Spans (2 ^ 46) d = record { low = omega (arith, ints, den.at_least); high = den.at_most } in
    let ss : Spans (2 ^ 32) s = record { low = omega (arith, ints, f, range.at_least); high = omega (arith, ints, f, range.at_most) } in
    let a = made (2 ^ 46) (2 ^ 32) d s _ _ (read (2 ^ 46) d (omega arith) sd) (read (2 ^ 32) s (omega arith) ss) sd ss (omega arith) in
    let m = mul-pos d s (omega (arith, ints, den.at_least)) (omega (arith, ints, f, range.at_least)) in
    record { low = omega (arith, ints, a.value, m); high = omega (arith, ints, a.value, a.spans.high) }

-- the sum where so many of all tickets have more than the uncovered payoff
pub record IsMixed (total count outside more : ℤ) : Type 0 where
  pub all : FitsSigned w128 (to_z w128 (of_z w128 outside) *ℤ to_z w128 (of_z w128 total))
  pub some : FitsSigned w128 (to_z w128 (of_z w128 more) *ℤ to_z w128 (of_z w128 count))
  pub sum : FitsSigned w128 (to_z w128 (of_z w128 (to_z w128 (of_z w128 outside) *ℤ to_z w128 (of_z w128 total))) +ℤ to_z w128 (of_z w128 (to_z w128 (of_z w128 more) *ℤ to_z w128 (of_z w128 count))))
  pub value : to_z w128 (of_z w128 (to_z w128 (of_z w128 (to_z w128 (of_z w128 outside) *ℤ to_z w128 (of_z w128 total))) +ℤ to_z w128 (of_z w128 (to_z w128 (of_z w128 more) *ℤ to_z w128 (of_z w128 count))))) ≡ (outside *ℤ total) +ℤ (more *ℤ count)

pub mixed_made : (total count outside more : ℤ) → IsTicketCount total count → IsPay outside → Spans (2 ^ 31) more → IsMixed total count outside more
mixed_made total count outside more is pay sm =
    let st : Spans (2 ^ 95) total = record { low = omega (arith, ints, is.low, is.high); high = is.few } in
    let sc : Spans (2 ^ 95) count = record { low = omega (arith, ints, is.low); high = omega (arith, ints, is.high, is.few) } in
    let so = pay-within outside pay in
    let a = made (2 ^ 30) (2 ^ 95) outside total _ _ (read (2 ^ 30) outside (omega arith) so) (read (2 ^ 95) total (omega arith) st) so st (omega arith) in
    let b = made (2 ^ 31) (2 ^ 95) more count _ _ (read (2 ^ 31) more (omega arith) sm) (read (2 ^ 95) count (omega arith) sc) sm sc (omega arith) in
    let r = made_sum (outside *ℤ total) (more *ℤ count) _ _ a.value b.value (omega (arith, ints, a.spans.low, a.spans.high, b.spans.low, b.spans.high)) in
    record { all = a.fits; some = b.fits; sum = r.0; value = r.1 }
