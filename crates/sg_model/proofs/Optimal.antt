-- A commitment whose value is an upper bound is optimal.
use Rattle.std.proofs.Common.{◌≡◌, List, ℤ, ◌*ℤ◌, ap, arith}
use Rattle.std.proofs.lemmas.Int.{ints}
use Rattle.sg_model.specs.declared.ticket.Ticket.{Ticket}
use Rattle.sg_model.specs.Commitments.{IsCommitment, weight_total, worth}
use Rattle.sg_model.specs.Games.{Game, prior_total}
use Rattle.sg_model.specs.Optimality.{IsOptimal, IsUpperBound}
use Rattle.sg_model.proofs.Ints.{v, times, same_by, mul-le, cancel-le}
use Rattle.sg_model.proofs.Covers.{weight_total-positive}

pub optimal_at_bound : (g : Game) (k : List Ticket) → IsCommitment g k → (num den : ℤ) → IsUpperBound g num den
    → (worth g k *ℤ den) ≡ ((num *ℤ weight_total k) *ℤ prior_total g) → IsOptimal g k
optimal_at_bound g k is_k num den bound meets = λ other is_other.
    let d : ℤ = weight_total k in let e : ℤ = weight_total other in let p : ℤ = prior_total g in
    let w : ℤ = worth g k in let x : ℤ = worth g other in
    let positive = weight_total-positive k is_k.some is_k.positive in
    let a = mul-le (x *ℤ den) ((num *ℤ e) *ℤ p) d (bound.bounds other is_other) (omega (arith, ints, positive)) in
    let b : (w *ℤ den) *ℤ e ≡ ((num *ℤ d) *ℤ p) *ℤ e = ap (λ (z : ℤ). z *ℤ e) meets in
    let f : ((num *ℤ e) *ℤ p) *ℤ d ≡ ((num *ℤ d) *ℤ p) *ℤ e = same_by (times (times (times (v num) (v e)) (v p)) (v d)) (times (times (times (v num) (v d)) (v p)) (v e)) (omega arith) in
    let h : (x *ℤ den) *ℤ d ≡ (x *ℤ d) *ℤ den = same_by (times (times (v x) (v den)) (v d)) (times (times (v x) (v d)) (v den)) (omega arith) in
    let i : (w *ℤ den) *ℤ e ≡ (w *ℤ e) *ℤ den = same_by (times (times (v w) (v den)) (v e)) (times (times (v w) (v e)) (v den)) (omega arith) in
    cancel-le (x *ℤ d) (w *ℤ e) den (omega (arith, ints, a, b, f, h, i)) bound.positive
