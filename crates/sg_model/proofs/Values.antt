-- Values of commitments against upper bounds, and of optimal ones.
use Rattle.std.proofs.Common.{◌≡◌, ◌≢◌, ℕ, ◌+◌, ◌-◌, List, [], ◌∷◌, length, ℤ, pos, ◌*ℤ◌, ◌≤ℤ◌, ap, ◌∙◌, refl, arith, slice_index_or}
use Rattle.std.specs.List.{All}
use Rattle.std.proofs.lemmas.Int.{ints}
use Rattle.std.proofs.lemmas.List.Elements.{All-weaker, All-head, All-tail}
use Rattle.sg_model.specs.declared.ticket.Ticket.{Ticket}
use Rattle.sg_model.specs.Sums.{total}
use Rattle.sg_model.specs.Games.{Attacker, Game, attacker, nobody, prior_total}
use Rattle.sg_model.specs.Payoffs.{IsPeopled}
use Rattle.sg_model.specs.Commitments.{IsCommitment, IsValue, weight_total, worth}
use Rattle.sg_model.specs.Optimality.{IsOptimal, IsUpperBound}
use Rattle.sg_model.proofs.Ints.{v, times, same_by, mul-le, cancel-le}
use Rattle.sg_model.proofs.Sums.{total-nonneg}
use Rattle.sg_model.proofs.Numbers.{nth-is}
use Rattle.sg_model.proofs.Covers.{weight_total-positive}
use Rattle.sg_model.proofs.Optimal.{optimal_at_bound}

total-positive : (xs : List Attacker) → xs ≢ [] → All (λ (x : Attacker). pos 1 ≤ℤ x.prior) xs → pos 1 ≤ℤ total (λ (x : Attacker). x.prior) xs
total-positive [] some h = absurd (some refl)
total-positive (x ∷ xs) some h =
    let One : Attacker → Type 0 = λ (x : Attacker). pos 1 ≤ℤ x.prior in
    let rest : pos 0 ≤ℤ total (λ (x : Attacker). x.prior) xs = total-nonneg (λ (x : Attacker). x.prior) xs (All-weaker One (λ (x : Attacker). pos 0 ≤ℤ x.prior) (λ x h. omega (arith, ints)) xs (All-tail One x xs h)) in
    omega (arith, ints, rest, All-head One x xs h)

-- the sum of the priors
pub prior_total-positive : (g : Game) → IsPeopled g → pos 1 ≤ℤ prior_total g
prior_total-positive g is =
    total-positive g.types (λ e. omega (arith, is.types, ap length e))
    (λ i d lt. let at : attacker g (i + 1) ≡ slice_index_or g.types (i + 1 - 1) d = nth-is g.types (i + 1) nobody d (omega arith) (omega arith) in
    let same : i + 1 - 1 ≡ i = omega arith in
    let this : (attacker g (i + 1)).prior ≡ (slice_index_or g.types i d).prior = ap (λ (x : Attacker). x.prior) at ∙ ap (λ (m : ℕ). (slice_index_or g.types m d).prior) same in
    omega (arith, ints, this, is.priors (i + 1) (omega arith) (omega arith)))

pub bound_above : (g : Game) → IsPeopled g → (num den : ℤ) → IsUpperBound g num den → (k : List Ticket) → IsCommitment g k → (a b : ℤ) → IsValue g k a b → (a *ℤ den) ≤ℤ (num *ℤ b)
bound_above g is num den bound k is_k a b is_value =
    let d : ℤ = weight_total k in let p : ℤ = prior_total g in let w : ℤ = worth g k in
    let d_positive = weight_total-positive k is_k.some is_k.positive in
    let p_positive = prior_total-positive g is in
    let h = mul-le (w *ℤ den) ((num *ℤ d) *ℤ p) b (bound.bounds k is_k) (omega (arith, ints, is_value.positive)) in
    let e : (w *ℤ den) *ℤ b ≡ (w *ℤ b) *ℤ den = same_by (times (times (v w) (v den)) (v b)) (times (times (v w) (v b)) (v den)) (omega arith) in
    let f : (w *ℤ b) *ℤ den ≡ ((a *ℤ d) *ℤ p) *ℤ den = ap (λ (z : ℤ). z *ℤ den) is_value.same in
    let i : ((a *ℤ d) *ℤ p) *ℤ den ≡ ((a *ℤ den) *ℤ d) *ℤ p = same_by (times (times (times (v a) (v d)) (v p)) (v den)) (times (times (times (v a) (v den)) (v d)) (v p)) (omega arith) in
    let j : ((num *ℤ d) *ℤ p) *ℤ b ≡ ((num *ℤ b) *ℤ d) *ℤ p = same_by (times (times (times (v num) (v d)) (v p)) (v b)) (times (times (times (v num) (v b)) (v d)) (v p)) (omega arith) in
    cancel-le (a *ℤ den) (num *ℤ b) d (cancel-le ((a *ℤ den) *ℤ d) ((num *ℤ b) *ℤ d) p (omega (arith, ints, h, e, f, i, j)) p_positive) d_positive

pub one_value : (g : Game) (k other : List Ticket) → IsCommitment g k → IsCommitment g other → IsOptimal g k → IsOptimal g other → worth g k *ℤ weight_total other ≡ worth g other *ℤ weight_total k
one_value g k other is_k is_other best best_other = omega (arith, ints, best other is_other, best_other k is_k)

-- the value of an optimal commitment
pub optimal-bound : (g : Game) (k : List Ticket) → IsCommitment g k → IsOptimal g k → (num den : ℤ) → IsValue g k num den → IsUpperBound g num den
optimal-bound g k is_k best num den is_value = record {
  positive = is_value.positive;
  bounds = λ other is_other.
      let d : ℤ = weight_total k in let e : ℤ = weight_total other in let p : ℤ = prior_total g in
      let w : ℤ = worth g k in let x : ℤ = worth g other in
      let a = mul-le (x *ℤ d) (w *ℤ e) den (best other is_other) (omega (arith, ints, is_value.positive)) in
      let b : (x *ℤ d) *ℤ den ≡ (x *ℤ den) *ℤ d = same_by (times (times (v x) (v d)) (v den)) (times (times (v x) (v den)) (v d)) (omega arith) in
      let f : (w *ℤ e) *ℤ den ≡ (w *ℤ den) *ℤ e = same_by (times (times (v w) (v e)) (v den)) (times (times (v w) (v den)) (v e)) (omega arith) in
      let h : (w *ℤ den) *ℤ e ≡ ((num *ℤ d) *ℤ p) *ℤ e = ap (λ (z : ℤ). z *ℤ e) is_value.same in
      let i : ((num *ℤ d) *ℤ p) *ℤ e ≡ ((num *ℤ e) *ℤ p) *ℤ d = same_by (times (times (times (v num) (v d)) (v p)) (v e)) (times (times (times (v num) (v e)) (v p)) (v d)) (omega arith) in
      cancel-le (x *ℤ den) ((num *ℤ e) *ℤ p) d (omega (arith, ints, a, b, f, h, i)) (weight_total-positive k is_k.some is_k.positive);
}

pub bound-optimal : (g : Game) (k : List Ticket) → IsCommitment g k → (num den : ℤ) → IsValue g k num den → IsUpperBound g num den → IsOptimal g k
bound-optimal g k is_k num den is_value bound = optimal_at_bound g k is_k num den bound is_value.same
