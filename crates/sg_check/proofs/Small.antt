-- With few tickets nothing that is formed leaves 128 bits.
use Rattle.std.proofs.Common.{◌≡◌, ◌∙◌, ℕ, cond, false, ◌≤◌, ◌^◌, List, [], ◌∷◌, length, ℤ, pos, ◌+ℤ◌, ◌-ℤ◌, ◌*ℤ◌, ◌≤ℤ◌, sym, subst, refl, arith, slice_index_or}
use Rattle.std.specs.List.{All}
use Rattle.std.proofs.lemmas.Int.{ints}
use Rattle.std.proofs.lemmas.List.Elements.{All-nil, All-cons, All-head, All-tail}
use Rattle.sg_model.specs.declared.ticket.Ticket.{Ticket}
use Rattle.sg_model.specs.Games.{Game, is_matrix, payoff}
use Rattle.sg_model.specs.Limits.{IsGame, IsPay}
use Rattle.sg_model.specs.Plays.{covers, pay_a, pay_d}
use Rattle.sg_model.specs.Commitments.{cover_count, sum_a, sum_d, weight_total}
use Rattle.sg_model.proofs.Ints.{v, plus, times, same_by, mul-le, product_nonneg}
use Rattle.sg_model.proofs.Sums.{total-same}
use Rattle.sg_model.proofs.Covers.{ArePositive, total-covered, weight_total-nonneg}
use Rattle.sg_model.proofs.Promises.{pay_a-in_range, pay_d-in_range}
use Rattle.sg_num.specs.Exact.{Fits}
use Rattle.sg_bounds.specs.Sizes.{pay_sums}
use Rattle.sg_game.specs.Tallies.{IsTicketCount, IsCounted, no_cell}
use Rattle.sg_game.specs.declared.cell.Cell.{Cell}
use Rattle.sg_model.proofs.Spans.{Spans, Within, fits_span, pay-within, product-within, room}
use Rattle.sg_game.proofs.Tallied.{action-target, is_count}
use Rattle.sg_num.proofs.Steps.{fits-from_FitsSigned}
use Rattle.sg_game.specs.Counts.{IsActionOf}
use Rattle.sg_check.specs.Valuing.{under_a, under_d}

fits_in : (z : ℤ) → Spans (2 ^ 126) z → Fits z
fits_in z w = fits-from_FitsSigned z (fits_span (2 ^ 126) z (omega arith) w)

-- ---- sums over tickets

module _ (pays : List ℕ → ℤ) (range : (play : List ℕ) → IsPay (pays play)) where
  pays-fit : (acc : ℤ) (k : List Ticket) → ArePositive k → Within (pos (2 ^ 126) -ℤ weight_total k *ℤ pos (2 ^ 30)) acc → All Fits (pay_sums pays acc k)
  pays-fit acc [] positive b = All-nil Fits
  pays-fit acc (x ∷ xs) positive b =
      let w : ℤ = x.weight in
      let c : ℤ = pos (2 ^ 30) in
      let p : ℤ = w *ℤ pays x.play.code in
      let some : pos 0 ≤ℤ w = omega (arith, ints, All-head (λ (x : Ticket). pos 1 ≤ℤ x.weight) x xs positive) in
      let later : ArePositive xs = All-tail (λ (x : Ticket). pos 1 ≤ℤ x.weight) x xs positive in
      let split : (w +ℤ weight_total xs) *ℤ c ≡ (w *ℤ c) +ℤ (weight_total xs *ℤ c) = same_by (times (plus (v w) (v (weight_total xs))) (v c)) (plus (times (v w) (v c)) (times (v (weight_total xs)) (v c))) (omega arith) in
      let r = room acc p (w *ℤ c) (weight_total xs *ℤ c) (product-within w c (pays x.play.code) some (pay-within (pays x.play.code) (range x.play.code)))
      (product_nonneg w c some (omega (arith, ints))) (product_nonneg (weight_total xs) c (weight_total-nonneg xs later) (omega (arith, ints)))
      (subst (λ (m : ℤ). Within (pos (2 ^ 126) -ℤ m) acc) split b) in
      All-cons Fits p ((acc +ℤ p) ∷ pay_sums pays (acc +ℤ p) xs) (fits_in p r.0) (All-cons Fits (acc +ℤ p) (pay_sums pays (acc +ℤ p) xs) (fits_in (acc +ℤ p) r.1) (pays-fit (acc +ℤ p) xs later r.2))

  pub few-fit : (k : List Ticket) → ArePositive k → weight_total k ≤ℤ pos (2 ^ 95) → All Fits (pay_sums pays (pos 0) k)
  few-fit k positive few =
      let m = mul-le (weight_total k) (pos (2 ^ 95)) (pos (2 ^ 30)) few (omega (arith, ints)) in
      let whole : pos (2 ^ 95) *ℤ pos (2 ^ 30) ≡ pos (2 ^ 125) = refl in
      pays-fit (pos 0) k positive (record { low = omega (arith, ints, m, whole); high = omega (arith, ints, m, whole) })

-- ---- sums by counts

-- what type l gets at target t, and what the defender gets there, by the count of the tickets that cover it
type_sum_a : (g : Game) → is_matrix g ≡ false → (k : List Ticket) (l t : ℕ) → sum_a g k l t ≡ ((payoff g l t).au *ℤ weight_total k) +ℤ (((payoff g l t).ac -ℤ (payoff g l t).au) *ℤ cover_count g k t)
type_sum_a g s k l t =
    let au : ℤ = (payoff g l t).au in let ac : ℤ = (payoff g l t).ac in
    total-same (λ (x : Ticket). x.weight *ℤ pay_a g l x.play.code t) (λ (x : Ticket). x.weight *ℤ cond (covers g x.play.code t) ac au) k (λ i d lt. rw s refl) ∙ total-covered g k t ac au

type_sum_d : (g : Game) → is_matrix g ≡ false → (k : List Ticket) (l t : ℕ) → sum_d g k l t ≡ ((payoff g l t).du *ℤ weight_total k) +ℤ (((payoff g l t).dc -ℤ (payoff g l t).du) *ℤ cover_count g k t)
type_sum_d g s k l t =
    let du : ℤ = (payoff g l t).du in let dc : ℤ = (payoff g l t).dc in
    total-same (λ (x : Ticket). x.weight *ℤ pay_d g l x.play.code t) (λ (x : Ticket). x.weight *ℤ cond (covers g x.play.code t) dc du) k (λ i d lt. rw s refl) ∙ total-covered g k t dc du

module _ (g : Game) (h : IsGame g) (k : List Ticket) (cells : List Cell) (c : IsCounted g k cells) (l a : ℕ) where
  pub table_a-fits : All Fits (under_a g k l a)
  table_a-fits = few-fit (λ (play : List ℕ). pay_a g l play a) (λ play. pay_a-in_range g h l play a) k c.positive c.few

  pub table_d-fits : All Fits (under_d g k l a)
  table_d-fits = few-fit (λ (play : List ℕ). pay_d g l play a) (λ play. pay_d-in_range g h l play a) k c.positive c.few

  module _ (known : IsActionOf g l a) (whole count : ℤ) (total_is : whole ≡ weight_total k) (count_is : count ≡ (slice_index_or cells a no_cell).count) where
    pub target : (1 ≤ a) × (a ≤ length g.goals)
    target = (known.0, (action-target g k cells l a c known.1).0)

    pub count-is : IsTicketCount whole count
    count-is = rw (total_is, count_is) (is_count g k cells a c known.0 target.1)

    counts : count ≡ cover_count g k a
    counts = count_is ∙ c.counts a known.0 target.1

    pub table_a-is : (sum : ℤ) → sum ≡ ((payoff g l a).au *ℤ whole) +ℤ (((payoff g l a).ac -ℤ (payoff g l a).au) *ℤ count) → sum ≡ sum_a g k l a
    table_a-is sum e =
        let au : ℤ = (payoff g l a).au in let ac : ℤ = (payoff g l a).ac in
        e ∙ ((λ i. (au *ℤ total_is i) +ℤ ((ac -ℤ au) *ℤ counts i))
        ∙ sym (type_sum_a g c.security k l a))

    pub table_d-is : (sum : ℤ) → sum ≡ ((payoff g l a).du *ℤ whole) +ℤ (((payoff g l a).dc -ℤ (payoff g l a).du) *ℤ count) → sum ≡ sum_d g k l a
    table_d-is sum e =
        let du : ℤ = (payoff g l a).du in let dc : ℤ = (payoff g l a).dc in
        e ∙ ((λ i. (du *ℤ total_is i) +ℤ ((dc -ℤ du) *ℤ counts i)) ∙ sym (type_sum_d g c.security k l a))
