-- The sums that come from the counts are those over the tickets.
use Rattle.std.proofs.Common.{◌≡◌, ℕ, ◌≤◌, ◌^◌, Bool, false, true≢false, cond, List, [], ◌∷◌, length, ℤ, pos, ◌+ℤ◌, ◌-ℤ◌, ◌*ℤ◌, ◌≤ℤ◌, sym, ◌∙◌, ap, refl, arith, slice_index_or}
use Rattle.std.specs.Prelude.{slice_index, Ok, ◌==◌}
use Rattle.std.proofs.lemmas.Int.{ints}
use Rattle.sg_model.specs.declared.ticket.Ticket.{Ticket}
use Rattle.sg_model.specs.Sums.{nth, total}
use Rattle.sg_model.specs.Games.{Game, attacker, payoff}
use Rattle.sg_model.specs.Limits.{IsGame, IsPay}
use Rattle.sg_model.specs.Plays.{covers}
use Rattle.sg_model.specs.Commitments.{cover_count, weight_total}
use Rattle.sg_model.proofs.Ints.{v, n, plus, less, times, same_by, mul-le}
use Rattle.sg_model.proofs.Covers.{cover_count-bounds, total-covered}
use Rattle.sg_model.proofs.Promises.{payoff-in_range}
use Rattle.sg_num.specs.declared.step.Op.TheVariants.{Times}
use Rattle.sg_num.specs.Exact.{and_then, exact_dot_step}
use Rattle.sg_commit.specs.ExactSums.{exact_sum_a, exact_sum_d}
use Rattle.sg_game.specs.declared.cell.Cell.{Cell}
use Rattle.sg_game.specs.Tallies.{IsCounted, IsTally, no_cell}
use Rattle.sg_commit.specs.Tallies.{counted_sum}
use Rattle.sg_commit.specs.declared.side.Side.{Side}
use Rattle.sg_commit.specs.declared.side.Side.TheVariants.{Defender, Attacker}
use Rattle.sg_commit.specs.Sides.{covered_to, exact_sum_to, uncovered_to}
use Rattle.sg_model.proofs.Spans.{Within, product-within}
use Rattle.sg_commit.proofs.Small.{dot_step-ok, exact_ok, few-sum_a, few-sum_d}
use Rattle.sg_model.proofs.Covers.{ArePositive}

pub from_table : (g : Game) (k : List Ticket) (cells : List Cell) (empty : Bool) → IsTally g k cells → empty ≡ (length cells == 0) → empty ≡ false → IsCounted g k cells
from_table g k [] empty h e q = absurd (true≢false (sym e ∙ q))
from_table g k (x ∷ xs) empty h e q = h (omega arith)

-- the sum of both is within what all tickets can have
sum-range : (total count inside outside : ℤ) → IsPay inside → IsPay outside → pos 0 ≤ℤ count → count ≤ℤ total → total ≤ℤ pos (2 ^ 95)
    → Within (pos (2 ^ 126)) ((outside *ℤ total) +ℤ ((inside -ℤ outside) *ℤ count))
sum-range total count inside outside p q low high few =
    let others : ℤ = total -ℤ count in
    let a = product-within others (pos (2 ^ 30)) outside (omega (arith, ints, high)) (record { low = q.at_least; high = q.at_most }) in
    let b = product-within count (pos (2 ^ 30)) inside low (record { low = p.at_least; high = p.at_most }) in
    let most = mul-le total (pos (2 ^ 95)) (pos (2 ^ 30)) few (omega (arith, ints)) in
    let whole : pos (2 ^ 95) *ℤ pos (2 ^ 30) ≡ pos (2 ^ 125) = refl in
    let split : (others *ℤ pos (2 ^ 30)) +ℤ (count *ℤ pos (2 ^ 30)) ≡ total *ℤ pos (2 ^ 30) = same_by (plus (times (less (v total) (v count)) (n (2 ^ 30))) (times (v count) (n (2 ^ 30)))) (times (v total) (n (2 ^ 30))) (omega arith) in
    let same : (others *ℤ outside) +ℤ (count *ℤ inside) ≡ (outside *ℤ total) +ℤ ((inside -ℤ outside) *ℤ count) =
    same_by (plus (times (less (v total) (v count)) (v outside)) (times (v count) (v inside))) (plus (times (v outside) (v total)) (times (less (v inside) (v outside)) (v count))) (omega arith) in
    record { low = omega (arith, ints, a.low, b.low, most, whole, split, same); high = omega (arith, ints, a.high, b.high, most, whole, split, same) }

mixed-is : (total count inside outside : ℤ) → IsPay inside → IsPay outside → pos 0 ≤ℤ count → count ≤ℤ total → total ≤ℤ pos (2 ^ 95)
    → counted_sum total count inside outside ≡ Ok ((outside *ℤ total) +ℤ ((inside -ℤ outside) *ℤ count))
mixed-is total count inside outside p q low high few =
    let a = product-within total (pos (2 ^ 30)) outside (omega (arith, ints, low, high)) (record { low = q.at_least; high = q.at_most }) in
    let b = product-within count (pos (2 ^ 31)) (inside -ℤ outside) low (record { low = omega (arith, ints, p.at_least, q.at_most); high = omega (arith, ints, p.at_most, q.at_least) }) in
    let most = mul-le total (pos (2 ^ 95)) (pos (2 ^ 30)) few (omega (arith, ints)) in
    let more = mul-le count (pos (2 ^ 95)) (pos (2 ^ 31)) (omega (arith, ints, high, few)) (omega (arith, ints)) in
    let whole : pos (2 ^ 95) *ℤ pos (2 ^ 30) ≡ pos (2 ^ 125) = refl in
    let wholes : pos (2 ^ 95) *ℤ pos (2 ^ 31) ≡ pos (2 ^ 126) = refl in
    let turn : outside *ℤ total ≡ total *ℤ outside = same_by (times (v outside) (v total)) (times (v total) (v outside)) (omega arith) in
    let turned : (inside -ℤ outside) *ℤ count ≡ count *ℤ (inside -ℤ outside) = same_by (times (less (v inside) (v outside)) (v count)) (times (v count) (less (v inside) (v outside))) (omega arith) in
    let one : Within (pos (2 ^ 126)) (outside *ℤ total) = record { low = omega (arith, ints, a.low, most, whole, turn); high = omega (arith, ints, a.high, most, whole, turn) } in
    let two : Within (pos (2 ^ 126)) ((inside -ℤ outside) *ℤ count) = record { low = omega (arith, ints, b.low, more, wholes, turned); high = omega (arith, ints, b.high, more, wholes, turned) } in
    ap (λ r. and_then r (λ all. exact_dot_step all (inside -ℤ outside) count)) (exact_ok Times outside total one)
    ∙ dot_step-ok (outside *ℤ total) (inside -ℤ outside) count two (sum-range total count inside outside p q low high few)

module _ (g : Game) (h : IsGame g) (k : List Ticket) (positive : ArePositive k) (cells : List Cell) (c : IsCounted g k cells) (whole count : ℤ) (l a : ℕ) (low : 1 ≤ a) (high : a ≤ length g.goals)
    (total_is : whole ≡ weight_total k) (count_is : count ≡ (slice_index_or cells a no_cell).count) where
  counts : count ≡ cover_count g k a
  counts = count_is ∙ c.counts a low high

  -- the sum of one payoff where the target is covered, and another where it isn't
  by_counts : (inside outside : ℤ) → IsPay inside → IsPay outside
      → counted_sum whole count inside outside ≡ Ok (total (λ (x : Ticket). x.weight *ℤ cond (covers g x.play.code a) inside outside) k)
  by_counts inside outside p q =
      let b = cover_count-bounds g k a positive in
      let few : whole ≤ℤ pos (2 ^ 95) = omega (arith, ints, total_is, c.few) in
      mixed-is whole count inside outside p q (omega (arith, ints, counts, b.0)) (omega (arith, ints, counts, b.1, total_is)) few
      ∙ ap Ok ((λ i. (outside *ℤ total_is i) +ℤ ((inside -ℤ outside) *ℤ counts i)) ∙ sym (total-covered g k a inside outside))

  many : weight_total k ≤ℤ pos (2 ^ 96)
  many = omega (arith, ints, c.few)

  counted_d-is : counted_sum whole count (payoff g l a).dc (payoff g l a).du ≡ exact_sum_d g k l a
  counted_d-is =
      let r = payoff-in_range g h l a in
      by_counts (payoff g l a).dc (payoff g l a).du r.dc r.du
      ∙ (ap (λ (b : Bool). Ok (total (λ (x : Ticket). x.weight *ℤ cond b (nth (nth (attacker g l).leader (slice_index x.play.code 0) []) a (pos 0)) (cond (covers g x.play.code a) (payoff g l a).dc (payoff g l a).du)) k)) (sym c.security)
      ∙ sym (few-sum_d g h k positive many l a))

  counted_a-is : counted_sum whole count (payoff g l a).ac (payoff g l a).au ≡ exact_sum_a g k l a
  counted_a-is =
      let r = payoff-in_range g h l a in
      by_counts (payoff g l a).ac (payoff g l a).au r.ac r.au
      ∙ (ap (λ (b : Bool). Ok (total (λ (x : Ticket). x.weight *ℤ cond b (nth (nth (attacker g l).follower (slice_index x.play.code 0) []) a (pos 0)) (cond (covers g x.play.code a) (payoff g l a).ac (payoff g l a).au)) k)) (sym c.security)
      ∙ sym (few-sum_a g h k positive many l a))

  pub counted_to-is : (side : Side) → counted_sum whole count (covered_to side (payoff g l a)) (uncovered_to side (payoff g l a)) ≡ exact_sum_to side g k l a
  counted_to-is Defender = counted_d-is
  counted_to-is Attacker = counted_a-is
