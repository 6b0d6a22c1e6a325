-- The first of the greatest ranks, one number after the other.
use Rattle.std.proofs.Common.{◌≡◌, ◌⊎◌, ℕ, zero, suc, ◌+◌, ◌<◌, sym, subst, arith, pos, ◌≤ℤ◌, inl, inr, ⊎_elim}
use Rattle.std.proofs.lemmas.Int.{by_lt_z, ints}
use Rattle.std.specs.Prelude.{◌*ℤ◌}
use Rattle.sg_frac.specs.Fractions.{Fraction}
use Rattle.sg_frac.specs.Order.{IsBelow}
use Rattle.sg_selection.specs.Ranking.{IsLeader}
use Rattle.sg_selection.proofs.Below.{below-chain, never-below, not-below}

below-next : (m n : ℕ) → m < n + 1 → (m < n) ⊎ (m ≡ n)
below-next zero zero h = inr (omega arith)
below-next zero (suc n) h = inl (omega arith)
below-next (suc m) zero h = absurd (omega (arith, h))
below-next (suc m) (suc n) h = ⊎_elim (λ k. inl (omega (arith, k))) (λ e. inr (omega (arith, e))) (below-next m n (omega (arith, h)))

-- number 0 leads alone
pub leader-alone : (is_rank : ℕ → Fraction → Type 0) (rank : Fraction) → is_rank 0 rank → pos 1 ≤ℤ rank.den → IsLeader is_rank 1 0 rank
leader-alone is_rank rank ranked positive = record {
  ranked = ranked;
  below = omega arith;
  positive = positive;
  greatest = λ m low. (rank, subst (λ (k : ℕ). is_rank k rank) (zero-is m low) ranked, positive, never-below rank);
  first = λ m low. absurd (omega (arith, low));
}
  where
    zero-is : (m : ℕ) → m < 1 → 0 ≡ m
    zero-is m low = omega (arith, low)

-- a further number that is above the leader leads
pub leader-new : (is_rank : ℕ → Fraction → Type 0) (count n : ℕ) (rank b : Fraction) → IsLeader is_rank count n rank → is_rank count b → pos 1 ≤ℤ b.den → IsBelow rank b → IsLeader is_rank (count + 1) count b
leader-new is_rank count n rank b l ranked positive above = record {
  ranked = ranked;
  below = omega arith;
  positive = positive;
  greatest = λ m low. ⊎_elim
      (λ k. let q = l.greatest m k in (q.0, q.1, q.2, not-below q.0 rank b q.2 l.positive positive q.3 above))
      (λ e. (b, subst (λ (k : ℕ). is_rank k b) (sym e) ranked, positive, never-below b))
      (below-next m count low);
  first = λ m low. let q = l.greatest m low in (q.0, q.1, q.2, below-chain q.0 rank b q.2 l.positive positive q.3 above);
}

-- one that isn't leaves it
pub leader-kept : (is_rank : ℕ → Fraction → Type 0) (count n : ℕ) (rank b : Fraction) → IsLeader is_rank count n rank → is_rank count b → pos 1 ≤ℤ b.den → ¬ (IsBelow rank b) → IsLeader is_rank (count + 1) n rank
leader-kept is_rank count n rank b l ranked positive no_more = record {
  ranked = l.ranked;
  below = (let k = l.below in omega (arith, k));
  positive = l.positive;
  greatest = λ m low. ⊎_elim
      (λ k. l.greatest m k)
      (λ e. (b, subst (λ (k : ℕ). is_rank k b) (sym e) ranked, positive, no_more))
      (below-next m count low);
  first = l.first;
}

-- where each of so many numbers has a rank, one leads
pub leader-there : (is_rank : ℕ → Fraction → Type 0) (count : ℕ) → ((m : ℕ) → m < count + 1 → (b : Fraction) × is_rank m b × (pos 1 ≤ℤ b.den)) → (n : ℕ) × (rank : Fraction) × IsLeader is_rank (count + 1) n rank
leader-there is_rank zero each = let q = each 0 (omega arith) in (0, q.0, leader-alone is_rank q.0 q.1 q.2)
leader-there is_rank (suc count) each =
    let q = leader-there is_rank count (λ m low. each m (omega (arith, low))) in
    let b = each (count + 1) (omega arith) in
    let more : count + 1 + 1 ≡ suc count + 1 = omega arith in
    by_lt_z (q.1.num *ℤ b.0.den) (b.0.num *ℤ q.1.den)
    (λ above. (count + 1, b.0, subst (λ (k : ℕ). IsLeader is_rank k (count + 1) b.0) more (leader-new is_rank (count + 1) q.0 q.1 b.0 q.2 b.1 b.2 above)))
    (λ other. (q.0, q.1, subst (λ (k : ℕ). IsLeader is_rank k q.0 q.1) more (leader-kept is_rank (count + 1) q.0 q.1 b.0 q.2 b.1 b.2 (λ h. no-both q.1 b.0 h other))))
  where
    no-both : (f g : Fraction) → IsBelow f g → (g.num *ℤ f.den) ≤ℤ (f.num *ℤ g.den) → ⊥
    no-both f g h k = omega (arith, ints, h, k)
