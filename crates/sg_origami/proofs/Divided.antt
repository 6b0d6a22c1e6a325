-- Counts over their greatest common divisor with the whole.
use Rattle.std.proofs.Common.{◌≡◌, ℕ, ◌+◌, sym, subst, arith, inl, inr}
use Rattle.std.specs.Prelude.{ℤ, unsigned_abs}
use Rattle.std.specs.Int.{◌∣◌, IsGcd}
use Rattle.std.proofs.lemmas.Bool.{cases_eq}
use Rattle.std.proofs.lemmas.Nat.Gcd.{dvd_refl, dvd_trans}
use Rattle.sg_model.specs.Games.{Game}
use Rattle.sg_model.specs.Origami.{count_at}
use Rattle.sg_origami.specs.Rates.{IsCountDivisor}

-- of no counts it is the whole
pub no_counts : (g : Game) (num den : ℤ) (whole : ℕ) → IsCountDivisor g num den whole 0 whole
no_counts g num den whole = record { of_whole = dvd_refl whole; of_each = λ t low high. absurd (omega arith); greatest = λ e p q. p }

-- of one more count
pub one_more_count : (g : Game) (num den : ℤ) (whole m d k r : ℕ) → IsCountDivisor g num den whole m d → k ≡ unsigned_abs (count_at g num den (m + 1)) → IsGcd d k r → IsCountDivisor g num den whole (m + 1) r
one_more_count g num den whole m d k r i e h = record {
  of_whole = dvd_trans r h.0 i.of_whole;
  of_each = λ t low high. elim (cases_eq t (m + 1)) [
    | inl same ↦ subst (λ (t : ℕ). r ∣ unsigned_abs (count_at g num den t)) (sym same) (subst (λ (k : ℕ). r ∣ k) e h.1)
    | inr other ↦ dvd_trans r h.0 (i.of_each t low (omega arith))
  ];
  greatest = λ x p q. h.2 x (i.greatest x p (λ t low high. q t low (omega arith))) (subst (λ (k : ℕ). x ∣ k) (sym e) (q (m + 1) (omega arith) (omega arith)));
}
