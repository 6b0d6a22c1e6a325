-- The play from one cut place to the next.
use Rattle.std.proofs.Common.{◌≡◌, ℕ, zero, suc, ◌/◌, ◌<◌, List, length, ℤ, pos, negsuc, ◌+ℤ◌, ◌*ℤ◌, ◌≤ℤ◌, ◌<ℤ◌, sym, refl, arith, get_or, ◌⊎◌, inl, inr}
use Rattle.std.specs.Prelude.{int_rem}
use Rattle.std.proofs.lemmas.Int.{ints, by_lt_z, quot-rem}
use Rattle.sg_split.specs.Laws.{PlaysStayBetweenCuts}
use Rattle.sg_split.specs.Laying.{ends_from}
use Rattle.sg_split.specs.Lines.{IsMoment}
use Rattle.sg_split.proofs.Covered.{natural_counts}
use Rattle.sg_split.proofs.Ends.{edge-rises, length-ends_from}
use Rattle.sg_split.proofs.Firsts.{first_past-same}
use Rattle.sg_split.proofs.Kept.{play_at-same, spot_apart}

-- a place as a patrol and a moment
record IsAt (d a : ℤ) : Type 0 where
  q : ℕ
  is : a ≡ (pos q *ℤ d) +ℤ int_rem a d
  moment : IsMoment d (int_rem a d)

at_place : (a d : ℤ) → pos 0 ≤ℤ a → pos 1 ≤ℤ d → IsAt d a
at_place (pos a) (pos zero) h k = absurd (omega (arith, ints, k))
at_place (pos a) (pos (suc d)) h k = record {
  q = a / suc d;
  is = sym (quot-rem (pos a) (pos (suc d)));
  moment = record { low = omega (arith, ints); high = omega (arith, ints) };
}
at_place (pos a) (negsuc d) h k = absurd (omega (arith, ints, k))
at_place (negsuc a) d h k = absurd (omega (arith, ints, h))

pub plays_stay : PlaysStayBetweenCuts
plays_stay counts patrols d positive within x z low le high uncut =
    let ends : List ℤ = ends_from (pos 0) counts in
    play_at-same ends patrols d x z (λ r.
    first_past-same 1 ends ((pos r *ℤ d) +ℤ x) ((pos r *ℤ d) +ℤ z) (omega (arith, ints, le)) (λ k lt.
    let k_lt : k < length counts = omega (arith, lt, length-ends_from (pos 0) counts) in
    let end : ℤ = get_or ends k (pos 0) in
    let a = at_place end d (edge-rises (pos 0) counts (natural_counts counts d within) 0 (suc k) (omega arith) (omega (arith, k_lt))) positive in
    let o : ℤ = int_rem end d in
    let apart : (o ≤ℤ x) ⊎ (z <ℤ o) =
    by_lt_z x o (λ after. by_lt_z z o (λ past. inr past) (λ upto. absurd (uncut o after upto (inr (k, k_lt, refl))))) (λ before. inl before) in
    elim (spot_apart a.q r d o x z a.moment (record { low = low; high = omega (arith, ints, le, high) }) (record { low = omega (arith, ints, low, le); high = high }) apart) [
      | inl upto ↦ inl (omega (arith, ints, a.is, upto))
      | inr past ↦ inr (omega (arith, ints, a.is, past))
    ]))
