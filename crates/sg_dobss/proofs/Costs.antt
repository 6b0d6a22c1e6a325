-- The costs of plays, type by type.
use Rattle.std.proofs.Common.{◌≡◌, ◌∙◌, ℕ, ◌+◌, ◌*◌, ◌<◌, ◌≤◌, ◌^◌, List, [], ◌∷◌, length, take, replicate, sym, ap, subst, arith, slice_index}
use Rattle.std.specs.Prelude.{ℤ, pos, ◌+ℤ◌, ◌*ℤ◌}
use Rattle.std.specs.List.{All}
use Rattle.std.proofs.lemmas.Int.{ints}
use Rattle.std.proofs.lemmas.List.{get_or-replicate, length-replicate, length-take-le}
use Rattle.std.proofs.lemmas.List.Elements.{All-take}
use Rattle.sg_model.specs.Games.{Game, attacker}
use Rattle.sg_model.specs.Limits.{IsGame}
use Rattle.sg_model.specs.PlayLists.{legal_plays}
use Rattle.sg_model.specs.Plays.{pay_d}
use Rattle.sg_model.specs.Payoffs.{shift_of}
use Rattle.sg_model.specs.Sums.{total}
use Rattle.sg_model.proofs.Spans.{Spans, spans_total}
use Rattle.sg_model.proofs.Sums.{total-append}
use Rattle.sg_tree.specs.declared.fix.Fix.{Fix}
use Rattle.sg_bounds.specs.Regions.{IsFix, fixed}
use Rattle.sg_bounds.specs.Facts.{cost}
use Rattle.sg_num.specs.Exact.{IsAtMost}
use Rattle.sg_rows.specs.Rows.{place}
use Rattle.sg_programs.proofs.Sized.{cost_part, fixed-few, parts-small}
use Rattle.sg_dobss.specs.Paying.{AreByPlay, AreNumbers, listed_play}
use Rattle.sg_dobss.specs.Tables.{added_to, cost_to}
use Rattle.sg_programs.proofs.Fixed.{fixed-all, fixed-count, fixed-more}
use Rattle.sg_dobss.proofs.Numbered.{all-numbers}

pub costs-none : (g : Game) (fix : Fix) → AreByPlay g (cost_to g fix 0) (replicate (length (legal_plays g)) (pos 0))
costs-none g fix = record { long = length-replicate (length (legal_plays g)) (pos 0); each = λ k lt. get_or-replicate (length (legal_plays g)) k (pos 0) (pos 0) lt }

cost-more : (g : Game) (fix : Fix) (i : ℕ) (play : List ℕ) → i < length fix.acts
    → cost_to g fix (i + 1) play ≡ cost_to g fix i play +ℤ ((attacker g (fix.first + i)).prior *ℤ (pay_d g (fix.first + i) play (slice_index fix.acts i) +ℤ shift_of g))
cost-more g fix i play lt =
    let p : ℕ × ℕ = (fix.first + i, slice_index fix.acts i) in
    ap (total (cost_part g play)) (fixed-more fix i lt) ∙ total-append (cost_part g play) (take i (fixed fix)) (p ∷ []) ∙ omega (arith, ints)

pub costs-more : (g : Game) (fix : Fix) (i : ℕ) (costs pays sums : List ℤ) → i < length fix.acts → AreByPlay g (cost_to g fix i) costs
    → AreByPlay g (λ play. pay_d g (fix.first + i) play (slice_index fix.acts i)) pays → AreNumbers (length costs) (added_to costs (attacker g (fix.first + i)).prior (shift_of g) pays) sums
    → AreByPlay g (cost_to g fix (i + 1)) sums
costs-more g fix i costs pays sums lt h q r = record {
  long = r.long ∙ h.long;
  each = λ k within.
      let prior : ℤ = (attacker g (fix.first + i)).prior in
      r.each k (omega (arith, within, h.long))
      ∙ ap (λ (z : ℤ). z +ℤ (prior *ℤ (place pays k +ℤ shift_of g))) (h.each k within)
      ∙ ap (λ (z : ℤ). cost_to g fix i (listed_play g k) +ℤ (prior *ℤ (z +ℤ shift_of g))) (q.each k within)
      ∙ sym (cost-more g fix i (listed_play g k) lt);
}

pub costs-all : (g : Game) (fix : Fix) (costs : List ℤ) → AreByPlay g (cost_to g fix (length fix.acts)) costs → AreByPlay g (λ play. cost g fix play) costs
costs-all g fix costs h = record {
  long = h.long;
  each = λ k lt. h.each k lt ∙ ap (total (cost_part g (listed_play g k))) (fixed-all fix);
}

-- they stay small
pub costs-small : (g : Game) → IsGame g → (fix : Fix) → IsFix g fix → (i : ℕ) → i ≤ length fix.acts → (costs : List ℤ) → AreByPlay g (cost_to g fix i) costs → All (IsAtMost (pos (2 ^ 60))) costs
costs-small g h fix is_fix i le costs are = all-numbers (IsAtMost (pos (2 ^ 60))) (length (legal_plays g)) (λ k. cost_to g fix i (listed_play g k)) costs are each
  where
    room-for : (n : ℕ) → n ≤ 8 → n * (2 ^ 20 * (2 ^ 31 + 1)) ≤ 2 ^ 60
    room-for n le = omega (arith, le)

    each : (k : ℕ) → k < length (legal_plays g) → IsAtMost (pos (2 ^ 60)) (cost_to g fix i (listed_play g k))
    each k within =
        let play : List ℕ = listed_play g k in
        let most : ℕ = 2 ^ 20 * (2 ^ 31 + 1) in
        let some : List (ℕ × ℕ) = take i (fixed fix) in
        let all = spans_total (cost_part g play) most some (All-take (λ p. Spans most (cost_part g play p)) i (fixed fix) (parts-small g h fix is_fix play)) in
        let count : length some ≡ i = length-take-le i (fixed fix) (omega (arith, le, fixed-count fix)) in
        let room = room-for (length some) (omega (arith, count, le, fixed-count fix, fixed-few g h fix is_fix)) in
        (omega (arith, ints, all.low, room), omega (arith, ints, all.high, room))

pub costs-start : (g : Game) (fix : Fix) (count : ℕ) (costs : List ℤ) → count ≡ length (legal_plays g) → costs ≡ replicate count (pos 0) → AreByPlay g (cost_to g fix 0) costs
costs-start g fix count costs e is = subst (AreByPlay g (cost_to g fix 0)) (sym (is ∙ ap (λ n. replicate n (pos 0)) e)) (costs-none g fix)

-- one type more, as its costs are added
pub costs-next : (g : Game) (fix : Fix) (i l act : ℕ) (prior shift : ℤ) (costs cs pays ps sums : List ℤ) → i < length fix.acts → l ≡ fix.first + i → act ≡ slice_index fix.acts i → prior ≡ (attacker g l).prior → shift ≡ shift_of g
    → cs ≡ costs → ps ≡ pays → AreByPlay g (cost_to g fix i) costs → AreByPlay g (λ play. pay_d g l play act) pays → AreNumbers (length cs) (added_to cs prior shift ps) sums → AreByPlay g (cost_to g fix (i + 1)) sums
costs-next g fix i l act prior shift costs cs pays ps sums lt el ea ep es ec eq h k r =
    let r1 : AreNumbers (length costs) (added_to costs prior shift ps) sums = subst (λ z. AreNumbers (length z) (added_to z prior shift ps) sums) ec r in
    let r2 : AreNumbers (length costs) (added_to costs prior shift pays) sums = subst (λ z. AreNumbers (length costs) (added_to costs prior shift z) sums) eq r1 in
    let r3 : AreNumbers (length costs) (added_to costs prior (shift_of g) pays) sums = subst (λ z. AreNumbers (length costs) (added_to costs prior z pays) sums) es r2 in
    let r4 : AreNumbers (length costs) (added_to costs (attacker g (fix.first + i)).prior (shift_of g) pays) sums = subst (λ z. AreNumbers (length costs) (added_to costs z (shift_of g) pays) sums) (ep ∙ ap (λ m. (attacker g m).prior) el) r3 in
    let k1 : AreByPlay g (λ play. pay_d g (fix.first + i) play act) pays = subst (λ m. AreByPlay g (λ play. pay_d g m play act) pays) el k in
    let k2 : AreByPlay g (λ play. pay_d g (fix.first + i) play (slice_index fix.acts i)) pays = subst (λ a. AreByPlay g (λ play. pay_d g (fix.first + i) play a) pays) ea k1 in
    costs-more g fix i costs pays sums lt h k2 r4

pub costs-end : (g : Game) (fix : Fix) (i : ℕ) (costs : List ℤ) → length fix.acts ≤ i → i ≤ length fix.acts → AreByPlay g (cost_to g fix i) costs → AreByPlay g (λ play. cost g fix play) costs
costs-end g fix i costs le ge h = let e : i ≡ length fix.acts = omega (arith, le, ge) in costs-all g fix costs (subst (λ n. AreByPlay g (cost_to g fix n) costs) e h)

-- they stay small, as they are read
pub costs-read : (g : Game) → IsGame g → (fix : Fix) → IsFix g fix → (i : ℕ) → i < length fix.acts → (costs cs : List ℤ) → cs ≡ costs → AreByPlay g (cost_to g fix i) costs → All (IsAtMost (pos (2 ^ 60))) cs
costs-read g h fix is_fix i lt costs cs e are = subst (All (IsAtMost (pos (2 ^ 60)))) (sym e) (costs-small g h fix is_fix i (omega (arith, lt)) costs are)
