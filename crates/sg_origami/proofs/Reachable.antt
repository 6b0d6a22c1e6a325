-- Levels that no covered target exceeds, and that the patrols suffice for.
use Rattle.std.proofs.Common.{◌≡◌, ℕ, ◌+◌, Bool, List, length, ℤ, pos, ◌-ℤ◌, ◌*ℤ◌, ◌≤ℤ◌, ◌<ℤ◌, sym, ◌∙◌, ap, subst, arith, slice_index_or, inl, inr}
use Rattle.std.specs.List.{All, filter}
use Rattle.std.proofs.lemmas.Int.{ints}
use Rattle.std.proofs.lemmas.Bool.{cases_eq}
use Rattle.std.proofs.lemmas.List.Elements.{All-filter}
use Rattle.sg_model.specs.Sums.{total, numbers}
use Rattle.sg_model.specs.Games.{Game, payoff, resource_count}
use Rattle.sg_model.specs.Origami.{at_level, SpendsAll, share}
use Rattle.sg_model.proofs.Ints.{v, n, less, times, same_by, le_by, le_from, mul-le, product_nonneg, cancel-le}
use Rattle.sg_model.proofs.Sums.{total-le, total-scaled}
use Rattle.sg_model.specs.Fillable.{IsFillable}
use Rattle.sg_origami.specs.Rates.{IsFirstMost, IsReachable, multiple}
use Rattle.sg_origami.proofs.Rise.{Heavy, high, need, most_needed}
use Rattle.sg_origami.proofs.Rated.{au, heavy}

pub reachable_spent : (g : Game) (num den : ℤ) → SpendsAll g num den → pos 1 ≤ℤ den → (t : ℕ) (pay : ℤ) → IsFirstMost g (length g.goals) t pay → (pay *ℤ den) <ℤ num → IsReachable g num den
reachable_spent g num den spends positive t pay floor below = record {
  positive = positive;
  over = λ j low high. omega (arith, ints, mul-le (payoff g 1 j).ac pay den (floor.most j low high) (omega (arith, ints, positive)), below);
  enough = omega (arith, ints, spends.sum);
}

-- a target needs no more at a higher level
needs_less : (m u num den pay : ℤ) → pos 1 ≤ℤ m → num ≤ℤ (pay *ℤ den) → (den *ℤ (m *ℤ (u *ℤ pos 1 -ℤ pay))) ≤ℤ (m *ℤ (u *ℤ den -ℤ num))
needs_less m u num den pay h k =
    let q = product_nonneg m (pay *ℤ den -ℤ num) (omega (arith, ints)) (omega (arith, ints)) in
    le_by (times (v den) (times (v m) (less (times (v u) (n 1)) (v pay)))) (times (v m) (less (times (v u) (v den)) (v num)))
    (omega (arith, le_from (n 0) (times (v m) (less (times (v pay) (v den)) (v num))) q))

pub reachable_floor : (g : Game) → IsFillable g → (num den : ℤ) → SpendsAll g num den → pos 1 ≤ℤ den → (t : ℕ) (pay : ℤ) → IsFirstMost g (length g.goals) t pay → num ≤ℤ (pay *ℤ den) → IsReachable g pay (pos 1)
reachable_floor g f num den spends positive t pay floor above =
    let m = multiple g in
    let u = au g in
    let xs : List ℕ = numbers (length g.goals) in
    let p : ℕ → Bool = high m u pay (pos 1) in
    let each : All (λ t. (den *ℤ need m u pay (pos 1) t) ≤ℤ need m u num den t) (filter p xs) =
    λ i d lt. needs_less (m (slice_index_or (filter p xs) i d)) (u (slice_index_or (filter p xs) i d)) num den pay (All-filter p (Heavy m u) xs (heavy g f) i d lt) above in
    let a = total-le (λ t. den *ℤ need m u pay (pos 1) t) (need m u num den) (filter p xs) each in
    let b = total-scaled (need m u pay (pos 1)) den (filter p xs) in
    let c = most_needed m u num den p xs (heavy g f) in
    let x : ℤ = total (share g pay (pos 1)) (at_level g pay (pos 1)) in
    let e : (pos (resource_count g) *ℤ den) *ℤ g.scale ≡ ((pos (resource_count g) *ℤ pos 1) *ℤ g.scale) *ℤ den = same_by (times (times (n (resource_count g)) (v den)) (v g.scale)) (times (times (times (n (resource_count g)) (n 1)) (v g.scale)) (v den)) (omega arith) in
    let h : den *ℤ x ≡ x *ℤ den = same_by (times (v den) (v x)) (times (v x) (v den)) (omega arith) in
    record {
      positive = omega (arith, ints);
      over = λ j low high. let one : (payoff g 1 j).ac *ℤ pos 1 ≡ (payoff g 1 j).ac = same_by (times (v (payoff g 1 j).ac) (n 1)) (v (payoff g 1 j).ac) (omega arith) in omega (arith, ints, floor.most j low high, one);
      enough = cancel-le x ((pos (resource_count g) *ℤ pos 1) *ℤ g.scale) den (omega (arith, ints, a, b, c, spends.sum, e, h)) positive;
    }

-- one more target: it pays more, or no more
pub floor_higher : (g : Game) (m t t' : ℕ) (pay pay' next : ℤ) → IsFirstMost g m t pay → next ≡ (payoff g 1 (m + 1)).ac → pay <ℤ next → t' ≡ m + 1 → pay' ≡ next → IsFirstMost g (m + 1) t' pay'
floor_higher g m t t' pay pay' next f is lt et ep = record {
  from_one = omega (arith, et);
  in_range = omega (arith, et);
  pays = ep ∙ (is ∙ ap (λ (k : ℕ). (payoff g 1 k).ac) (sym et));
  most = λ j low high. elim (cases_eq j (m + 1)) [
    | inl e ↦ subst (λ (k : ℕ). (payoff g 1 k).ac ≤ℤ pay') (sym e) (omega (arith, ints, is, ep))
    | inr ne ↦ omega (arith, ints, f.most j low (omega arith), lt, ep)
  ];
  first = λ j low high. omega (arith, ints, f.most j low (omega (arith, et)), lt, ep);
}

pub floor_stays : (g : Game) (m t t' : ℕ) (pay pay' next : ℤ) → IsFirstMost g m t pay → next ≡ (payoff g 1 (m + 1)).ac → next ≤ℤ pay → t' ≡ t → pay' ≡ pay → IsFirstMost g (m + 1) t' pay'
floor_stays g m t t' pay pay' next f is le et ep = record {
  from_one = omega (arith, et, f.from_one);
  in_range = omega (arith, et, f.in_range);
  pays = ep ∙ (f.pays ∙ ap (λ (k : ℕ). (payoff g 1 k).ac) (sym et));
  most = λ j low high. elim (cases_eq j (m + 1)) [
    | inl e ↦ subst (λ (k : ℕ). (payoff g 1 k).ac ≤ℤ pay') (sym e) (omega (arith, ints, is, ep, le))
    | inr ne ↦ omega (arith, ints, f.most j low (omega arith), ep)
  ];
  first = λ j low high. omega (arith, ints, f.first j low (omega (arith, et)), ep);
}
