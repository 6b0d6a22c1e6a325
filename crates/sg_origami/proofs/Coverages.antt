-- The counts of a level, over their greatest common divisor, are the coverage that it asks.
use Rattle.std.proofs.Common.{◌≡◌, ℕ, zero, suc, ◌-◌, ◌*◌, ◌/◌, ◌<◌, ◌≤◌, ◌^◌, Bool, true, false, cond, List, length, map, sym, ◌∙◌, ap, subst, refl, arith, get_or}
use Rattle.std.specs.Prelude.{ℤ, pos, negsuc, ◌-ℤ◌, ◌*ℤ◌, ◌≤ℤ◌, int_div, int_le, unsigned_abs}
use Rattle.std.specs.Int.{◌∣◌}
use Rattle.std.specs.List.{All}
use Rattle.std.proofs.lemmas.Int.{ints, unsigned_abs-mul}
use Rattle.std.proofs.lemmas.List.{length-map}
use Rattle.std.proofs.lemmas.List.Elements.{All-map}
use Rattle.std.proofs.Math.Nat.{mul-div_cancel', mul-dvd-mul_right, dvd_of_mul-dvd-mul_right, eq-one_of_dvd-one, eq-zero_of_zero-dvd}
use Rattle.std.proofs.lemmas.Nat.Gcd.{le_of_dvd}
use Rattle.sg_model.specs.Sums.{total, numbers, nth}
use Rattle.sg_model.specs.Games.{Game, payoff, resource_count}
use Rattle.sg_model.specs.Limits.{IsWithin}
use Rattle.sg_model.specs.Origami.{gap, share, count_at}
use Rattle.sg_model.proofs.Ints.{v, n, less, times, same_by, le_by, le_from, mul-le, product_nonneg, cancel-le, factor_positive}
use Rattle.sg_model.proofs.Levels.{multiple_is}
use Rattle.sg_model.proofs.Numbers.{All-numbers, All-numbers-at, length-numbers_from, nth-map, nth-numbers_from}
use Rattle.sg_model.proofs.Best.{All-from_map}
use Rattle.sg_model.proofs.Sums.{total-same, total-scaled}
use Rattle.sg_origami.specs.Fillings.{IsCoverage}
use Rattle.sg_model.specs.Fillable.{IsFillable}
use Rattle.sg_origami.specs.Rates.{IsReachable, IsCountDivisor, multiple}
use Rattle.sg_model.proofs.Spans.{Spans, spans_product}
use Rattle.sg_origami.proofs.Counts.{count_bounds, counts_few}
use Rattle.sg_model.proofs.Spans.{spans_factor}
use Rattle.sg_origami.proofs.Rated.{total-map}

-- counts and tickets over one number
pub record AreOver (g : Game) (num den : ℤ) (d : ℕ) (tickets : ℤ) (count : ℕ → ℤ) : Type 0 where
  pub some : 1 ≤ d
  pub whole : tickets *ℤ pos d ≡ g.scale *ℤ den
  pub each : (t : ℕ) → 1 ≤ t → t ≤ length g.goals → count t *ℤ pos d ≡ count_at g num den t

divided : (z : ℤ) (d : ℕ) → pos 0 ≤ℤ z → d ∣ unsigned_abs z → int_div z (pos d) *ℤ pos d ≡ z
divided (pos k) d h p = let e : d * (k / d) ≡ k = mul-div_cancel' d p in omega (arith, ints, e)
divided (negsuc k) d h p = absurd (omega (arith, ints, h))

whole_bounds : (g : Game) → IsFillable g → (den : ℤ) → pos 1 ≤ℤ den → den ≤ℤ pos (2 ^ 46) → (pos 1 ≤ℤ (g.scale *ℤ den)) × Spans (2 ^ 78) (g.scale *ℤ den)
whole_bounds g f den low high =
    let s = f.origami.scaled in
    let w = spans_product (2 ^ 32) (2 ^ 46) g.scale den (record { low = omega (arith, ints, s); high = f.scale_range.at_most }) (record { low = omega (arith, ints, low); high = high }) in
    let p = product_nonneg (g.scale -ℤ pos 1) den (omega (arith, ints, s)) (omega (arith, ints, low)) in
    let q : den ≤ℤ (g.scale *ℤ den) = le_by (v den) (times (v g.scale) (v den)) (omega (arith, le_from (n 0) (times (less (v g.scale) (n 1)) (v den)) p)) in
    (omega (arith, ints, q, low), record { low = omega (arith, ints, w.low); high = omega (arith, ints, w.high) })

-- a divisor of a number above 0
divisor_bounds : (z : ℤ) (d m : ℕ) → pos 1 ≤ℤ z → z ≤ℤ pos m → d ∣ unsigned_abs z → (1 ≤ d) × (d ≤ m)
divisor_bounds (pos k) zero m low high p = let e : k ≡ 0 = eq-zero_of_zero-dvd p in absurd (omega (arith, ints, low, e))
divisor_bounds (pos k) (suc d) m low high p =
    let some : 0 < k = omega (arith, ints, low) in
    let le = le_of_dvd some p in
    (omega arith, omega (arith, ints, le, high))
divisor_bounds (negsuc k) d m low high p = absurd (omega (arith, ints, low))

pub are_over : (g : Game) (num den : ℤ) → IsFillable g → IsReachable g num den → den ≤ℤ pos (2 ^ 46) → (d : ℕ)
    → IsCountDivisor g num den (unsigned_abs (g.scale *ℤ den)) (length g.goals) d
    → AreOver g num den d (int_div (g.scale *ℤ den) (pos d)) (λ t. int_div (count_at g num den t) (pos d))
are_over g num den f r high d i =
    let w = whole_bounds g f den r.positive high in
    record {
      some = (divisor_bounds (g.scale *ℤ den) d (2 ^ 78) w.0 w.1.high i.of_whole).0;
      whole = divided (g.scale *ℤ den) d (omega (arith, ints, w.0)) i.of_whole;
      each = λ t from_one in_range. divided (count_at g num den t) d (count_bounds g num den f r t from_one in_range).0 (i.of_each t from_one in_range);
    }

tickets_some : (g : Game) → IsFillable g → (num den : ℤ) → pos 1 ≤ℤ den → den ≤ℤ pos (2 ^ 46) → (d : ℕ) (tickets : ℤ) (count : ℕ → ℤ) → AreOver g num den d tickets count → IsWithin (pos 1) (pos (2 ^ 78)) tickets
tickets_some g f num den low high d tickets count o =
    let w = whole_bounds g f den low high in
    let s = o.some in
    record {
      at_least = factor_positive tickets (pos d) (g.scale *ℤ den) o.whole w.0 (omega (arith, ints));
      at_most = (spans_factor (2 ^ 78) (g.scale *ℤ den) tickets (pos d) (sym o.whole) (omega (arith, ints, s)) w.1).high;
    }

count_within : (g : Game) (num den : ℤ) → IsFillable g → IsReachable g num den → (d : ℕ) (tickets : ℤ) (count : ℕ → ℤ) → AreOver g num den d tickets count
    → (t : ℕ) → 1 ≤ t → t ≤ length g.goals → IsWithin (pos 0) tickets (count t)
count_within g num den f r d tickets count o t from_one in_range =
    let b = count_bounds g num den f r t from_one in_range in
    let e = o.each t from_one in_range in
    let s = o.some in
    let w = o.whole in
    let zero_times : pos 0 *ℤ pos d ≡ pos 0 = same_by (times (n 0) (n d)) (n 0) (omega arith) in
    record {
      at_least = cancel-le (pos 0) (count t) (pos d) (omega (arith, ints, b.0, e, zero_times)) (omega (arith, ints, s));
      at_most = cancel-le (count t) tickets (pos d) (omega (arith, ints, b.1, e, w)) (omega (arith, ints, s));
    }

counts_few_over : (g : Game) (num den : ℤ) → IsReachable g num den → (d : ℕ) (tickets : ℤ) (count : ℕ → ℤ) → AreOver g num den d tickets count
    → total count (numbers (length g.goals)) ≤ℤ (pos (resource_count g) *ℤ tickets)
counts_few_over g num den r d tickets count o =
    let xs : List ℕ = numbers (length g.goals) in
    let few = counts_few g num den r in
    let scaled = total-scaled count (pos d) xs in
    let each : All (λ t. (pos d *ℤ count t) ≡ count_at g num den t) xs =
    All-numbers (λ t. (pos d *ℤ count t) ≡ count_at g num den t) (length g.goals) (λ t low high. same_by (times (n d) (v (count t))) (times (v (count t)) (n d)) (omega arith) ∙ o.each t low high) in
    let same = total-same (λ t. pos d *ℤ count t) (count_at g num den) xs each in
    let x : ℤ = total count xs in
    let turn : pos d *ℤ x ≡ x *ℤ pos d = same_by (times (n d) (v x)) (times (v x) (n d)) (omega arith) in
    let whole : (pos (resource_count g) *ℤ tickets) *ℤ pos d ≡ (pos (resource_count g) *ℤ den) *ℤ g.scale =
    same_by (times (times (n (resource_count g)) (v tickets)) (n d)) (times (n (resource_count g)) (times (v tickets) (n d))) (omega arith)
    ∙ (ap (λ (z : ℤ). pos (resource_count g) *ℤ z) o.whole ∙ same_by (times (n (resource_count g)) (times (v g.scale) (v den))) (times (times (n (resource_count g)) (v den)) (v g.scale)) (omega arith)) in
    let s = o.some in
    cancel-le x (pos (resource_count g) *ℤ tickets) (pos d) (omega (arith, ints, few, scaled, same, turn, whole)) (omega (arith, ints, s))

share_over : (g : Game) (num den : ℤ) (d : ℕ) (tickets : ℤ) (count : ℕ → ℤ) → AreOver g num den d tickets count
    → (t : ℕ) → 1 ≤ t → t ≤ length g.goals → count t *ℤ (den *ℤ g.scale) ≡ count_at g num den t *ℤ tickets
share_over g num den d tickets count o t low high =
    let c : ℤ = count t in
    ap (λ (z : ℤ). c *ℤ z) (same_by (times (v den) (v g.scale)) (times (v g.scale) (v den)) (omega arith) ∙ sym o.whole)
    ∙ (same_by (times (v c) (times (v tickets) (n d))) (times (times (v c) (n d)) (v tickets)) (omega arith) ∙ ap (λ (z : ℤ). z *ℤ tickets) (o.each t low high))

-- covered in its share, a target of the level pays just the level
enough_high : (au gap num den scale m c tickets : ℤ) → m *ℤ gap ≡ scale → c *ℤ (den *ℤ scale) ≡ (m *ℤ (au *ℤ den -ℤ num)) *ℤ tickets → pos 1 ≤ℤ scale
    → ((au *ℤ tickets -ℤ gap *ℤ c) *ℤ den) ≤ℤ (num *ℤ tickets)
enough_high au gap num den scale m c tickets e share some =
    let a = v au in let g = v gap in let x = v num in let y = v den in let s = v scale in let k = v m in let q = v c in let t = v tickets in
    let paid : ℤ = ((au *ℤ tickets) *ℤ den) *ℤ scale in
    let same : ((au *ℤ tickets -ℤ gap *ℤ c) *ℤ den) *ℤ scale ≡ (num *ℤ tickets) *ℤ scale =
    same_by (times (times (less (times a t) (times g q)) y) s) (less (times (times (times a t) y) s) (times g (times q (times y s)))) (omega arith)
    ∙ (ap (λ (z : ℤ). paid -ℤ gap *ℤ z) share
    ∙ (same_by (less (times (times (times a t) y) s) (times g (times (times k (less (times a y) x)) t))) (less (times (times (times a t) y) s) (times (times k g) (times (less (times a y) x) t))) (omega arith)
    ∙ (ap (λ (z : ℤ). paid -ℤ z *ℤ ((au *ℤ den -ℤ num) *ℤ tickets)) e
    ∙ same_by (less (times (times (times a t) y) s) (times s (times (less (times a y) x) t))) (times (times x t) s) (omega arith)))) in
    cancel-le ((au *ℤ tickets -ℤ gap *ℤ c) *ℤ den) (num *ℤ tickets) scale (omega (arith, ints, same)) some

-- any other pays less than the level, covered or not
enough_low : (au gap num den c tickets : ℤ) → (au *ℤ den) ≤ℤ num → pos 0 ≤ℤ gap → pos 0 ≤ℤ c → pos 0 ≤ℤ den → pos 0 ≤ℤ tickets
    → ((au *ℤ tickets -ℤ gap *ℤ c) *ℤ den) ≤ℤ (num *ℤ tickets)
enough_low au gap num den c tickets below some covered positive there =
    let p = product_nonneg (gap *ℤ c) den (product_nonneg gap c some covered) positive in
    let q = mul-le (au *ℤ den) num tickets below there in
    le_by (times (less (times (v au) (v tickets)) (times (v gap) (v c))) (v den)) (times (v num) (v tickets))
    (omega (arith, le_from (n 0) (times (times (v gap) (v c)) (v den)) p, le_from (times (times (v au) (v den)) (v tickets)) (times (v num) (v tickets)) q))

enough_over : (g : Game) (num den : ℤ) → IsFillable g → IsReachable g num den → den ≤ℤ pos (2 ^ 46) → (d : ℕ) (tickets : ℤ) (count : ℕ → ℤ) → AreOver g num den d tickets count
    → (t : ℕ) → 1 ≤ t → t ≤ length g.goals → (((payoff g 1 t).au *ℤ tickets -ℤ gap (payoff g 1 t) *ℤ count t) *ℤ den) ≤ℤ (num *ℤ tickets)
enough_over g num den f r high d tickets count o t low in_range =
    let p = payoff g 1 t in
    let s = f.origami.targets t low in_range in
    let share_is = share_over g num den d tickets count o t low in_range in
    let within = count_within g num den f r d tickets count o t low in_range in
    let some = tickets_some g f num den r.positive high d tickets count o in
    let test : Bool = int_le num (p.au *ℤ den) in
    elim test as (λ (b : Bool). test ≡ b → count t *ℤ (den *ℤ g.scale) ≡ (cond b (share g num den t) (pos 0)) *ℤ tickets → ((p.au *ℤ tickets -ℤ gap p *ℤ count t) *ℤ den) ≤ℤ (num *ℤ tickets)) [
      | true ↦ (λ e k. enough_high p.au (gap p) num den g.scale (multiple g t) (count t) tickets (multiple_is g t s) k f.origami.scaled)
      | false ↦ (λ e k. enough_low p.au (gap p) num den (count t) tickets (omega (arith, ints, e)) (omega (arith, ints, s.attacker_loses)) within.at_least (omega (arith, ints, r.positive)) (omega (arith, ints, some.at_least)))
    ] refl share_is

-- what divides the tickets and the counts divides the whole and the counts at the level, once more
times_over : (z y : ℤ) (e d : ℕ) → z *ℤ pos d ≡ y → e ∣ unsigned_abs z → e * d ∣ unsigned_abs y
times_over z y e d same p = subst (λ (k : ℕ). e * d ∣ k) (sym (unsigned_abs-mul z (pos d)) ∙ ap unsigned_abs same) (mul-dvd-mul_right e p d)

lowest_over : (g : Game) (num den : ℤ) (d : ℕ) → IsCountDivisor g num den (unsigned_abs (g.scale *ℤ den)) (length g.goals) d → (tickets : ℤ) (count : ℕ → ℤ) → AreOver g num den d tickets count
    → (e : ℕ) → e ∣ unsigned_abs tickets → ((t : ℕ) → 1 ≤ t → t ≤ length g.goals → e ∣ unsigned_abs (count t)) → e ≡ 1
lowest_over g num den d i tickets count o e p q =
    let s = o.some in
    let more : e * d ∣ d = i.greatest (e * d) (times_over tickets (g.scale *ℤ den) e d o.whole p) (λ t low high. times_over (count t) (count_at g num den t) e d (o.each t low high) (q t low high)) in
    let one : d ≡ 1 * d = omega arith in
    eq-one_of_dvd-one (dvd_of_mul-dvd-mul_right {k = d} e {n = 1} (omega arith) (subst (λ (k : ℕ). e * d ∣ k) one more))

-- the counts as a list
counts_at : (g : Game) (count : ℕ → ℤ) (t : ℕ) → 1 ≤ t → t ≤ length g.goals → nth (map count (numbers (length g.goals))) t (pos 0) ≡ count t
counts_at g count t low high =
    let m : ℕ = length g.goals in
    let at : get_or (numbers m) (t - 1) 0 ≡ t = omega (arith, nth-numbers_from 1 m (t - 1) 0 (omega arith)) in
    nth-map count (numbers m) t (pos 0) 0 low (omega (arith, length-numbers_from 1 m)) ∙ ap count at

coverage_over : (g : Game) (num den : ℤ) → IsFillable g → IsReachable g num den → den ≤ℤ pos (2 ^ 46) → (d : ℕ)
    → IsCountDivisor g num den (unsigned_abs (g.scale *ℤ den)) (length g.goals) d → (tickets : ℤ) (count : ℕ → ℤ) → AreOver g num den d tickets count
    → IsCoverage g num den (map count (numbers (length g.goals))) tickets
coverage_over g num den f r high d i tickets count o =
    let m : ℕ = length g.goals in
    let xs : List ℕ = numbers m in
    record {
      ticket_range = tickets_some g f num den r.positive high d tickets count o;
      one_each = length-map xs count ∙ length-numbers_from 1 m;
      within = All-map (IsWithin (pos 0) tickets) count xs (All-numbers (λ t. IsWithin (pos 0) tickets (count t)) m (count_within g num den f r d tickets count o));
      few = subst (λ (z : ℤ). z ≤ℤ (pos (resource_count g) *ℤ tickets)) (sym (total-map (λ (z : ℤ). z) count xs)) (counts_few_over g num den r d tickets count o);
      shares = λ t low in_range. ap (λ (z : ℤ). z *ℤ (den *ℤ g.scale)) (counts_at g count t low in_range) ∙ share_over g num den d tickets count o t low in_range;
      enough = λ t low in_range. subst (λ (z : ℤ). (((payoff g 1 t).au *ℤ tickets -ℤ gap (payoff g 1 t) *ℤ z) *ℤ den) ≤ℤ (num *ℤ tickets)) (sym (counts_at g count t low in_range)) (enough_over g num den f r high d tickets count o t low in_range);
      lowest = λ e p q. lowest_over g num den d i tickets count o e p (All-numbers-at (λ t. e ∣ unsigned_abs (count t)) m (All-from_map count (λ z. e ∣ unsigned_abs z) xs q));
    }

pub coverage_is : (g : Game) (num den : ℤ) → IsFillable g → IsReachable g num den → den ≤ℤ pos (2 ^ 46) → (d : ℕ)
    → IsCountDivisor g num den (unsigned_abs (g.scale *ℤ den)) (length g.goals) d → (counts : List ℤ) (tickets : ℤ)
    → counts ≡ map (λ t. int_div (count_at g num den t) (pos d)) (numbers (length g.goals)) → tickets ≡ int_div (g.scale *ℤ den) (pos d) → IsCoverage g num den counts tickets
coverage_is g num den f r high d i counts tickets e k =
    rw (e, k) (coverage_over g num den f r high d i (int_div (g.scale *ℤ den) (pos d)) (λ t. int_div (count_at g num den t) (pos d)) (are_over g num den f r high d i))

-- the whole and the divisor that the code computes
pub whole_by : (scale den s d whole whole' : ℤ) → whole' ≡ whole → whole ≡ s *ℤ d → s ≡ scale → d ≡ den → whole' ≡ scale *ℤ den
whole_by scale den s d whole whole' w k x y = w ∙ (k ∙ (ap (λ (z : ℤ). z *ℤ d) x ∙ ap (λ (z : ℤ). scale *ℤ z) y))

pub divisor_is : (g : Game) (num den : ℤ) (a d : ℕ) (s den' whole whole' : ℤ) → IsCountDivisor g num den a (length g.goals) d → a ≡ unsigned_abs whole' → whole' ≡ whole → whole ≡ s *ℤ den' → s ≡ g.scale → den' ≡ den
    → IsCountDivisor g num den (unsigned_abs (g.scale *ℤ den)) (length g.goals) d
divisor_is g num den a d s den' whole whole' i e w k x y =
    subst (λ (z : ℕ). IsCountDivisor g num den z (length g.goals) d) (e ∙ ap unsigned_abs (whole_by g.scale den s den' whole whole' w k x y)) i

pub whole_within : (g : Game) → IsFillable g → (den : ℤ) → pos 1 ≤ℤ den → den ≤ℤ pos (2 ^ 46) → (d : ℕ) → d ∣ unsigned_abs (g.scale *ℤ den) → (1 ≤ d) × (d ≤ 2 ^ 78)
whole_within g f den low high d p = let w = whole_bounds g f den low high in divisor_bounds (g.scale *ℤ den) d (2 ^ 78) w.0 w.1.high p
