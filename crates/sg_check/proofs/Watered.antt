-- A water level that holds has small parts, and so has its bound.
use Rattle.std.proofs.Common.{◌≡◌, ◌≢◌, ◌∙◌, true≢false, ℕ, ◌+◌, ◌*◌, ◌≤◌, ◌^◌, Bool, true, false, cond, List, [], ◌∷◌, ◌++◌, length, map, ℤ, pos, negsuc, ◌+ℤ◌, ◌-ℤ◌, ◌*ℤ◌, ◌≤ℤ◌, ap, sym, subst, refl, arith, inl, inr, Some}
use Rattle.std.specs.List.{All, filter}
use Rattle.std.specs.Prelude.{int_le, int_div, unsigned_abs}
use Rattle.std.specs.Int.{◌∣◌, IsGcd}
use Rattle.std.proofs.lemmas.Int.{ints, by_lt_z, unsigned_abs-mul}
use Rattle.std.proofs.lemmas.Bool.{cases_eq}
use Rattle.std.proofs.lemmas.List.{append-nil}
use Rattle.std.proofs.lemmas.List.Elements.{All-nil, All-cons, All-head, All-tail, All-weaker}
use Rattle.std.proofs.Math.Nat.{dvd-mul_left, eq-one_of_dvd-one}
use Rattle.std.proofs.lemmas.Nat.Gcd.{dvd_refl, le_of_dvd}
use Rattle.sg_num.proofs.Divisors.{dvd-coprime}
use Rattle.sg_frac.specs.Fractions.{IsReduced}
use Rattle.sg_model.specs.Sums.{total, numbers}
use Rattle.sg_model.specs.Games.{Game, payoff, resource_count}
use Rattle.sg_model.specs.Limits.{IsGame, is_scaled}
use Rattle.sg_model.specs.declared.level.Level.{Level}
use Rattle.sg_model.specs.declared.level.Level.TheVariants.{Resources, Target}
use Rattle.sg_model.proofs.Ints.{v, n, plus, less, times, same_by, mul-le, cancel-le, product_nonneg}
use Rattle.sg_model.proofs.Levels.{IsAtLevel, at_level_each, multiple_is}
use Rattle.sg_model.proofs.Numbers.{All-numbers, All-numbers-at, length-numbers_from}
use Rattle.sg_model.proofs.Best.{filter_none}
use Rattle.sg_model.proofs.Sums.{total-nonneg}
use Rattle.sg_model.proofs.Promises.{payoff-in_range}
use Rattle.std.specs.Prelude.{Option, None, MatchOption}
use Rattle.sg_game.proofs.Patrols.{numbers-more}
use Rattle.sg_game.proofs.Spreads.{greatest-append}
use Rattle.sg_model.specs.Sums.{greatest}
use Rattle.sg_model.specs.Origami.{water_bound, IsFullyCovered, IsWater, SpendsAll, at_level, count_at, gap, share}
use Rattle.sg_model.proofs.Sums.{total-append}
use Rattle.sg_num.proofs.Signs.{mul-pos}
use Rattle.sg_frac.specs.Fractions.{Fraction, IsReducedForm}
use Rattle.sg_check.specs.declared.water.Pays.{Pays}
use Rattle.sg_check.specs.Watering.{ArePays, ArePaysOf, IsBounding, ShowsBound, greatest_in, greater_of, part}
use Rattle.sg_check.specs.SmallHeights.{IsSmallHeight}
use Rattle.sg_model.specs.Fillable.{IsFillable}
use Rattle.sg_model.proofs.Spans.{Spans, multiple_bounds, spans_product, spans_total}

-- ---- sums over the targets of a level

abbrev pub multiple : Game → ℕ → ℤ
multiple g t = int_div g.scale (gap (payoff g 1 t))

pub multiple-range : (g : Game) → IsFillable g → (t : ℕ) → 1 ≤ t → t ≤ length g.goals → (pos 1 ≤ℤ multiple g t) × (multiple g t ≤ℤ pos (2 ^ 32))
multiple-range g f t low high =
    let s = f.origami.targets t low high in
    multiple_bounds (multiple g t) (gap (payoff g 1 t)) g.scale (2 ^ 32) (multiple_is g t s) (omega (arith, ints, s.attacker_loses)) f.scale_range.at_least f.scale_range.at_most

-- what counts over all is summed over those that pass
pub total-cond : (p : ℕ → Bool) (f : ℕ → ℤ) (xs : List ℕ) → total (λ t. cond (p t) (f t) (pos 0)) xs ≡ total f (filter p xs)
total-cond p f [] = refl
total-cond p f (x ∷ xs) =
    elim (p x) as (λ b. cond b (f x) (pos 0) +ℤ total (λ t. cond (p t) (f t) (pos 0)) xs ≡ total f (cond b (x ∷ filter p xs) (filter p xs))) [
      | true ↦ ap (λ (z : ℤ). f x +ℤ z) (total-cond p f xs)
      | false ↦ (let r = total-cond p f xs in omega (arith, ints, r))
    ]

pub needed-is : (g : Game) (num den : ℤ) → total (count_at g num den) (numbers (length g.goals)) ≡ total (share g num den) (at_level g num den)
needed-is g num den = total-cond (λ t. int_le num ((payoff g 1 t).au *ℤ den)) (share g num den) (numbers (length g.goals))

filter-few : {X : Type 0} (p : X → Bool) (xs : List X) → length (filter p xs) ≤ length xs
filter-few p [] = omega arith
filter-few p (x ∷ xs) =
    elim (p x) as (λ b. length (cond b (x ∷ filter p xs) (filter p xs)) ≤ length (x ∷ xs)) [ true ↦ (let r = filter-few p xs in omega (arith, r)) | false ↦ (let r = filter-few p xs in omega (arith, r)) ]

at_level-few : (g : Game) → IsFillable g → (num den : ℤ) → length (at_level g num den) ≤ 10000
at_level-few g f num den =
    let a = filter-few (λ t. int_le num ((payoff g 1 t).au *ℤ den)) (numbers (length g.goals)) in
    omega (arith, a, length-numbers_from 1 (length g.goals), f.few)

-- the shares are the denominator times the weighted payoffs, less the numerator times the multiples
total-share : (g : Game) (num den : ℤ) (xs : List ℕ)
    → total (share g num den) xs ≡ (den *ℤ total (λ t. multiple g t *ℤ (payoff g 1 t).au) xs) -ℤ (num *ℤ total (multiple g) xs)
total-share g num den [] = same_by (n 0) (less (times (v den) (n 0)) (times (v num) (n 0))) (omega arith)
total-share g num den (x ∷ xs) =
    let m : ℤ = multiple g x in let a : ℤ = (payoff g 1 x).au in
    let ws : ℤ = total (λ t. multiple g t *ℤ (payoff g 1 t).au) xs in let ms : ℤ = total (multiple g) xs in
    ap (λ (z : ℤ). share g num den x +ℤ z) (total-share g num den xs)
    ∙ same_by (plus (times (v m) (less (times (v a) (v den)) (v num))) (less (times (v den) (v ws)) (times (v num) (v ms))))
    (less (times (v den) (plus (times (v m) (v a)) (v ws))) (times (v num) (plus (v m) (v ms)))) (omega arith)

total-some : (f : ℕ → ℤ) (xs : List ℕ) → xs ≢ [] → All (λ t. pos 1 ≤ℤ f t) xs → pos 1 ≤ℤ total f xs
total-some f [] some h = absurd (some refl)
total-some f (x ∷ xs) some h =
    let first = All-head (λ t. pos 1 ≤ℤ f t) x xs h in
    let rest = rest_nonneg xs (All-tail (λ t. pos 1 ≤ℤ f t) x xs h) in
    omega (arith, ints, first, rest)
  where
    rest_nonneg : (ys : List ℕ) → All (λ t. pos 1 ≤ℤ f t) ys → pos 0 ≤ℤ total f ys
    rest_nonneg [] h = omega (arith, ints)
    rest_nonneg (y ∷ ys) h =
        let first = All-head (λ t. pos 1 ≤ℤ f t) y ys h in
        let rest = rest_nonneg ys (All-tail (λ t. pos 1 ≤ℤ f t) y ys h) in
        omega (arith, ints, first, rest)

-- ---- fractions in lowest terms

-- where num * m = den * d in lowest terms, den is at most m
den-small : (num den m d : ℤ) → pos 1 ≤ℤ den → pos 1 ≤ℤ m → IsGcd (unsigned_abs num) (unsigned_abs den) 1 → num *ℤ m ≡ den *ℤ d → den ≤ℤ m
den-small num (pos e) (pos m) d low some coprime same =
    let crossed : unsigned_abs num * m ≡ e * unsigned_abs d = sym (unsigned_abs-mul num (pos m)) ∙ (ap unsigned_abs same ∙ unsigned_abs-mul (pos e) d) in
    let turned : unsigned_abs d * e ≡ m * unsigned_abs num = omega (arith, crossed) in
    let divides : e ∣ m = dvd-coprime (unsigned_abs num) e m coprime (subst (λ z. e ∣ z) turned (dvd-mul_left e (unsigned_abs d))) in
    let le : e ≤ m = le_of_dvd (omega (arith, ints, some)) divides in
    omega (arith, ints, le)
den-small num (pos e) (negsuc m) d low some coprime same = absurd (omega (arith, ints, some))
den-small num (negsuc e) m d low some coprime same = absurd (omega (arith, ints, low))

-- and num is within what d is
num-small : (num den m d : ℤ) (most : ℕ) → pos 1 ≤ℤ den → den ≤ℤ m → num *ℤ m ≡ den *ℤ d → Spans most d → Spans most num
num-small num den m d most low le same s =
    let high = mul-le d (pos most) den s.high (omega (arith, ints, low)) in
    let least = mul-le (pos 0 -ℤ pos most) d den s.low (omega (arith, ints, low)) in
    let wide = mul-le den m (pos most) le (omega (arith, ints)) in
    let a : d *ℤ den ≡ den *ℤ d = same_by (times (v d) (v den)) (times (v den) (v d)) (omega arith) in
    let b : pos most *ℤ den ≡ den *ℤ pos most = same_by (times (n most) (v den)) (times (v den) (n most)) (omega arith) in
    let c : (pos 0 -ℤ pos most) *ℤ den ≡ pos 0 -ℤ den *ℤ pos most = same_by (times (less (n 0) (n most)) (v den)) (less (n 0) (times (v den) (n most))) (omega arith) in
    let e : m *ℤ pos most ≡ pos most *ℤ m = same_by (times (v m) (n most)) (times (n most) (v m)) (omega arith) in
    let f : (pos 0 -ℤ pos most) *ℤ m ≡ pos 0 -ℤ pos most *ℤ m = same_by (times (less (n 0) (n most)) (v m)) (less (n 0) (times (n most) (v m))) (omega arith) in
    record {
      low = cancel-le (pos 0 -ℤ pos most) num m (omega (arith, ints, least, wide, a, b, c, e, f, same)) (omega (arith, ints, low, le));
      high = cancel-le num (pos most) m (omega (arith, ints, high, wide, a, b, e, same)) (omega (arith, ints, low, le));
    }

-- ---- a level that the patrols hold up

module _ (g : Game) (game : IsGame g) (f : IsFillable g) (num den : ℤ) (reduced : IsReduced (record { num = num; den = den })) where
  pub spent-small : SpendsAll g num den → IsSmallHeight (record { num = num; den = den })
  spent-small s =
      let xs : List ℕ = at_level g num den in
      let each = at_level_each g num den in
      let m : ℤ = total (multiple g) xs in
      let w : ℤ = total (λ t. multiple g t *ℤ (payoff g 1 t).au) xs in
      let p : ℤ = pos (resource_count g) *ℤ g.scale in
      let few = at_level-few g f num den in
      let some : pos 1 ≤ℤ m = total-some (multiple g) xs s.some (All-weaker (IsAtLevel g num den) (λ t. pos 1 ≤ℤ multiple g t) (λ t h. (multiple-range g f t h.from_one h.in_range).0) xs each) in
      let ms = spans_total (multiple g) (2 ^ 32) xs (All-weaker (IsAtLevel g num den) (λ t. Spans (2 ^ 32) (multiple g t)) (λ t h. let r = multiple-range g f t h.from_one h.in_range in record { low = omega (arith, ints, r); high = r.1 }) xs each) in
      let ws = spans_total (λ t. multiple g t *ℤ (payoff g 1 t).au) (2 ^ 32 * 2 ^ 30) xs (All-weaker (IsAtLevel g num den) (λ t. Spans (2 ^ 32 * 2 ^ 30) (multiple g t *ℤ (payoff g 1 t).au))
      (λ t h. let r = multiple-range g f t h.from_one h.in_range in let a = (payoff-in_range g game 1 t).au in
      spans_product (2 ^ 32) (2 ^ 30) (multiple g t) (payoff g 1 t).au (record { low = omega (arith, ints, r); high = r.1 }) (record { low = a.at_least; high = a.at_most })) xs each) in
      let ps = spans_product 200 (2 ^ 32) (pos (resource_count g)) g.scale (record { low = omega (arith, ints); high = omega (arith, ints, f.few_patrols) }) (record { low = omega (arith, ints, f.scale_range.at_least); high = f.scale_range.at_most }) in
      let sum = sym (total-share g num den xs) ∙ s.sum in
      let turn : (pos (resource_count g) *ℤ den) *ℤ g.scale ≡ den *ℤ p = same_by (times (times (n (resource_count g)) (v den)) (v g.scale)) (times (v den) (times (n (resource_count g)) (v g.scale))) (omega arith) in
      let split : den *ℤ (w -ℤ p) ≡ den *ℤ w -ℤ den *ℤ p = same_by (times (v den) (less (v w) (v p))) (less (times (v den) (v w)) (times (v den) (v p))) (omega arith) in
      let same : num *ℤ m ≡ den *ℤ (w -ℤ p) = omega (arith, ints, sum, turn, split) in
      let le = den-small num den m (w -ℤ p) reduced.positive some reduced.coprime same in
      let top : m ≤ℤ pos (2 ^ 46) = omega (arith, ints, ms.high, few) in
      let d : Spans (2 ^ 77) (w -ℤ p) = record { low = omega (arith, ints, ws.low, ps.high, few); high = omega (arith, ints, ws.high, ps.low, few) } in
      let b = num-small num den m (w -ℤ p) (2 ^ 77) reduced.positive le same d in
      record { den = record { at_least = reduced.positive; at_most = omega (arith, ints, le, top) }; num = record { at_least = b.low; at_most = b.high } }

-- ---- the targets of a level

level_test : (num x : ℤ) → num ≤ℤ x → int_le num x ≡ true
level_test num x h = sym (omega (arith, ints, h))

level_test-not : (num x : ℤ) → (num ≤ℤ x → ⊥) → int_le num x ≡ false
level_test-not num x h = by_lt_z x num (λ lt. sym (omega (arith, ints, lt))) (λ le. absurd (h le))

all_fail : {X : Type 0} (p : X → Bool) (xs : List X) → All (λ x. p x ≡ false) xs → filter p xs ≡ []
all_fail p [] h = refl
all_fail p (x ∷ xs) h = rw (All-head (λ x. p x ≡ false) x xs h) (all_fail p xs (All-tail (λ x. p x ≡ false) x xs h))

pub level-some : (g : Game) (num den : ℤ) (t : ℕ) → 1 ≤ t → t ≤ length g.goals → num ≤ℤ ((payoff g 1 t).au *ℤ den) → at_level g num den ≢ []
level-some g num den t low high le e =
    let p : ℕ → Bool = λ t. int_le num ((payoff g 1 t).au *ℤ den) in
    let fails : p t ≡ false = All-numbers-at (λ t. p t ≡ false) (length g.goals) (filter_none p (numbers (length g.goals)) e) t low high in
    let passes : p t ≡ true = level_test num ((payoff g 1 t).au *ℤ den) le in
    true≢false (sym passes ∙ fails)

pub level-none : (g : Game) (num den : ℤ) → ((t : ℕ) → 1 ≤ t → t ≤ length g.goals → num ≤ℤ ((payoff g 1 t).au *ℤ den) → ⊥) → at_level g num den ≡ []
level-none g num den h =
    let p : ℕ → Bool = λ t. int_le num ((payoff g 1 t).au *ℤ den) in
    all_fail p (numbers (length g.goals)) (All-numbers (λ t. p t ≡ false) (length g.goals) (λ t low high. level_test-not num ((payoff g 1 t).au *ℤ den) (h t low high)))

pub count-high : (g : Game) (num den : ℤ) (t : ℕ) → num ≤ℤ ((payoff g 1 t).au *ℤ den) → count_at g num den t ≡ share g num den t
count-high g num den t h = let e = level_test num ((payoff g 1 t).au *ℤ den) h in rw e refl

pub count-low : (g : Game) (num den : ℤ) (t : ℕ) → (num ≤ℤ ((payoff g 1 t).au *ℤ den) → ⊥) → count_at g num den t ≡ pos 0
count-low g num den t h = let e = level_test-not num ((payoff g 1 t).au *ℤ den) h in rw e refl

member-le : (f : ℕ → ℤ) (xs : List ℕ) → All (λ t. pos 0 ≤ℤ f t) xs → All (λ t. f t ≤ℤ total f xs) xs
member-le f [] h = All-nil (λ t. f t ≤ℤ total f [])
member-le f (x ∷ xs) h =
    let first = All-head (λ t. pos 0 ≤ℤ f t) x xs h in
    let rest = All-tail (λ t. pos 0 ≤ℤ f t) x xs h in
    let sum = total-nonneg f xs rest in
    All-cons (λ t. f t ≤ℤ total f (x ∷ xs)) x xs (omega (arith, ints, sum)) (All-weaker (λ t. f t ≤ℤ total f xs) (λ t. f t ≤ℤ total f (x ∷ xs)) (λ t le. omega (arith, ints, le, first)) xs (member-le f xs rest))

module _ (g : Game) (f : IsFillable g) (num den : ℤ) where
  count-nonneg : (t : ℕ) → 1 ≤ t → t ≤ length g.goals → pos 0 ≤ℤ count_at g num den t
  count-nonneg t low high =
      let m = multiple-range g f t low high in
      by_lt_z ((payoff g 1 t).au *ℤ den) num
      (λ lt. let e = count-low g num den t (λ le. omega (arith, ints, lt, le)) in omega (arith, ints, e))
      (λ le. let e = count-high g num den t le in let p = product_nonneg (multiple g t) ((payoff g 1 t).au *ℤ den -ℤ num) (omega (arith, ints, m)) (omega (arith, ints, le)) in omega (arith, ints, e, p))

  spent-shares : SpendsAll g num den → pos 1 ≤ℤ den → den ≤ℤ pos (2 ^ 46)
      → (t : ℕ) → 1 ≤ t → t ≤ length g.goals → num ≤ℤ ((payoff g 1 t).au *ℤ den) → share g num den t ≤ℤ pos (2 ^ 86)
  spent-shares s den_low den_high t low high le =
      let n : ℕ = length g.goals in
      let all = All-numbers (λ t. pos 0 ≤ℤ count_at g num den t) n count-nonneg in
      let one = All-numbers-at (λ t. count_at g num den t ≤ℤ total (count_at g num den) (numbers n)) n (member-le (count_at g num den) (numbers n) all) t low high in
      let same = count-high g num den t le in
      let sum = needed-is g num den ∙ s.sum in
      let a = spans_product 200 (2 ^ 46) (pos (resource_count g)) den (record { low = omega (arith, ints); high = omega (arith, ints, f.few_patrols) }) (record { low = omega (arith, ints, den_low); high = den_high }) in
      let b = spans_product (200 * 2 ^ 46) (2 ^ 32) (pos (resource_count g) *ℤ den) g.scale a (record { low = omega (arith, ints, f.scale_range.at_least); high = f.scale_range.at_most }) in
      omega (arith, ints, one, same, sum, b.high)

-- ---- a level that a target holds up

den-one : (num den a : ℤ) → pos 1 ≤ℤ den → IsGcd (unsigned_abs num) (unsigned_abs den) 1 → a *ℤ den ≡ num → den ≡ pos 1
den-one num (pos e) a low coprime same =
    let crossed : unsigned_abs num ≡ unsigned_abs a * e = ap unsigned_abs (sym same) ∙ unsigned_abs-mul a (pos e) in
    let divides : e ∣ unsigned_abs num = subst (λ z. e ∣ z) (sym crossed) (dvd-mul_left e (unsigned_abs a)) in
    let one : e ≡ 1 = eq-one_of_dvd-one (coprime.2 e divides (dvd_refl e)) in
    ap pos one
den-one num (negsuc e) a low coprime same = absurd (omega (arith, ints, low))

module _ (g : Game) (game : IsGame g) (f : IsFillable g) (num den : ℤ) (reduced : IsReduced (record { num = num; den = den })) where
  floor-bounding : (j : ℕ) → IsFullyCovered g num den j → IsBounding g (record { num = num; den = den }) × (at_level g num den ≢ [])
  floor-bounding j h =
      let one : den ≡ pos 1 = den-one num den (payoff g 1 j).ac reduced.positive reduced.coprime h.pays in
      let a = (payoff-in_range g game 1 j).ac in
      let unit : (payoff g 1 j).ac *ℤ pos 1 ≡ (payoff g 1 j).ac = same_by (times (v (payoff g 1 j).ac) (n 1)) (v (payoff g 1 j).ac) (omega arith) in
      let is : (payoff g 1 j).ac ≡ num = sym unit ∙ (ap (λ (z : ℤ). (payoff g 1 j).ac *ℤ z) (sym one) ∙ h.pays) in
      let s = f.origami.targets j h.from_one h.in_range in
      let above = mul-le (payoff g 1 j).ac (payoff g 1 j).au den (omega (arith, ints, s.attacker_loses)) (omega (arith, ints, reduced.positive)) in (
        record {
          small = record { den = record { at_least = reduced.positive; at_most = omega (arith, ints, one) }; num = record { at_least = omega (arith, ints, is, a.at_least); at_most = omega (arith, ints, is, a.at_most) } };
          shares = λ t low high le.
              let m = multiple-range g f t low high in
              let u = (payoff-in_range g game 1 t).au in
              let uu : (payoff g 1 t).au *ℤ den ≡ (payoff g 1 t).au = ap (λ (z : ℤ). (payoff g 1 t).au *ℤ z) one ∙ same_by (times (v (payoff g 1 t).au) (n 1)) (v (payoff g 1 t).au) (omega arith) in
              let p = spans_product (2 ^ 32) (2 ^ 31) (multiple g t) ((payoff g 1 t).au *ℤ den -ℤ num) (record { low = omega (arith, ints, m); high = m.1 })
              (record { low = omega (arith, ints, uu, u.at_least, is, a.at_most); high = omega (arith, ints, uu, u.at_most, is, a.at_least) }) in
              omega (arith, ints, p.high);
        },
        level-some g num den j h.from_one h.in_range (omega (arith, ints, above, h.pays)),
      )

  pub water-bounding : (why : Level) → IsWater g num den why → IsBounding g (record { num = num; den = den }) × (at_level g num den ≢ [])
  water-bounding Resources w =
      let small = spent-small g game f num den reduced w.level in
      (record { small = small; shares = spent-shares g f num den w.level small.den.at_least small.den.at_most }, w.level.some)
  water-bounding (Target j) w = floor-bounding j w.level

-- ---- the root

pub told-scaled : (g : Game) → is_scaled g ≡ true → pos 1 ≤ℤ g.scale
told-scaled g e = omega (arith, ints, e)

pub water-shows : (g : Game) (level : Fraction) (b : Fraction) → pos 1 ≤ℤ level.den → pos 1 ≤ℤ g.scale → IsReducedForm (water_bound g level.num level.den) (level.den *ℤ g.scale) b
    → ShowsBound (record { num = water_bound g level.num level.den; den = level.den *ℤ g.scale } ∷ []) b
water-shows g level b low scaled h =
    let m = mul-pos level.den g.scale (omega (arith, ints, low)) (omega (arith, ints, scaled)) in
    (record { num = water_bound g level.num level.den; den = level.den *ℤ g.scale }, refl, omega (arith, ints, m), h)

-- ---- what is formed of one target

pub count-made : (g : Game) (num den : ℤ) (t : ℕ) (p : Pays) → ArePaysOf g t p → num ≤ℤ (p.uncovered *ℤ den) → p.multiple *ℤ (p.uncovered *ℤ den -ℤ num) ≡ count_at g num den t
count-made g num den t p h le =
    let high : num ≤ℤ ((payoff g 1 t).au *ℤ den) = subst (λ (u : ℤ). num ≤ℤ (u *ℤ den)) h.uncovered le in
    (λ i. h.multiple i *ℤ (h.uncovered i *ℤ den -ℤ num)) ∙ sym (count-high g num den t high)

pub share-nonneg : (p : Pays) (num den : ℤ) → ArePays p → num ≤ℤ (p.uncovered *ℤ den) → pos 0 ≤ℤ (p.multiple *ℤ (p.uncovered *ℤ den -ℤ num))
share-nonneg p num den h le = product_nonneg p.multiple (p.uncovered *ℤ den -ℤ num) (omega (arith, ints, h.multiple.at_least)) (omega (arith, ints, le))

pub part-made : (g : Game) (h : Fraction) (t : ℕ) (p : Pays) (whole : ℤ) → ArePaysOf g t p → whole ≡ h.den *ℤ g.scale
    → (p.least *ℤ whole) +ℤ (p.gain *ℤ (p.multiple *ℤ (p.uncovered *ℤ h.den -ℤ h.num))) ≡ part g h t
part-made g h t p whole a e = (λ i. (a.least i *ℤ e i) +ℤ (a.gain i *ℤ (a.multiple i *ℤ (a.uncovered i *ℤ h.den -ℤ h.num))))

-- ---- sums over targets so far

pub record IsNeeded (g : Game) (num den : ℤ) (i : ℕ) (sum : ℤ) : Type 0 where
  pub value : sum ≡ total (count_at g num den) (numbers i)
  pub low : pos 0 ≤ℤ sum
  pub high : sum ≤ℤ pos (i * 2 ^ 110)

pub needed-more : (g : Game) (num den : ℤ) (i : ℕ) (sum one next : ℤ) → IsNeeded g num den i sum → one ≡ count_at g num den (i + 1) → pos 0 ≤ℤ one → one ≤ℤ pos (2 ^ 110) → next ≡ sum +ℤ one
    → IsNeeded g num den (i + 1) next
needed-more g num den i sum one next h e low high is =
    let all : total (count_at g num den) (numbers (i + 1)) ≡ total (count_at g num den) (numbers i) +ℤ (count_at g num den (i + 1) +ℤ pos 0) =
    ap (total (count_at g num den)) (numbers-more i) ∙ total-append (count_at g num den) (numbers i) ((i + 1) ∷ []) in
    record {
      value = omega (arith, ints, all, h.value, e, is);
      low = omega (arith, ints, h.low, low, is);
      high = omega (arith, ints, h.high, high, is);
    }

-- ---- the greatest part so far

abbrev pub level_test_at : Game → ℤ → ℤ → ℕ → Bool
level_test_at g num den t = int_le num ((payoff g 1 t).au *ℤ den)

joined-append : (xs ys : List ℤ) → greater_of (greatest_in xs) (greatest_in ys) ≡ greatest_in (xs ++ ys)
joined-append [] ys = refl
joined-append (x ∷ xs) [] = ap (λ (zs : List ℤ). Some (greatest (x ∷ zs))) (sym (append-nil xs))
joined-append (x ∷ xs) (y ∷ ys) = ap Some (sym (greatest-append (x ∷ xs) (y ∷ ys) (λ e. cc) (λ e. cc)))

filter-append : {X : Type 0} (p : X → Bool) (xs ys : List X) → filter p (xs ++ ys) ≡ filter p xs ++ filter p ys
filter-append p [] ys = refl
filter-append {X = X} p (x ∷ xs) ys =
    elim (p x) as (λ b. cond b (x ∷ filter p (xs ++ ys)) (filter p (xs ++ ys)) ≡ cond b (x ∷ filter p xs) (filter p xs) ++ filter p ys) [
      | true ↦ ap (λ (zs : List X). x ∷ zs) (filter-append p xs ys)
      | false ↦ filter-append p xs ys
    ]

map-append : (f : ℕ → ℤ) (xs ys : List ℕ) → map f (xs ++ ys) ≡ map f xs ++ map f ys
map-append f [] ys = refl
map-append f (x ∷ xs) ys = ap (λ (zs : List ℤ). f x ∷ zs) (map-append f xs ys)

one_part : (f : ℕ → ℤ) (p : ℕ → Bool) (t : ℕ) (H : Type 0) (o : Option ℤ) → (H → p t ≡ true) → ((H → ⊥) → p t ≡ false) → MatchOption o (H → ⊥) (λ z. H × (z ≡ f t)) → o ≡ greatest_in (map f (filter p (t ∷ [])))
one_part f p t H (Some z) good bad h = rw (good h.0) (ap Some h.1)
one_part f p t H None good bad h = rw (bad h) refl

pub greatest-more : (g : Game) (h : Fraction) (i : ℕ) (best one next : Option ℤ) → best ≡ greatest_in (map (part g h) (filter (level_test_at g h.num h.den) (numbers i)))
    → MatchOption one ((h.num ≤ℤ ((payoff g 1 (i + 1)).au *ℤ h.den)) → ⊥) (λ z. (h.num ≤ℤ ((payoff g 1 (i + 1)).au *ℤ h.den)) × (z ≡ part g h (i + 1)))
    → next ≡ greater_of best one → next ≡ greatest_in (map (part g h) (filter (level_test_at g h.num h.den) (numbers (i + 1))))
greatest-more g h i best one next e m is =
    let p : ℕ → Bool = level_test_at g h.num h.den in
    let H : Type 0 = h.num ≤ℤ ((payoff g 1 (i + 1)).au *ℤ h.den) in
    let last : one ≡ greatest_in (map (part g h) (filter p ((i + 1) ∷ []))) =
    one_part (part g h) p (i + 1) H one (level_test h.num ((payoff g 1 (i + 1)).au *ℤ h.den)) (level_test-not h.num ((payoff g 1 (i + 1)).au *ℤ h.den)) m in
    let split : map (part g h) (filter p (numbers (i + 1))) ≡ map (part g h) (filter p (numbers i)) ++ map (part g h) (filter p ((i + 1) ∷ [])) =
    ap (λ (xs : List ℕ). map (part g h) (filter p xs)) (numbers-more i) ∙ (ap (map (part g h)) (filter-append p (numbers i) ((i + 1) ∷ [])) ∙ map-append (part g h) (filter p (numbers i)) (filter p ((i + 1) ∷ []))) in
    is ∙ ((λ j. greater_of (e j) (last j)) ∙ (joined-append (map (part g h) (filter p (numbers i))) (map (part g h) (filter p ((i + 1) ∷ []))) ∙ ap greatest_in (sym split)))

pub none-more : (g : Game) (num den : ℤ) (i : ℕ) → ((t : ℕ) → 1 ≤ t → t ≤ i → num ≤ℤ ((payoff g 1 t).au *ℤ den) → ⊥) → (num ≤ℤ ((payoff g 1 (i + 1)).au *ℤ den) → ⊥)
    → (t : ℕ) → 1 ≤ t → t ≤ i + 1 → num ≤ℤ ((payoff g 1 t).au *ℤ den) → ⊥
none-more g num den i before this t low high le = elim (cases_eq t (i + 1)) [
  | inl e ↦ this (subst (λ (s : ℕ). num ≤ℤ ((payoff g 1 s).au *ℤ den)) e le)
  | inr ne ↦ before t low (omega (arith, high, ne)) le
]
