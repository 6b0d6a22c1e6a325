-- Sums of the targets of a level for which there is not enough.
use Rattle.std.proofs.Common.{◌≡◌, ◌≢◌, ◌^◌, List, [], ℤ, pos, ◌-ℤ◌, ◌*ℤ◌, ◌≤ℤ◌, sym, ◌∙◌, ap, subst, arith}
use Rattle.std.specs.List.{All, filter}
use Rattle.std.proofs.lemmas.Int.{ints}
use Rattle.sg_model.specs.Sums.{total}
use Rattle.sg_origami.specs.Rates.{RateView}
use Rattle.sg_origami.specs.Rates.{IsRate, is_above, multiple_of, need_of, uncovered_of, weighted_of}
use Rattle.sg_origami.proofs.Rise.{Short, Heavy, next_num, slopes, still_short, just_enough, short_below_all, none_no_slopes}

-- the sums of a level for whose targets there is no more than they need
pub record Lags (rates : List RateView) (have multiples weights : ℤ) : Type 0 where
  pub num : ℤ
  pub den : ℤ
  pub short : Short multiple_of uncovered_of rates have num den
  pub multiples_is : multiples ≡ total multiple_of (filter (is_above num den) rates)
  pub weights_is : weights ≡ total weighted_of (filter (is_above num den) rates)

heavy : (rates : List RateView) → All IsRate rates → All (Heavy multiple_of uncovered_of) rates
heavy rates h = λ i d lt. (h i d lt).multiple.at_least

pub lags_start : (rates : List RateView) → All IsRate rates → rates ≢ [] → (have num multiples weights : ℤ) → pos 0 ≤ℤ have → num ≡ (pos 0 -ℤ pos (2 ^ 30)) -ℤ have
    → multiples ≡ total multiple_of (filter (is_above num (pos 1)) rates) → weights ≡ total weighted_of (filter (is_above num (pos 1)) rates) → Lags rates have multiples weights
lags_start rates h some have num multiples weights room e a b = record {
  num = num;
  den = pos 1;
  short = subst (λ (z : ℤ). Short multiple_of uncovered_of rates have z (pos 1)) (sym e)
      (short_below_all multiple_of uncovered_of (pos 0 -ℤ pos (2 ^ 30)) have rates some (heavy rates h) (λ i d lt. (h i d lt).uncovered.at_least) room);
  multiples_is = a;
  weights_is = b;
}

-- the sums at the next level
pub lags_next : (rates : List RateView) → All IsRate rates → (have multiples weights more heavier : ℤ) → pos 0 ≤ℤ have → Lags rates have multiples weights
    → more ≡ total multiple_of (filter (is_above (weights -ℤ have) multiples) rates) → heavier ≡ total weighted_of (filter (is_above (weights -ℤ have) multiples) rates) → Lags rates have more heavier
lags_next rates h have multiples weights more heavier room l a b =
    let ys : List RateView = filter (is_above l.num l.den) rates in
    let num_is : (weights -ℤ have) ≡ next_num multiple_of uncovered_of have ys = ap (λ (z : ℤ). z -ℤ have) l.weights_is in
    record {
      num = weights -ℤ have;
      den = multiples;
      short = subst (λ (z : ℤ). Short multiple_of uncovered_of rates have z multiples) (sym num_is)
          (subst (λ (z : ℤ). Short multiple_of uncovered_of rates have (next_num multiple_of uncovered_of have ys) z) (sym l.multiples_is)
          (still_short multiple_of uncovered_of rates have l.num l.den (heavy rates h) room l.short));
      multiples_is = a;
      weights_is = b;
    }

-- a level whose targets need just what there is
pub record IsSpent (rates : List RateView) (have num den : ℤ) : Type 0 where
  pub some : filter (is_above num den) rates ≢ []
  pub spends : total (need_of num den) (filter (is_above num den) rates) ≡ have *ℤ den

pub lags_done : (rates : List RateView) → All IsRate rates → (have multiples weights more : ℤ) → pos 0 ≤ℤ have → Lags rates have multiples weights
    → more ≡ total multiple_of (filter (is_above (weights -ℤ have) multiples) rates) → multiples ≤ℤ more → IsSpent rates have (weights -ℤ have) multiples
lags_done rates h have multiples weights more room l a kept =
    let m = multiple_of in
    let u = uncovered_of in
    let ys : List RateView = filter (is_above l.num l.den) rates in
    let num_is : (weights -ℤ have) ≡ next_num m u have ys = ap (λ (z : ℤ). z -ℤ have) l.weights_is in
    let next = still_short m u rates have l.num l.den (heavy rates h) room l.short in
    let more_is : more ≡ total m (filter (is_above (next_num m u have ys) (slopes m u ys)) rates) =
    a ∙ (ap (λ (z : ℤ). total m (filter (is_above z multiples) rates)) num_is ∙ ap (λ (z : ℤ). total m (filter (is_above (next_num m u have ys) z) rates)) l.multiples_is) in
    let enough = just_enough m u rates have l.num l.den (heavy rates h) l.short (omega (arith, ints, kept, more_is, l.multiples_is)) in
    subst (λ (z : ℤ). IsSpent rates have z multiples) (sym num_is)
    (subst (λ (z : ℤ). IsSpent rates have (next_num m u have ys) z) (sym l.multiples_is)
    (record { some = none_no_slopes m u (filter (is_above (next_num m u have ys) (slopes m u ys)) rates) next.some; spends = enough }))

-- the same level, written otherwise
pub sums_as : (f : RateView → ℤ) (rates : List RateView) (num den num' den' z : ℤ) → num' ≡ num → den' ≡ den
    → z ≡ total f (filter (is_above num' den') rates) → z ≡ total f (filter (is_above num den) rates)
sums_as f rates num den num' den' z n d e = e ∙ ((λ i. total f (filter (is_above (n i) (d i)) rates)))

pub spent_as : (rates : List RateView) (have num den num' den' : ℤ) → num' ≡ num → den' ≡ den → IsSpent rates have num den → IsSpent rates have num' den'
spent_as rates have num den num' den' n d s = subst (λ (z : ℤ). IsSpent rates have z den') (sym n) (subst (λ (z : ℤ). IsSpent rates have num z) (sym d) s)
