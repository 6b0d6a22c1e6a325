use Rattle.std.proofs.Common.{arith, ◌∙◌, ap, refl, ◌≡◌, ◌^◌, ◌<◌, ℤ, ◌-ℤ◌, ◌≤ℤ◌, pos}
use Rattle.std.specs.Int.{w128}
use Rattle.std.specs.Prelude.{FitsSigned}
use Rattle.std.proofs.lemmas.Int.{ints, to_z-of_z}
use borrow.Author.Differences.{up}
use Rattle.sg_frac.specs.Fractions.{Fraction}
use Rattle.sg_origami.specs.Rates.{multiple_of, weighted_of}
use Rattle.sg_origami.proofs.Lags.{IsSpent, lags_start, lags_next, lags_done, spent_as, sums_as}
use Rattle.sg_origami.proofs.level.spent_level.Goals as goal

pub rise-init : goal.rise-init
rise-init c =
    let r = c.requires in
    let have : ℤ = c.args.have in
    let low : Fraction = c.of-lowest.result in
    let num : low.num ≡ (pos 0 -ℤ pos (2 ^ 30)) -ℤ have = ap (λ (f : Fraction). f.num) c.of-lowest.ensures ∙ omega (arith, ints, r.have.at_least, r.have.at_most, c.from.ensures) in
    let den : low.den ≡ pos 1 = ap (λ (f : Fraction). f.den) c.of-lowest.ensures ∙ omega (arith, ints) in
    let fits : FitsSigned w128 have = c.ranges.have in
    let multiples = sums_as multiple_of c.args.rates.now low.num (pos 1) low.num low.den c.sums_at-sums.result.multiples refl den c.sums_at-sums.ensures.multiples in
    let weights = sums_as weighted_of c.args.rates.now low.num (pos 1) low.num low.den c.sums_at-sums.result.weighted refl den c.sums_at-sums.ensures.weighted in
    record {
      lags = simp to_z-of_z (lags_start c.args.rates.now r.rates r.some have low.num c.sums_at-sums.result.multiples c.sums_at-sums.result.weighted r.have.at_least num multiples weights);
      low = c.sums_at-sums.ensures.multiples_low;
      high = c.sums_at-sums.ensures.multiples_high;
      below = c.sums_at-sums.ensures.weighted_low;
      above = c.sums_at-sums.ensures.weighted_high;
    }

pub returns-then-kept-sums : goal.returns-then-kept-sums
returns-then-kept-sums c =
    let r = c.requires in
    let i = c.rise.invariant in
    let next : Fraction = c.of-next.result in
    let fits : FitsSigned w128 c.args.have = c.ranges.have in
    let weights_fit : FitsSigned w128 c.rise.sums.weighted = omega (arith, ints, i.below, i.above) in
    let multiples_fit : FitsSigned w128 c.rise.sums.multiples = omega (arith, ints, i.low, i.high) in
    let num_fits : FitsSigned w128 (c.rise.sums.weighted -ℤ c.args.have) = omega (arith, ints, r.have.at_least, r.have.at_most, i.below, i.above) in
    let num : next.num ≡ c.rise.sums.weighted -ℤ c.args.have = simp to_z-of_z at (ap (λ (f : Fraction). f.num) c.of-next.ensures) in
    let den : next.den ≡ c.rise.sums.multiples = simp to_z-of_z at (ap (λ (f : Fraction). f.den) c.of-next.ensures) in
    let lags = simp to_z-of_z at i.lags in
    let kept = sums_as multiple_of c.args.rates.now (c.rise.sums.weighted -ℤ c.args.have) c.rise.sums.multiples next.num next.den c.sums_at-kept.result.multiples num den c.sums_at-kept.ensures.multiples in
    let enough : c.rise.sums.multiples ≤ℤ c.sums_at-kept.result.multiples = omega (arith, ints, c.if-kept-sums.true, i.low, i.high, c.sums_at-kept.ensures.multiples_low, c.sums_at-kept.ensures.multiples_high) in
    let done : IsSpent c.args.rates.now c.args.have next.num next.den =
    spent_as c.args.rates.now c.args.have (c.rise.sums.weighted -ℤ c.args.have) c.rise.sums.multiples next.num next.den num den
    (lags_done c.args.rates.now r.rates c.args.have c.rise.sums.multiples c.rise.sums.weighted c.sums_at-kept.result.multiples r.have.at_least lags kept enough) in
    record { some = done.some; spends = done.spends }

pub rise-smaller : goal.rise-smaller
rise-smaller c =
    let h : up c.sums_at-kept.result.multiples < up c.rise.sums.multiples = omega (arith, ints, c.if-kept-sums.false, c.rise.invariant.low, c.rise.invariant.high, c.sums_at-kept.ensures.multiples_low, c.sums_at-kept.ensures.multiples_high) in
    h

pub rise-preserved : goal.rise-preserved
rise-preserved c =
    let r = c.requires in
    let i = c.rise.invariant in
    let next : Fraction = c.of-next.result in
    let fits : FitsSigned w128 c.args.have = c.ranges.have in
    let weights_fit : FitsSigned w128 c.rise.sums.weighted = omega (arith, ints, i.below, i.above) in
    let multiples_fit : FitsSigned w128 c.rise.sums.multiples = omega (arith, ints, i.low, i.high) in
    let num_fits : FitsSigned w128 (c.rise.sums.weighted -ℤ c.args.have) = omega (arith, ints, r.have.at_least, r.have.at_most, i.below, i.above) in
    let num : next.num ≡ c.rise.sums.weighted -ℤ c.args.have = simp to_z-of_z at (ap (λ (f : Fraction). f.num) c.of-next.ensures) in
    let den : next.den ≡ c.rise.sums.multiples = simp to_z-of_z at (ap (λ (f : Fraction). f.den) c.of-next.ensures) in
    let lags = simp to_z-of_z at i.lags in
    let kept = sums_as multiple_of c.args.rates.now (c.rise.sums.weighted -ℤ c.args.have) c.rise.sums.multiples next.num next.den c.sums_at-kept.result.multiples num den c.sums_at-kept.ensures.multiples in
    let heavier = sums_as weighted_of c.args.rates.now (c.rise.sums.weighted -ℤ c.args.have) c.rise.sums.multiples next.num next.den c.sums_at-kept.result.weighted num den c.sums_at-kept.ensures.weighted in
    record {
      lags = simp to_z-of_z (lags_next c.args.rates.now r.rates c.args.have c.rise.sums.multiples c.rise.sums.weighted c.sums_at-kept.result.multiples c.sums_at-kept.result.weighted r.have.at_least lags kept heavier);
      low = c.sums_at-kept.ensures.multiples_low;
      high = c.sums_at-kept.ensures.multiples_high;
      below = c.sums_at-kept.ensures.weighted_low;
      above = c.sums_at-kept.ensures.weighted_high;
    }
