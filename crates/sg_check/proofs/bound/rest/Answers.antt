use Rattle.std.proofs.Common.{◌≡◌, ◌^◌, arith, ◌*ℤ◌, of_z, to_z, pos, refl, rules}
use Rattle.std.specs.Int.{w128}
use Rattle.std.proofs.lemmas.Int.{ints, to_z-of_z}
use Rattle.sg_model.specs.Games.{attacker}
use Rattle.sg_model.specs.Payoffs.{shift_of}
use Rattle.sg_model.specs.Sums.{numbers, total}
use Rattle.sg_check.proofs.Within.{fits_between, product_is}
use Rattle.sg_check.proofs.bound.rest.Goals as goal

pub overflow_sub-result : goal.overflow_sub-result
overflow_sub-result c =
    let p = c.fixed_priors.result in
    let s = c.args.numbers.now.shift in
    let h = c.requires.setting.numbers in
    let k = c.fixed_priors.ensures in
    let o = c.open_caps.ensures in
    let e : to_z w128 (of_z w128 p) ≡ p = search (rules, to_z-of_z) in
    let f : to_z w128 (of_z w128 s) ≡ s = search (rules, to_z-of_z) in
    let made = product_is p s (pos (2 ^ 32)) _ _ e f k.low (omega (arith, ints, h.shift_range.at_least)) (omega (arith, ints, h.shift_range.at_most)) (omega (arith, ints, k.high)) in
    fits_between _ (omega (arith, ints, made.high, k.high, o.low, o.high)) (omega (arith, ints, made.low, k.high, o.low, o.high))

pub returns : goal.returns
returns c =
    let g = c.args.game.now in
    let p = c.fixed_priors.result in
    let s = c.args.numbers.now.shift in
    let h = c.requires.setting.numbers in
    let k = c.fixed_priors.ensures in
    let o = c.open_caps.ensures in
    let e : to_z w128 (of_z w128 p) ≡ p = search (rules, to_z-of_z) in
    let f : to_z w128 (of_z w128 s) ≡ s = search (rules, to_z-of_z) in
    let made = product_is p s (pos (2 ^ 32)) _ _ e f k.low (omega (arith, ints, h.shift_range.at_least)) (omega (arith, ints, h.shift_range.at_most)) (omega (arith, ints, k.high)) in
    let same : p *ℤ s ≡ total (λ l. (attacker g l).prior) (numbers c.args.fixed) *ℤ shift_of g = rw (k.value, h.shift) refl in
    omega (arith, ints, made.value, made.low, made.high, same, k.high, o.low, o.high, o.value)
