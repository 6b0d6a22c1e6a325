use Rattle.std.proofs.Common.{◌≡◌, ◌^◌, arith, ◌+ℤ◌, ◌*ℤ◌, of_z, to_z, pos, refl, rules}
use Rattle.std.specs.Int.{w128}
use Rattle.std.proofs.lemmas.Int.{ints, to_z-of_z}
use Rattle.sg_model.specs.Games.{attacker}
use Rattle.sg_model.specs.Payoffs.{shift_of}
use Rattle.sg_check.proofs.Within.{product_fits, product_is}
use Rattle.sg_check.proofs.caps.shifted_worth.Goals as goal

pub overflow_mul-result : goal.overflow_mul-result
overflow_mul-result c =
    let p = c.from.result in
    let v = c.from-2.result in
    let s = c.args.numbers.now.shift in
    let h = c.requires.numbers.shift_range in
    let e : to_z w128 (of_z w128 p) ≡ p = search (rules, to_z-of_z) in
    let f : to_z w128 (of_z w128 (to_z w128 (of_z w128 v) +ℤ to_z w128 (of_z w128 s))) ≡ v +ℤ s = omega (arith, ints, c.from-2.ensures, c.ranges.v, h.at_least, h.at_most) in
    product_fits p (v +ℤ s) (pos (2 ^ 64)) _ _ e f (omega (arith, ints, c.from.ensures, c.prior.ensures.some)) (omega (arith, ints, c.from-2.ensures, c.ranges.v, h.at_least, h.at_most)) (omega (arith, ints, c.from-2.ensures, c.ranges.v, h.at_least, h.at_most)) (omega (arith, ints, c.from.ensures, c.prior.ensures.some, c.prior.ensures.few))

pub returns : goal.returns
returns c =
    let g = c.args.game.now in
    let p = c.from.result in
    let v = c.from-2.result in
    let s = c.args.numbers.now.shift in
    let h = c.requires.numbers.shift_range in
    let e : to_z w128 (of_z w128 p) ≡ p = search (rules, to_z-of_z) in
    let f : to_z w128 (of_z w128 (to_z w128 (of_z w128 v) +ℤ to_z w128 (of_z w128 s))) ≡ v +ℤ s = omega (arith, ints, c.from-2.ensures, c.ranges.v, h.at_least, h.at_most) in
    let made = product_is p (v +ℤ s) (pos (2 ^ 64)) _ _ e f (omega (arith, ints, c.from.ensures, c.prior.ensures.some)) (omega (arith, ints, c.from-2.ensures, c.ranges.v, h.at_least, h.at_most)) (omega (arith, ints, c.from-2.ensures, c.ranges.v, h.at_least, h.at_most)) (omega (arith, ints, c.from.ensures, c.prior.ensures.some, c.prior.ensures.few)) in
    let x : p ≡ (attacker g c.args.l).prior = omega (arith, ints, c.from.ensures, c.prior.ensures.prior) in
    let y : v ≡ c.args.v = omega (arith, ints, c.from-2.ensures, c.ranges.v) in
    let same : p *ℤ (v +ℤ s) ≡ (attacker g c.args.l).prior *ℤ (c.args.v +ℤ shift_of g) = rw (x, y, c.requires.numbers.shift) refl in
    omega (arith, ints, made.value, same)
