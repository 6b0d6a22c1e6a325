use Rattle.std.proofs.Common.{◌≡◌, ◌^◌, arith, ◌*ℤ◌, of_z, to_z, pos, refl, rules}
use Rattle.std.specs.Int.{w128}
use Rattle.std.proofs.lemmas.Int.{ints, to_z-of_z}
use Rattle.sg_model.specs.Games.{attacker}
use Rattle.sg_bounds.specs.Caps.{cap_of}
use Rattle.sg_check.proofs.Within.{product_fits, product_is}
use Rattle.sg_check.proofs.bound.weighed_cap.Goals as goal

pub overflow_mul-result : goal.overflow_mul-result
overflow_mul-result c =
    let p = c.from.result in
    let v = c.cap_at.result in
    let e : to_z w128 (of_z w128 p) ≡ p = search (rules, to_z-of_z) in
    let f : to_z w128 (of_z w128 v) ≡ v = search (rules, to_z-of_z) in
    product_fits p v (pos (2 ^ 63)) _ _ e f (omega (arith, ints, c.from.ensures, c.prior.ensures.some)) c.cap_at.ensures.low c.cap_at.ensures.high (omega (arith, ints, c.from.ensures, c.prior.ensures.some, c.prior.ensures.few))

pub returns : goal.returns
returns c =
    let g = c.args.game.now in
    let p = c.from.result in
    let v = c.cap_at.result in
    let e : to_z w128 (of_z w128 p) ≡ p = search (rules, to_z-of_z) in
    let f : to_z w128 (of_z w128 v) ≡ v = search (rules, to_z-of_z) in
    let made = product_is p v (pos (2 ^ 63)) _ _ e f (omega (arith, ints, c.from.ensures, c.prior.ensures.some)) c.cap_at.ensures.low c.cap_at.ensures.high (omega (arith, ints, c.from.ensures, c.prior.ensures.some, c.prior.ensures.few)) in
    let x : p ≡ (attacker g c.args.l).prior = omega (arith, ints, c.from.ensures, c.prior.ensures.prior) in
    let y : v ≡ (cap_of c.args.report.now.caps c.args.l).v = c.cap_at.ensures.value in
    let same : p *ℤ v ≡ (attacker g c.args.l).prior *ℤ (cap_of c.args.report.now.caps c.args.l).v = rw (x, y) refl in
    record {
      value = omega (arith, ints, made.value, same);
      low = omega (arith, ints, made.low, c.from.ensures, c.prior.ensures.some, c.prior.ensures.few);
      high = omega (arith, ints, made.high, c.from.ensures, c.prior.ensures.some, c.prior.ensures.few);
    }
