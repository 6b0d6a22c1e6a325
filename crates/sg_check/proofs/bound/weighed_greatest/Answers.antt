use Rattle.std.proofs.Common.{◌≡◌, ◌^◌, arith, of_z, to_z, pos, rules}
use Rattle.std.specs.Int.{w128}
use Rattle.std.proofs.lemmas.Int.{ints, to_z-of_z}
use Rattle.sg_check.proofs.Within.{product_is}
use Rattle.sg_check.proofs.bound.weighed_greatest.Goals as goal

pub returns-clause-low : goal.returns-clause-low
returns-clause-low c =
    let p = c.from.result in
    let v = c.from-2.result in
    let e : to_z w128 (of_z w128 p) ≡ p = search (rules, to_z-of_z) in
    let f : to_z w128 (of_z w128 v) ≡ v = search (rules, to_z-of_z) in
    let made = product_is p v (pos (2 ^ 30)) _ _ e f (omega (arith, ints, c.from.ensures)) (omega (arith, ints, c.from-2.ensures)) (omega (arith, ints, c.from-2.ensures)) (omega (arith, ints, c.from.ensures)) in
    omega (arith, ints, made.low, c.from.ensures)

pub returns-clause-high : goal.returns-clause-high
returns-clause-high c =
    let p = c.from.result in
    let v = c.from-2.result in
    let e : to_z w128 (of_z w128 p) ≡ p = search (rules, to_z-of_z) in
    let f : to_z w128 (of_z w128 v) ≡ v = search (rules, to_z-of_z) in
    let made = product_is p v (pos (2 ^ 30)) _ _ e f (omega (arith, ints, c.from.ensures)) (omega (arith, ints, c.from-2.ensures)) (omega (arith, ints, c.from-2.ensures)) (omega (arith, ints, c.from.ensures)) in
    omega (arith, ints, made.high, c.from.ensures)
