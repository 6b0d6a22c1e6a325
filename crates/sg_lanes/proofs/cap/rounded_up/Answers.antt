use Rattle.std.proofs.Common.{rules, ◌∙◌, ◌+ℤ◌, ◌-ℤ◌, ◌≤ℤ◌, ap, arith, pos, sym, subst, ℤ, FitsSigned}
use Rattle.std.specs.Int.{w128}
use Rattle.std.proofs.lemmas.Int.{ints, to_z-of_z}
use Rattle.sg_lanes.proofs.Rounded.{rounded-least, rounded-same}
use Rattle.sg_lanes.proofs.cap.rounded_up.Goals as goal

pub returns-clause-value : goal.returns-clause-value
returns-clause-value c =
    let n : FitsSigned w128 c.args.num = c.ranges.num in
    let d : FitsSigned w128 c.args.den = c.ranges.den in
    let one : FitsSigned w128 (c.args.num -ℤ pos 1) = omega (arith, ints, c.ranges.num, c.requires.num) in
    let q : FitsSigned w128 c.div_euclid.result = search rules in
    let whole = simp to_z-of_z at c.div_euclid.ensures in
    let up : FitsSigned w128 (c.div_euclid.result +ℤ pos 1) = search rules in
    simp to_z-of_z (ap (λ (z : ℤ). z +ℤ pos 1) whole ∙ rounded-same c.args.num c.args.den c.requires.num c.requires.den)

pub returns-clause-least : goal.returns-clause-least
returns-clause-least c = λ k reach.
    let n : FitsSigned w128 c.args.num = c.ranges.num in
    let d : FitsSigned w128 c.args.den = c.ranges.den in
    let one : FitsSigned w128 (c.args.num -ℤ pos 1) = omega (arith, ints, c.ranges.num, c.requires.num) in
    let q : FitsSigned w128 c.div_euclid.result = search rules in
    let whole = simp to_z-of_z at c.div_euclid.ensures in
    let up : FitsSigned w128 (c.div_euclid.result +ℤ pos 1) = search rules in
    simp to_z-of_z (subst (λ (z : ℤ). (z +ℤ pos 1) ≤ℤ k) (sym whole) (rounded-least c.args.num c.args.den k c.requires.num c.requires.den reach))
