use Rattle.std.proofs.Common.{arith, ◌∙◌, ap, ℤ, ◌-ℤ◌, ◌≡◌, to_z, of_z, ◌^◌}
use Rattle.std.specs.Int.{w128}
use Rattle.std.specs.Prelude.{int_div, FitsSigned}
use Rattle.std.proofs.lemmas.Int.{ints, to_z-of_z}
use Rattle.sg_model.specs.Games.{payoff}
use Rattle.sg_model.specs.Origami.{gap}
use Rattle.sg_model.proofs.Levels.{multiple_is}
use Rattle.sg_origami.specs.Rates.{multiple}
use Rattle.sg_model.proofs.Spans.{multiple_bounds}
use Rattle.sg_origami.proofs.rate.multiple.Goals as goal

pub returns : goal.returns
returns c =
    let h = c.requires.fillable in
    let g = c.args.game.now in
    let s = h.origami.targets c.args.t c.requires.from_one c.requires.in_range in
    let a : FitsSigned w128 c.uncovered.result = omega (arith, ints, c.uncovered.ensures.range.at_least, c.uncovered.ensures.range.at_most) in
    let b : FitsSigned w128 c.covered.result = omega (arith, ints, c.covered.ensures.range.at_least, c.covered.ensures.range.at_most) in
    let f : FitsSigned w128 (c.uncovered.result -ℤ c.covered.result) = omega (arith, ints, c.uncovered.ensures.range.at_least, c.uncovered.ensures.range.at_most, c.covered.ensures.range.at_least, c.covered.ensures.range.at_most) in
    let e = simp to_z-of_z at c.quotient.ensures in
    let q = multiple_bounds (multiple g c.args.t) (gap (payoff g 1 c.args.t)) g.scale (2 ^ 32) (multiple_is g c.args.t s) (omega (arith, ints, s.attacker_loses)) h.origami.scaled h.scale_range.at_most in
    let x : to_z w128 (of_z w128 c.from.result) ≡ g.scale = omega (arith, ints, c.from.ensures, c.scale.ensures) in
    let y : (c.uncovered.result -ℤ c.covered.result) ≡ gap (payoff g 1 c.args.t) = omega (arith, ints, c.uncovered.ensures.value, c.covered.ensures.value) in
    let k : c.quotient.result ≡ multiple g c.args.t = e ∙ (ap (λ (z : ℤ). int_div z (c.uncovered.result -ℤ c.covered.result)) x ∙ ap (λ (z : ℤ). int_div g.scale z) y) in
    record { value = omega (arith, ints, k); range = record { at_least = omega (arith, ints, k, q.0); at_most = omega (arith, ints, k, q.1) } }
