use Rattle.std.proofs.Common.{rules, ◌≡◌, ◌∙◌, sym, ap, arith, ℤ, Ok, ◌-ℤ◌}
use Rattle.std.specs.Int.{w128}
use Rattle.std.specs.Prelude.{FitsSigned}
use Rattle.std.proofs.lemmas.Int.{ints, to_z-of_z}
use Rattle.sg_num.specs.Exact.{and_then, exact_dot_step, exact_times}
use Rattle.sg_commit.proofs.tally.mixed.Goals as goal

pub returns-in-Ok : goal.returns-in-Ok
returns-in-Ok c =
    let total_fits : FitsSigned w128 c.args.total = c.ranges.total in
    let count_fits : FitsSigned w128 c.args.count = c.ranges.count in
    let all_fits : FitsSigned w128 c.in-Ok.all = search rules in
    let inside_is : c.from.result ≡ c.args.covered = omega (arith, ints, c.from.ensures, c.ranges.covered) in
    let outside_is : c.from-2.result ≡ c.args.uncovered = omega (arith, ints, c.from-2.ensures, c.ranges.uncovered) in
    let again_is : c.from-3.result ≡ c.args.uncovered = omega (arith, ints, c.from-3.ensures, c.ranges.uncovered) in
    let inside_fits : FitsSigned w128 c.from.result = record { sfits = c.from.type_inv } in
    let outside_fits : FitsSigned w128 c.from-2.result = record { sfits = c.from-2.type_inv } in
    let again_fits : FitsSigned w128 c.from-3.result = record { sfits = c.from-3.type_inv } in
    let more_fits : FitsSigned w128 (c.from.result -ℤ c.from-2.result) = omega (arith, ints, inside_is, outside_is, c.ranges.covered, c.ranges.uncovered) in
    let product : c.times.result ≡ exact_times c.from-3.result c.args.total = simp to_z-of_z at c.times.ensures in
    let step : c.dot_step.result ≡ exact_dot_step c.in-Ok.all (c.from.result -ℤ c.from-2.result) c.args.count = simp to_z-of_z at c.dot_step.ensures.steps in
    let formed : exact_times c.args.uncovered c.args.total ≡ Ok c.in-Ok.all = ap (λ (z : ℤ). exact_times z c.args.total) (sym again_is) ∙ (sym product ∙ c.in-Ok.is) in
    step
    ∙ ((λ i. exact_dot_step c.in-Ok.all (inside_is i -ℤ outside_is i) c.args.count)
    ∙ sym (ap (λ r. and_then r (λ all. exact_dot_step all (c.args.covered -ℤ c.args.uncovered) c.args.count)) formed))
