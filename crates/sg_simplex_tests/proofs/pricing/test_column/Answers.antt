use Rattle.std.proofs.Common.{◌∙◌, sym, rules, arith, pos}
use Rattle.std.specs.Int.{w64, w128}
use Rattle.std.specs.Prelude.{FitsSigned}
use Rattle.std.proofs.lemmas.Int.{to_z-of_z, ints}
use Rattle.sg_rows.specs.Rows.{dot_from, dot_steps}
use Rattle.sg_lp.proofs.Testing.{fails_second, test_false, test_true}
use Rattle.sg_simplex_tests.proofs.pricing.test_column.Goals as goal

pub returns-then-allowed-worth : goal.returns-then-allowed-worth
returns-then-allowed-worth c =
    let a = c.args in
    let fw : FitsSigned w128 c.in-Ok.worth = search rules in
    let fa : FitsSigned w128 c.in-Ok-dot.allowed = search rules in
    let fr : FitsSigned w128 c.args.rho = c.ranges.rho in
    let fc : FitsSigned w64 c.args.cost = c.ranges.cost in
    let worth = simp to_z-of_z at c.worth_of.ensures in
    test_true (dot_steps (pos 0) a.y.now a.entries.now) (dot_from (pos 0) a.y.now a.entries.now) a.rho a.cost c.in-Ok.worth c.in-Ok-dot.allowed (sym c.in-Ok.is ∙ worth) (sym c.in-Ok-dot.is ∙ c.dot.ensures)
    (omega (arith, ints, c.if-allowed-worth.true))

pub returns-else-allowed-worth : goal.returns-else-allowed-worth
returns-else-allowed-worth c =
    let a = c.args in
    let fw : FitsSigned w128 c.in-Ok.worth = search rules in
    let fa : FitsSigned w128 c.in-Ok-dot.allowed = search rules in
    let fr : FitsSigned w128 c.args.rho = c.ranges.rho in
    let fc : FitsSigned w64 c.args.cost = c.ranges.cost in
    let worth = simp to_z-of_z at c.worth_of.ensures in
    test_false (dot_steps (pos 0) a.y.now a.entries.now) (dot_from (pos 0) a.y.now a.entries.now) a.rho a.cost c.in-Ok.worth c.in-Ok-dot.allowed (sym c.in-Ok.is ∙ worth) (sym c.in-Ok-dot.is ∙ c.dot.ensures)
    (omega (arith, ints, c.if-allowed-worth.false))

pub returns-in-Err-dot : goal.returns-in-Err-dot
returns-in-Err-dot c =
    let a = c.args in
    let fw : FitsSigned w128 c.in-Ok.worth = search rules in
    let fr : FitsSigned w128 c.args.rho = c.ranges.rho in
    let fc : FitsSigned w64 c.args.cost = c.ranges.cost in
    let worth = simp to_z-of_z at c.worth_of.ensures in
    fails_second (dot_steps (pos 0) a.y.now a.entries.now) (dot_from (pos 0) a.y.now a.entries.now) a.rho a.cost c.in-Ok.worth c.in-Err-dot.wide (sym c.in-Ok.is ∙ worth) (sym c.in-Err-dot.is ∙ c.dot.ensures)
