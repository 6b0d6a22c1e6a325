use Rattle.std.proofs.Common.{◌∙◌, rules, sym}
use Rattle.std.specs.Int.{w128}
use Rattle.std.specs.Prelude.{FitsSigned}
use Rattle.std.proofs.lemmas.Int.{to_z-of_z}
use Rattle.sg_eraser.proofs.Formed.{enters-formed, enters-stops}
use Rattle.sg_eraser.proofs.pricing.does_enter.Goals as goal

pub returns-in-Ok-allowed : goal.returns-in-Ok-allowed
returns-in-Ok-allowed c =
    let a = c.args in
    let fw : FitsSigned w128 c.in-Ok.worth = search rules in
    let fa : FitsSigned w128 c.in-Ok-allowed.allowed = search rules in
    let fr : FitsSigned w128 c.args.rho = c.ranges.rho in
    let fc = c.ranges.cost in
    let worth = simp to_z-of_z at c.worth.ensures in
    simp to_z-of_z (enters-formed a.y.now a.entries.now a.rho a.cost c.in-Ok.worth (sym c.in-Ok.is ∙ worth) c.in-Ok-allowed.allowed (sym c.in-Ok-allowed.is ∙ c.allowed.ensures))

pub returns-in-Err-allowed : goal.returns-in-Err-allowed
returns-in-Err-allowed c =
    let a = c.args in
    let fr : FitsSigned w128 c.args.rho = c.ranges.rho in
    let fc = c.ranges.cost in
    let worth = simp to_z-of_z at c.worth.ensures in
    enters-stops a.y.now a.entries.now a.rho a.cost c.in-Ok.worth (sym c.in-Ok.is ∙ worth) c.in-Err-allowed.wide (sym c.in-Err-allowed.is ∙ c.allowed.ensures)
