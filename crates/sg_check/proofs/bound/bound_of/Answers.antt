use Rattle.std.proofs.Common.{FitsSigned, rules}
use Rattle.std.specs.Int.{w128}
use Rattle.std.proofs.lemmas.Int.{to_z-of_z}
use Rattle.sg_check.proofs.Bounded.{bound-made}
use Rattle.sg_check.proofs.bound.bound_of.Goals as goal

pub returns-in-Some-Some : goal.returns-in-Some-Some
returns-in-Some-Some c =
    let rho : FitsSigned w128 c.args.stated.now.rho = search rules in
    let mu : FitsSigned w128 c.args.stated.now.mu = search rules in
    let priors : FitsSigned w128 c.args.numbers.now.priors = search rules in
    let rest : FitsSigned w128 c.rest.result = record { sfits = c.rest.type_inv } in
    let share : FitsSigned w128 c.in-Some.share = search rules in
    let num : FitsSigned w128 c.in-Some-Some.num = search rules in
    let den : FitsSigned w128 c.in-Some-Some.den = search rules in
    let a = simp to_z-of_z at c.in-Some.ensures in
    let b = simp to_z-of_z at c.in-Some-Some.ensures in
    let d = simp to_z-of_z at c.in-Some-Some.ensures' in
    simp to_z-of_z (bound-made c.args.stated.now.rho c.args.stated.now.mu _ c.rest.result c.in-Some.share c.in-Some-Some.num c.in-Some-Some.den c.args.numbers.now.priors c.rest.ensures a b d)
