use Rattle.std.proofs.Common.{FitsSigned, rules, of_z, to_z, ◌≡◌}
use Rattle.std.specs.Int.{w128}
use Rattle.std.proofs.lemmas.Int.{to_z-of_z}
use Rattle.sg_upper.proofs.Quotients.{quotient-Ok, quotient-third}
use Rattle.sg_upper.proofs.leaf.formed_quotient.Goals as goal

pub returns-in-Ok-times : goal.returns-in-Ok-times
returns-in-Ok-times c =
    let e = simp (to_z-of_z, c.ranges.rho, c.ranges.rest) at c.in-Ok.ensures in
    let fits : FitsSigned w128 c.in-Ok.share = search rules in
    let f = simp (to_z-of_z, c.ranges.mu, fits) at c.in-Ok-sum.ensures in
    let h = simp (to_z-of_z, c.ranges.rho, c.ranges.priors) at c.in-Ok-times.ensures in
    let en : to_z w128 (of_z w128 c.in-Ok-sum.num) ≡ c.in-Ok-sum.num = search (rules, to_z-of_z) in
    let ed : to_z w128 (of_z w128 c.in-Ok-times.den) ≡ c.in-Ok-times.den = search (rules, to_z-of_z) in
    quotient-Ok c.args.rho c.args.mu c.args.rest c.args.priors c.in-Ok.share c.in-Ok-sum.num c.in-Ok-times.den _ _ e f h en ed

pub returns-in-Err-times : goal.returns-in-Err-times
returns-in-Err-times c =
    let e = simp (to_z-of_z, c.ranges.rho, c.ranges.rest) at c.in-Ok.ensures in
    let fits : FitsSigned w128 c.in-Ok.share = search rules in
    let f = simp (to_z-of_z, c.ranges.mu, fits) at c.in-Ok-sum.ensures in
    let h = simp (to_z-of_z, c.ranges.rho, c.ranges.priors) at c.in-Err-times.ensures in
    quotient-third c.args.rho c.args.mu c.args.rest c.args.priors c.in-Ok.share c.in-Ok-sum.num c.in-Err-times.wide e f h
