use Rattle.std.proofs.Common.{◌∙◌, FitsSigned, rules, ◌*ℤ◌, [], ◌∷◌, ap, sym}
use Rattle.std.specs.Int.{w128}
use Rattle.std.proofs.lemmas.Int.{to_z-of_z}
use Rattle.sg_num.specs.declared.step.Op.TheVariants.{Sum, Times}
use Rattle.sg_num.specs.Exact.{exact_sum}
use Rattle.sg_num.specs.Operations.{plus, times}
use Rattle.sg_upper.proofs.Quotients.{step-Err, step-Ok}
use Rattle.sg_desk.proofs.bounding.misfit.Goals as goal

pub returns-in-Ok-times : goal.returns-in-Ok-times
returns-in-Ok-times c =
    let a = c.args in
    let e = simp (to_z-of_z, c.ranges.rho, c.ranges.rest) at c.in-Ok.ensures in
    let fits : FitsSigned w128 c.in-Ok.share = search rules in
    let f = simp (to_z-of_z, c.ranges.mu, fits) at c.in-Ok-sum.ensures in
    let h = simp (to_z-of_z, c.ranges.rho, c.ranges.priors) at c.in-Ok-times.ensures in
    let x = step-Ok Times a.rho a.rest c.in-Ok.share (plus a.mu (a.rho *ℤ a.rest) ∷ times a.rho a.priors ∷ []) e in
    let y = step-Ok Sum a.mu (a.rho *ℤ a.rest) _ (times a.rho a.priors ∷ []) (f ∙ ap (exact_sum a.mu) x.1) in
    let z = step-Ok Times a.rho a.priors _ [] h in
    sym (x.0 ∙ (y.0 ∙ z.0))

pub returns-in-Err-times : goal.returns-in-Err-times
returns-in-Err-times c =
    let a = c.args in
    let e = simp (to_z-of_z, c.ranges.rho, c.ranges.rest) at c.in-Ok.ensures in
    let fits : FitsSigned w128 c.in-Ok.share = search rules in
    let f = simp (to_z-of_z, c.ranges.mu, fits) at c.in-Ok-sum.ensures in
    let h = simp (to_z-of_z, c.ranges.rho, c.ranges.priors) at c.in-Err-times.ensures in
    let x = step-Ok Times a.rho a.rest c.in-Ok.share (plus a.mu (a.rho *ℤ a.rest) ∷ times a.rho a.priors ∷ []) e in
    let y = step-Ok Sum a.mu (a.rho *ℤ a.rest) _ (times a.rho a.priors ∷ []) (f ∙ ap (exact_sum a.mu) x.1) in
    sym (x.0 ∙ (y.0 ∙ step-Err Times a.rho a.priors c.in-Err-times.wide [] h))
