use Rattle.std.proofs.Common.{◌∙◌, FitsSigned, arith}
use Rattle.std.specs.Int.{w128}
use Rattle.std.proofs.lemmas.Int.{ints, to_z-of_z}
use Rattle.sg_upper.proofs.Quotients.{bound-formed, den-some}
use Rattle.sg_upper.proofs.leaf.bound.Goals as goal

pub returns-in-Ok : goal.returns-in-Ok
returns-in-Ok c = λ g caps are le rho.
    let r : FitsSigned w128 c.rho.result = record { sfits = c.rho.type_inv } in
    let m : FitsSigned w128 c.mu-mu.result = record { sfits = c.mu-mu.type_inv } in
    let x : FitsSigned w128 c.rest_at.result = record { sfits = c.rest_at.type_inv } in
    let p : FitsSigned w128 c.priors.result = record { sfits = c.priors.type_inv } in
    let h = simp (to_z-of_z, r, m, x, p) at c.in-Ok.ensures in
    let some = den-some c.rho.result c.priors.result c.in-Ok.value.den (omega (arith, ints, c.rho.ensures, rho)) (omega (arith, ints, c.priors.ensures, are.some)) h.2 in
    bound-formed g caps c.args.n c.args.fact.now c.rho.result c.mu-mu.result c.rest_at.result c.priors.result c.in-Ok.value c.lowest.result c.rho.ensures c.mu-mu.ensures
    (c.rest_at.ensures ∙ are.by_fixed c.args.n le) (c.priors.ensures ∙ are.priors) (omega (arith, ints, c.if-mu-lt1.false)) h some (c.lowest.ensures some)
