use Rattle.std.proofs.Common.{◌∙◌, sym, subst, rules}
use Rattle.std.specs.Int.{w128}
use Rattle.std.specs.Prelude.{FitsSigned}
use Rattle.std.proofs.lemmas.Int.{to_z-of_z}
use Rattle.sg_num.proofs.Steps.{fits-from_FitsSigned}
use Rattle.sg_num.specs.Exact.{Fits}
use Rattle.sg_check.proofs.water.is_product.Goals as goal

pub returns-in-Some : goal.returns-in-Some
returns-in-Some c =
    let a : FitsSigned w128 c.args.a = c.ranges.a in
    let b : FitsSigned w128 c.args.b = c.ranges.b in
    let p : FitsSigned w128 c.args.product = c.ranges.product in
    let m : FitsSigned w128 c.in-Some.made = search rules in
    let h = simp to_z-of_z at c.in-Some.ensures in
    let e = simp to_z-of_z at c.is_equal.ensures in
    (λ t. sym h.1 ∙ e.0 t, λ f. e.1 (h.1 ∙ f))

pub returns-in-None : goal.returns-in-None
returns-in-None c =
    let a : FitsSigned w128 c.args.a = c.ranges.a in
    let b : FitsSigned w128 c.args.b = c.ranges.b in
    let h = simp to_z-of_z at c.in-None.ensures in
    (λ f. cc, λ f. absurd (h (subst Fits (sym f) (fits-from_FitsSigned c.args.product c.ranges.product))))
