use Rattle.std.proofs.Common.{rules, FitsSigned, ◌∙◌, ap, refl, inl, inr, arith}
use Rattle.std.specs.Int.{w128}
use Rattle.std.proofs.lemmas.Int.{ints, to_z-of_z}
use Rattle.sg_num.proofs.Steps.{fits-from_FitsSigned}
use Rattle.sg_frac.specs.Fractions.{Fraction, IsReducedForm}
use Rattle.sg_frac.proofs.Steps.{not_wide_of_fits}
use Rattle.sg_dual.proofs.Shared.{lowest-is}
use Rattle.sg_dual.proofs.share.share_of.Goals as goal

pub unreachable-requires : goal.unreachable-requires
unreachable-requires c =
    let n : FitsSigned w128 c.args.first = search rules in
    let d : FitsSigned w128 c.args.product = search rules in
    let some = c.requires.product in
    let none = simp to_z-of_z at c.in-None.ensures.none in
    elim (none.0 refl) [
      | inl e ↦ omega (arith, ints, e, some)
      | inr w ↦ not_wide_of_fits c.args.first c.args.product (omega (arith, ints, some)) (fits-from_FitsSigned _ n) (fits-from_FitsSigned _ d) w
    ]

pub returns-clause-num : goal.returns-clause-num
returns-clause-num c =
    let n : FitsSigned w128 c.args.first = search rules in
    let d : FitsSigned w128 c.args.product = search rules in
    let r : FitsSigned w128 c.num.result = search rules in
    let is : IsReducedForm c.args.first c.args.product c.in-Some.weight = simp to_z-of_z at c.in-Some.ensures.value in
    simp to_z-of_z (c.num.ensures ∙ ap (λ (f : Fraction). f.num) (lowest-is c.args.first c.args.product c.in-Some.weight c.requires.first c.requires.product is))

pub returns-clause-den : goal.returns-clause-den
returns-clause-den c =
    let n : FitsSigned w128 c.args.first = search rules in
    let d : FitsSigned w128 c.args.product = search rules in
    let r : FitsSigned w128 c.den.result = search rules in
    let is : IsReducedForm c.args.first c.args.product c.in-Some.weight = simp to_z-of_z at c.in-Some.ensures.value in
    simp to_z-of_z (c.den.ensures.value ∙ ap (λ (f : Fraction). f.den) (lowest-is c.args.first c.args.product c.in-Some.weight c.requires.first c.requires.product is))
