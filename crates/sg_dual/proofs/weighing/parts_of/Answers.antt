use Rattle.std.proofs.Common.{◌∙◌, ap, rules, FitsSigned, List, pos}
use Rattle.std.specs.Int.{w128}
use Rattle.std.proofs.lemmas.Int.{to_z-of_z}
use Rattle.sg_dual.specs.declared.part.Part.{Part}
use Rattle.sg_dual.proofs.Shared.{multiples-stop, parts-are, totals-fit, totals-stop, totals_from, weights, weights-refuse, whole-some}
use Rattle.sg_dual.proofs.weighing.parts_of.Goals as goal

pub returns-in-Err : goal.returns-in-Err
returns-in-Err c = multiples-stop c.args.shares.now c.requires c.in-Err.wide c.in-Err.ensures

pub weighed-requires-clause-whole : goal.weighed-requires-clause-whole
weighed-requires-clause-whole c =
    let whole : FitsSigned w128 c.in-Ok.whole = search rules in
    simp to_z-of_z (whole-some c.args.shares.now c.requires c.in-Ok.whole c.in-Ok.ensures)

pub returns-in-Err-weighed : goal.returns-in-Err-weighed
returns-in-Err-weighed c =
    let whole : FitsSigned w128 c.in-Ok.whole = search rules in
    weights-refuse c.args.shares.now c.requires c.in-Ok.whole c.in-Ok.ensures c.in-Err-weighed.fault (simp to_z-of_z at c.in-Err-weighed.ensures)

pub returns-in-Ok-add_up : goal.returns-in-Ok-add_up
returns-in-Ok-add_up c =
    let whole : FitsSigned w128 c.in-Ok.whole = search rules in
    let made = simp to_z-of_z at c.in-Ok-weighed.ensures in (
      totals-fit c.args.shares.now c.requires c.in-Ok.whole c.in-Ok.ensures c.in-Ok-weighed.parts.items made.0 made.1 c.in-Ok-add_up.field-0
          (c.in-Ok-add_up.ensures ∙ ap (λ (xs : List Part). totals_from (pos 0) (weights xs)) c.as_slice.ensures.value),
      parts-are c.args.shares.now c.requires c.in-Ok.whole c.in-Ok.ensures c.in-Ok-weighed.parts.items made.0 made.1,
    )

pub returns-in-Err-add_up : goal.returns-in-Err-add_up
returns-in-Err-add_up c =
    let whole : FitsSigned w128 c.in-Ok.whole = search rules in
    let made = simp to_z-of_z at c.in-Ok-weighed.ensures in
    totals-stop c.args.shares.now c.requires c.in-Ok.whole c.in-Ok.ensures c.in-Ok-weighed.parts.items made.0 made.1 c.in-Err-add_up.wide
    (c.in-Err-add_up.ensures ∙ ap (λ (xs : List Part). totals_from (pos 0) (weights xs)) c.as_slice.ensures.value)
