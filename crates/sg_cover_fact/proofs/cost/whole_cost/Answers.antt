use Rattle.std.proofs.Common.{◌∙◌, ◌<◌, arith}
use Rattle.std.specs.Int.{w128}
use Rattle.std.proofs.lemmas.Int.{to_z-of_z}
use Rattle.sg_cover_fact.proofs.Costs.{cost-fits, whole-all, whole-next, whole_to}
use Rattle.sg_cover_fact.proofs.cost.whole_cost.Goals as goal

pub plus-cost-requires : goal.plus-cost-requires
plus-cost-requires c =
    let p = to_z-of_z w128 c.whole_part.result (record { sfits = c.whole_part.type_inv }) in
    let few : c.loop-i.i < 256 = omega (arith, c.type_at-l.ensures.number, c.type_at-l.type_inv) in
    rw p (cost-fits (whole_to c.args.game.now c.args.fix.now c.loop-i.i) c.loop-i.i _ c.whole_part.result c.loop-i.invariant few c.whole_part.ensures.small)

pub loop-i-preserved : goal.loop-i-preserved
loop-i-preserved c =
    let p = to_z-of_z w128 c.whole_part.result (record { sfits = c.whole_part.type_inv }) in
    let s = to_z-of_z w128 c.plus-cost.result (record { sfits = c.plus-cost.type_inv }) ∙ c.plus-cost.ensures in
    whole-next c.args.game.now c.args.fix.now c.loop-i.i c.type_at-l.result c.act_at-own.result _ c.whole_part.result _ (omega arith) c.type_at-l.ensures.number c.act_at-own.ensures.number c.loop-i.invariant c.whole_part.ensures.value c.whole_part.ensures.small (rw (← p) s)

pub returns : goal.returns
returns c =
    let h = c.loop-i.invariant in h.0 ∙ whole-all c.args.game.now c.args.fix.now c.loop-i.i (omega arith)
