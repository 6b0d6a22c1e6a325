use Rattle.std.proofs.Common.{arith, ap, length}
use Rattle.sg_programs.proofs.Columns.{few_resources}
use Rattle.sg_dobss.proofs.Ranks.{digit-small, size-some, unrank-begin, unrank-column, unrank-step}
use Rattle.sg_dobss.proofs.places.joint_column.Goals as goal

pub loop-r-init : goal.loop-r-init
loop-r-init c = unrank-begin c.args.game.now c.resources-resources.result c.args.k c.args.count c.requires.security c.resources-resources.ensures.count c.requires.count c.requires.inside

pub nonzero_div-code : goal.nonzero_div-code
nonzero_div-code c = size-some c.args.game.now c.resources-resources.result c.args.k c.loop-r.r c.loop-r.size c.loop-r.rest (length c.resource_schedules.result.now) _ c.loop-r-test.true (ap length c.resource_schedules.ensures.list) c.loop-r.invariant

pub overflow_cast-code : goal.overflow_cast-code
overflow_cast-code c =
    let small = digit-small c.args.game.now c.resources-resources.result c.args.k c.loop-r.r c.loop-r.size c.loop-r.rest (length c.resource_schedules.result.now) _ c.loop-r.invariant in
    omega (arith, small, c.requires.inside, c.requires.few)

pub nonzero_rem-rest : goal.nonzero_rem-rest
nonzero_rem-rest c = size-some c.args.game.now c.resources-resources.result c.args.k c.loop-r.r c.loop-r.size c.loop-r.rest (length c.resource_schedules.result.now) _ c.loop-r-test.true (ap length c.resource_schedules.ensures.list) c.loop-r.invariant

pub loop-r-preserved : goal.loop-r-preserved
loop-r-preserved c =
    let few = few_resources c.args.game.now c.promises.ensures c.requires.unscaled in
    unrank-step c.args.game.now c.resources-resources.result c.args.k c.loop-r.r c.loop-r.size c.loop-r.rest (length c.resource_schedules.result.now) c.loop-r.code c.loop-r-test.true (omega (arith, few, c.resources-resources.ensures.count))
    (ap length c.resource_schedules.ensures.list) c.loop-r.invariant

pub returns : goal.returns
returns c =
    let few = few_resources c.args.game.now c.promises.ensures c.requires.unscaled in
    unrank-column c.args.game.now c.resources-resources.result c.args.k c.args.count c.loop-r.r c.loop-r.size c.loop-r.rest c.loop-r.code c.requires.security c.resources-resources.ensures.count (omega (arith, few, c.resources-resources.ensures.count)) c.requires.count
    c.requires.inside c.loop-r-test.false c.loop-r.auto.r-end c.loop-r.invariant
