use Rattle.std.proofs.Common.{arith, ap, length}
use Rattle.sg_dobss.proofs.Ranks.{rank-begin, rank-below, rank-last, rank-room-by, rank-step-by}
use Rattle.sg_dobss.proofs.places.joint_place.Goals as goal

pub loop-r-init : goal.loop-r-init
loop-r-init c = rank-begin c.args.game.now c.args.count c.args.col.now c.requires.security c.requires.count c.requires.listed

pub overflow_mul-place : goal.overflow_mul-place
overflow_mul-place c =
    let inv = c.loop-r.invariant in
    let room = rank-room-by c.args.game.now inv.0 c.loop-r.r c.loop-r.place (length c.resource_schedules.result.now) _ (omega (arith, c.loop-r-test.true, c.resources-r-end.ensures.count)) (ap length c.resource_schedules.ensures.list) inv.3 in
    let below = inv.1 in
    omega (arith, room, below, c.requires.few)

pub overflow_add-place : goal.overflow_add-place
overflow_add-place c =
    let inv = c.loop-r.invariant in
    let next = rank-step-by c.args.game.now c.args.count c.loop-r.r c.loop-r.place (length c.resource_schedules.result.now) c.args.col.now c.requires.security c.requires.count
    (omega (arith, c.loop-r-test.true, c.resources-r-end.ensures.count)) (ap length c.resource_schedules.ensures.list) inv.0 inv.1 inv.2 inv.3 in
    let room = rank-below _ _ _ _ _ _ next in
    let below = inv.1 in
    omega (arith, room, below, c.requires.few)

pub loop-r-preserved : goal.loop-r-preserved
loop-r-preserved c =
    let inv = c.loop-r.invariant in (
      inv.0,
      inv.1,
      inv.2,
      rank-step-by c.args.game.now c.args.count c.loop-r.r c.loop-r.place (length c.resource_schedules.result.now) c.args.col.now c.requires.security c.requires.count
          (omega (arith, c.loop-r-test.true, c.resources-r-end.ensures.count)) (ap length c.resource_schedules.ensures.list) inv.0 inv.1 inv.2 inv.3,
    )

pub returns : goal.returns
returns c =
    let inv = c.loop-r.invariant in
    let last = rank-last c.args.game.now _ c.args.count c.loop-r.r c.loop-r.place c.args.col.now (omega (arith, c.loop-r-test.false, c.resources-r-end.ensures.count)) (omega (arith, c.loop-r.auto.r-end, c.resources-r-end.ensures.count)) inv.0 inv.1 inv.2 inv.3 in
    record { inside = last.0; there = last.1 }
