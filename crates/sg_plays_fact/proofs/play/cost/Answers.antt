use Rattle.std.proofs.Common.{◌≡◌, arith, rules, of_z, to_z}
use Rattle.std.specs.Int.{w128}
use Rattle.std.proofs.lemmas.Int.{ints, to_z-of_z}
use Rattle.sg_plays_fact.proofs.Adding.{cost-end, cost-next}
use Rattle.sg_plays_fact.proofs.Fixes.{fixed-few}
use Rattle.sg_plays_fact.proofs.play.cost.Goals as goal

pub overflow_add-sum : goal.overflow_add-sum
overflow_add-sum c =
    let p = c.worth-sum.result in
    let e : to_z w128 (of_z w128 p) ≡ p = search (rules, to_z-of_z) in
    let few = fixed-few c.args.game.now c.args.fix.now c.promises.ensures c.requires.is_fix in
    omega (arith, ints, e, c.loop-i.invariant.small.0, c.loop-i.invariant.small.1, c.worth-sum.ensures.small.0, c.worth-sum.ensures.small.1, few)

pub loop-i-preserved : goal.loop-i-preserved
loop-i-preserved c =
    let p = c.worth-sum.result in
    let e : to_z w128 (of_z w128 p) ≡ p = search (rules, to_z-of_z) in
    let few = fixed-few c.args.game.now c.args.fix.now c.promises.ensures c.requires.is_fix in
    cost-next c.args.game.now c.args.fix.now c.args.code.now c.loop-i.i c.type_at-l.result c.act_at-a.result _ p _ (omega arith) c.type_at-l.ensures.number c.act_at-a.ensures.number c.worth-sum.ensures.value c.worth-sum.ensures.small c.loop-i.invariant
    (omega (arith, ints, e, c.loop-i.invariant.small.0, c.loop-i.invariant.small.1, c.worth-sum.ensures.small.0, c.worth-sum.ensures.small.1, few))

pub returns : goal.returns
returns c = cost-end c.args.game.now c.args.fix.now c.args.code.now c.loop-i.i _ (omega arith) c.loop-i.invariant
