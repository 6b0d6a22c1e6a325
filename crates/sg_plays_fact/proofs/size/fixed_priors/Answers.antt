use Rattle.std.proofs.Common.{◌≡◌, arith, rules, to_z, of_z}
use Rattle.std.specs.Int.{w64}
use Rattle.std.proofs.lemmas.Int.{ints, to_z-of_z}
use Rattle.sg_plays_fact.proofs.Adding.{priors-end, priors-next}
use Rattle.sg_plays_fact.proofs.Fixes.{fixed-few}
use Rattle.sg_plays_fact.proofs.size.fixed_priors.Goals as goal

pub overflow_add-sum : goal.overflow_add-sum
overflow_add-sum c =
    let p = c.prior-sum.result in
    let e : to_z w64 (of_z w64 p) ≡ p = search (rules, to_z-of_z) in
    let few = fixed-few c.args.game.now c.args.fix.now c.promises.ensures c.requires in
    omega (arith, ints, e, c.loop-i.invariant.1, c.loop-i.invariant.2, c.prior-sum.ensures, few)

pub loop-i-preserved : goal.loop-i-preserved
loop-i-preserved c =
    let p = c.prior-sum.result in
    let e : to_z w64 (of_z w64 p) ≡ p = search (rules, to_z-of_z) in
    let few = fixed-few c.args.game.now c.args.fix.now c.promises.ensures c.requires in
    priors-next c.args.game.now c.args.fix.now c.loop-i.i c.type_at.result _ p _ (omega arith) c.type_at.ensures.number c.prior-sum.ensures.prior c.prior-sum.ensures.some c.prior-sum.ensures.few
    c.loop-i.invariant.0 c.loop-i.invariant.1 c.loop-i.invariant.2 (omega (arith, ints, e, c.loop-i.invariant.1, c.loop-i.invariant.2, c.prior-sum.ensures, few))

pub returns : goal.returns
returns c = priors-end c.args.game.now c.args.fix.now c.loop-i.i _ (omega arith) c.loop-i.invariant.0
