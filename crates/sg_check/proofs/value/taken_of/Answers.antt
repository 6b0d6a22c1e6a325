use Rattle.std.proofs.Common.{FitsSigned, arith, rules}
use Rattle.std.specs.Int.{w128}
use Rattle.std.proofs.lemmas.Int.{ints, to_z-of_z}
use Rattle.sg_check.proofs.Valued.{best-wide, look-next, look-wide, taken-end, taken-start}
use Rattle.sg_check.proofs.value.taken_of.Goals as goal

pub returns-in-None : goal.returns-in-None
returns-in-None c = best-wide c.args.game.now c.args.tickets.now c.args.l c.args.best.now c.requires.best c.in-None.ensures

pub loop-i-init : goal.loop-i-init
loop-i-init c = taken-start c.args.game.now c.args.tickets.now c.args.l c.args.best.now _ c.requires.best (omega (arith, ints, c.in-Some.ensures.1))

pub loop-i-preserved : goal.loop-i-preserved
loop-i-preserved c =
    let q : FitsSigned w128 c.in-Some-look.next = search rules in
    simp to_z-of_z (look-next c.args.game.now c.args.tickets.now c.args.l c.loop-i.i c.args.best.now.sum _ c.in-Some-look.next (omega (arith, c.loop-i-test.true, c.actions-i-end.ensures.count)) c.in-Some-look.ensures.best c.in-Some-look.ensures.other c.loop-i.invariant)

pub returns-in-None-look : goal.returns-in-None-look
returns-in-None-look c =
    look-wide c.args.game.now c.args.tickets.now c.args.l c.loop-i.i c.args.best.now.sum _ (omega (arith, c.loop-i-test.true, c.actions-i-end.ensures.count)) c.in-None-look.ensures.best c.in-None-look.ensures.other

pub returns : goal.returns
returns c = taken-end c.args.game.now c.args.tickets.now c.args.l c.loop-i.i c.args.best.now.sum _ (omega (arith, c.loop-i-test.false, c.actions-i-end.ensures.count, c.loop-i.auto)) c.loop-i.invariant
