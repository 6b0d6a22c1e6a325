use Rattle.std.proofs.Common.{arith, rules}
use Rattle.std.specs.Int.{w64}
use Rattle.std.specs.Prelude.{FitsSigned}
use Rattle.std.proofs.lemmas.Int.{to_z-of_z}
use Rattle.sg_dobss.proofs.Costs.{costs-end, costs-next, costs-read, costs-start}
use Rattle.sg_dobss.proofs.tables.costs.Goals as goal

pub loop-i-init : goal.loop-i-init
loop-i-init c = costs-start c.args.game.now c.args.fix.now c.args.count c.in_ok-costs.costs c.requires.count c.in_ok-costs.ensures

pub with_pays-requires-clause-costs : goal.with_pays-requires-clause-costs
with_pays-requires-clause-costs c =
    costs-read c.args.game.now c.promises.ensures c.args.fix.now c.requires.is_fix c.loop-i.i (omega (arith, c.loop-i-test.true, c.len-i-end.ensures)) c.loop-i.costs _ c.as_slice.ensures c.loop-i.invariant

pub loop-i-preserved : goal.loop-i-preserved
loop-i-preserved c =
    let fp : FitsSigned w64 c.prior-prior.result = search rules in
    let fs : FitsSigned w64 c.shift-shift.result = search rules in
    let sums = simp to_z-of_z at c.in_ok-costs-2.ensures in
    costs-next c.args.game.now c.args.fix.now c.loop-i.i c.type_at-l.result c.act_at-act.result c.prior-prior.result c.shift-shift.result c.loop-i.costs c.as_slice.result.now c.in_ok-pays.pays c.as_slice-in-loop-i.result.now c.in_ok-costs-2.costs
    (omega (arith, c.loop-i-test.true, c.len-i-end.ensures)) c.type_at-l.ensures.number c.act_at-act.ensures.number c.prior-prior.ensures.prior c.shift-shift.ensures.shift c.as_slice.ensures c.as_slice-in-loop-i.ensures c.loop-i.invariant c.in_ok-pays.ensures.by_play sums

pub returns : goal.returns
returns c = costs-end c.args.game.now c.args.fix.now c.loop-i.i c.loop-i.costs (omega (arith, c.loop-i-test.false, c.len-i-end.ensures)) (omega (arith, c.loop-i.auto.i-end, c.len-i-end.ensures)) c.loop-i.invariant
