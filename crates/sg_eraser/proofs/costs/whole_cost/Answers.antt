use Rattle.std.proofs.Common.{◌<◌, arith, length, refl, rules}
use Rattle.std.specs.Int.{w64}
use Rattle.std.specs.Prelude.{FitsSigned}
use Rattle.std.proofs.lemmas.Int.{to_z-of_z}
use Rattle.sg_eraser.proofs.CostSums.{sum-all, sum-fits, sum-next, whole_term}
use Rattle.sg_eraser.proofs.costs.whole_cost.Goals as goal

pub overflow_add-cost : goal.overflow_add-cost
overflow_add-cost c =
    let fp : FitsSigned w64 c.whole_part-cost.result = search rules in
    simp to_z-of_z (sum-fits (whole_term c.args.game.now) c.args.game.now c.args.fix.now c.promises.ensures c.requires.is_fix c.loop-i.i _ c.whole_part-cost.result (omega (arith, c.loop-i-test.true, c.len-i-end.ensures)) c.loop-i.invariant c.whole_part-cost.ensures.small)

pub loop-i-preserved : goal.loop-i-preserved
loop-i-preserved c =
    let fp : FitsSigned w64 c.whole_part-cost.result = search rules in
    let lt : c.loop-i.i < length c.args.fix.now.acts = omega (arith, c.loop-i-test.true, c.len-i-end.ensures) in
    let fs = sum-fits (whole_term c.args.game.now) c.args.game.now c.args.fix.now c.promises.ensures c.requires.is_fix c.loop-i.i _ c.whole_part-cost.result lt c.loop-i.invariant c.whole_part-cost.ensures.small in
    simp to_z-of_z (sum-next (whole_term c.args.game.now) c.args.fix.now c.loop-i.i c.type_at-l.result c.target_at-own.result _ c.whole_part-cost.result _ lt c.type_at-l.ensures.number c.target_at-own.ensures.number c.loop-i.invariant c.whole_part-cost.ensures.value
    c.whole_part-cost.ensures.small refl)

pub returns : goal.returns
returns c = let h = sum-all (whole_term c.args.game.now) c.args.fix.now c.loop-i.i _ (omega (arith, c.loop-i-test.false, c.len-i-end.ensures)) (omega (arith, c.loop-i.auto.i-end, c.len-i-end.ensures)) c.loop-i.invariant in h
