use Rattle.std.proofs.Common.{◌+◌, FitsSigned, arith}
use Rattle.std.specs.Int.{w64}
use Rattle.std.proofs.lemmas.Int.{ints, to_z-of_z}
use Rattle.sg_model.specs.Payoffs.{payoffs_of}
use Rattle.sg_desk.proofs.Measured.{larger-is, larger-pay, lists-greatest, payoffs-some}
use Rattle.sg_desk.proofs.measures.greatest_payoff.Goals as goal

pub loop-l-preserved : goal.loop-l-preserved
loop-l-preserved c =
    let g = c.args.game.now in
    let f = payoffs_of g in
    let first = payoffs-some g c.promises.ensures 1 (omega arith) (omega (arith, c.types-types.ensures.count, c.types-types.ensures.some)) in
    let next = payoffs-some g c.promises.ensures (c.loop-l.l + 1) (omega arith) (omega (arith, c.types-types.ensures.count, c.loop-l-test.true)) in
    let more = lists-greatest f c.loop-l.l (omega (arith, c.loop-l.auto.l)) first next in
    let fits : FitsSigned w64 c.greatest.result = record { sfits = c.greatest.type_inv } in
    let e = simp (to_z-of_z, fits) at c.larger-most.ensures in
    let is = larger-is _ _ _ _ _ _ e c.loop-l.invariant.most c.greatest.ensures.greatest more in
    let pay = larger-pay _ _ _ e c.loop-l.invariant.within c.greatest.ensures.within in
    record {
      most = omega (arith, ints, is);
      within = record { at_least = omega (arith, ints, pay.at_least); at_most = omega (arith, ints, pay.at_most) };
    }
