use Rattle.std.proofs.Common.{rules, subst, sym, ◌+◌}
use Rattle.std.specs.Int.{w64}
use Rattle.std.specs.Prelude.{FitsSigned}
use Rattle.std.proofs.lemmas.Int.{to_z-of_z}
use Rattle.sg_dobss.specs.Paying.{AreNumbers, pay, listed_play}
use Rattle.sg_dobss.proofs.Numbered.{push}
use Rattle.sg_dobss.proofs.Paid.{row-is, rows-all}
use Rattle.sg_dobss.proofs.paying.row_pays.Goals as goal

pub loop-i-preserved : goal.loop-i-preserved
loop-i-preserved c =
    let g = c.args.game.now in
    let a = c.args in
    let fits : FitsSigned w64 c.row_pay.result = search rules in
    let is = simp to_z-of_z at c.in_ok-push.ensures.ok in
    let next = row-is g c.requires.matrix a.side.now a.l a.a c.rows-i-end.result c.loop-i.i c.row_pay.result c.rows-i-end.ensures.count c.loop-i-test.true c.row_pay.ensures in
    subst (AreNumbers (c.loop-i.i + 1) (λ k. pay a.side.now g a.l (listed_play g k) a.a)) (sym is) (push c.loop-i.i (λ k. pay a.side.now g a.l (listed_play g k) a.a) c.loop-i.pays c.row_pay.result c.loop-i.invariant next)

pub returns : goal.returns
returns c =
    let a = c.args in
    rows-all a.game.now c.requires.matrix (λ play. pay a.side.now a.game.now a.l play a.a) c.rows-i-end.result c.loop-i.i c.loop-i.pays c.rows-i-end.ensures.count c.loop-i-test.false c.loop-i.auto.i-end c.loop-i.invariant
