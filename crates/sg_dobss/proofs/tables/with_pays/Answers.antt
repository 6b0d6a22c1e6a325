use Rattle.std.proofs.Common.{rules, subst, sym, ◌+◌}
use Rattle.std.specs.Int.{w64}
use Rattle.std.specs.Prelude.{FitsSigned}
use Rattle.std.proofs.lemmas.Int.{to_z-of_z}
use Rattle.sg_dobss.specs.Paying.{AreNumbers}
use Rattle.sg_dobss.specs.Tables.{added_to}
use Rattle.sg_dobss.proofs.Numbered.{push}
use Rattle.sg_dobss.proofs.tables.with_pays.Goals as goal

pub loop-k-preserved : goal.loop-k-preserved
loop-k-preserved c =
    let a = c.args in
    let fp : FitsSigned w64 a.prior = c.ranges.prior in
    let fs : FitsSigned w64 a.shift = c.ranges.shift in
    let fv : FitsSigned w64 c.added_at.result = search rules in
    let inv = simp to_z-of_z at c.loop-k.invariant in
    let value = simp to_z-of_z at c.added_at.ensures in
    let next = simp to_z-of_z at c.in_ok-push.ensures.ok in
    simp to_z-of_z (subst (AreNumbers (c.loop-k.k + 1) (added_to a.costs.now a.prior a.shift a.pays.now)) (sym next) (push c.loop-k.k (added_to a.costs.now a.prior a.shift a.pays.now) c.loop-k.sums c.added_at.result inv value))
