use Rattle.std.proofs.Common.{rules, FitsSigned}
use Rattle.std.specs.Int.{w128}
use Rattle.std.specs.Prelude.{unsigned_abs}
use Rattle.std.proofs.lemmas.Int.{to_z-of_z}
use Rattle.sg_dual.proofs.Shared.{no_share, weighed-next, weighed-stop}
use Rattle.sg_dual.proofs.weighing.weighed.Goals as goal

pub returns-in-Err : goal.returns-in-Err
returns-in-Err c =
    let whole : FitsSigned w128 c.args.whole = search rules in
    weighed-stop (unsigned_abs c.args.whole) c.args.shares.now c.loop-i.i c.loop-i.parts.items (simp to_z-of_z at c.loop-i.invariant) c.loop-i-test.true c.in-Err.wide (simp to_z-of_z at (c.in-Err.ensures no_share))

pub loop-i-preserved : goal.loop-i-preserved
loop-i-preserved c =
    let whole : FitsSigned w128 c.args.whole = search rules in
    simp to_z-of_z (weighed-next (unsigned_abs c.args.whole) c.args.shares.now c.loop-i.i c.loop-i.parts.items (simp to_z-of_z at c.loop-i.invariant) c.loop-i-test.true
    c.in-Ok.part c.put.new.parts.items (simp to_z-of_z at (c.in-Ok.ensures no_share)) c.in-Ok-put.ensures)
