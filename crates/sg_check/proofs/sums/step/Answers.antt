use Rattle.std.proofs.Common.{rules, FitsSigned}
use Rattle.std.specs.Int.{w128}
use Rattle.std.proofs.lemmas.Int.{to_z-of_z}
use Rattle.sg_check.proofs.Valued.{step-forms}
use Rattle.sg_check.proofs.sums.step.Goals as goal

pub returns-in-Some : goal.returns-in-Some
returns-in-Some c =
    let w : FitsSigned w128 c.args.weight = c.ranges.weight in
    let p : FitsSigned w128 c.args.pay = c.ranges.pay in
    let s : FitsSigned w128 c.args.sum = c.ranges.sum in
    let q : FitsSigned w128 c.in-Some.product = search rules in
    let m = simp to_z-of_z at c.in-Some.ensures in
    let a = simp to_z-of_z at c.added.ensures in
    step-forms c.args.sum c.in-Some.product c.args.weight c.args.pay c.added.result m.0 m.1 a
