use Rattle.std.proofs.Common.{rules, FitsSigned}
use Rattle.std.specs.Int.{w128}
use Rattle.std.proofs.lemmas.Int.{to_z-of_z}
use Rattle.sg_upper.proofs.Quotients.{lowest-is}
use Rattle.sg_upper.proofs.leaf.lowest.Goals as goal

pub returns : goal.returns
returns c = λ some.
    let n : FitsSigned w128 c.args.value.now.num = search rules in
    let d : FitsSigned w128 c.args.value.now.den = search rules in
    let value = simp (to_z-of_z, n, d) at c.of.ensures.value in
    let none = simp (to_z-of_z, n, d) at c.of.ensures.none in
    lowest-is c.args.value.now.num c.args.value.now.den c.of.result some n d value none
