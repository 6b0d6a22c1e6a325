use Rattle.std.proofs.Common.{FitsSigned, rules}
use Rattle.std.specs.Int.{w128}
use Rattle.std.proofs.lemmas.Int.{to_z-of_z}
use Rattle.sg_upper.proofs.Quotients.{root-lowered}
use Rattle.sg_upper.proofs.leaves.root_bound.Goals as goal

pub returns : goal.returns
returns c = λ caps are.
    let n : FitsSigned w128 c.greatest_worth.result = record { sfits = c.greatest_worth.type_inv } in
    let d : FitsSigned w128 c.args.rests.now.priors = search rules in
    let lowest = simp (to_z-of_z, n, d) at c.lowest.ensures in
    root-lowered c.args.game.now c.greatest_worth.result c.args.rests.now.priors c.lowest.result c.greatest_worth.ensures are.priors are.some (lowest are.some)
