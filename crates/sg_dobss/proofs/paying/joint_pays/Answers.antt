use Rattle.std.proofs.Common.{rules}
use Rattle.std.specs.Int.{w64}
use Rattle.std.specs.Prelude.{FitsSigned}
use Rattle.std.proofs.lemmas.Int.{to_z-of_z}
use Rattle.sg_dobss.proofs.Paid.{joint-by_play}
use Rattle.sg_dobss.proofs.paying.joint_pays.Goals as goal

pub returns : goal.returns
returns c =
    let fi : FitsSigned w64 c.inside_pay-inside.result = search rules in
    let fo : FitsSigned w64 c.outside_pay-outside.result = search rules in
    let is = simp to_z-of_z at c.in_ok-pays.ensures in
    joint-by_play c.args.game.now c.requires.security c.args.coverage.now c.requires.covered c.args.side.now c.args.l c.args.a c.requires.known_action.0 c.requires.known_action.1
    c.index-coverage-a.result c.as_slice.result.now c.inside_pay-inside.result c.outside_pay-outside.result c.in_ok-pays.pays c.index-coverage-a.is c.as_slice.ensures c.inside_pay-inside.ensures c.outside_pay-outside.ensures is
