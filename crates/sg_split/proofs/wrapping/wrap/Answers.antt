use Rattle.std.specs.Int.{w128}
use Rattle.std.specs.Prelude.{FitsSigned}
use Rattle.std.proofs.lemmas.Int.{to_z-of_z}
use Rattle.sg_split.specs.Wraps.{AreMomentParts}
use Rattle.sg_split.proofs.Commits.{no_fault, parts_weigh, wrap_is}
use Rattle.sg_split.proofs.wrapping.wrap.Goals as goal

pub joined-requires : goal.joined-requires
joined-requires c =
    let g = c.args.game.now in
    let counts = c.args.counts.now in
    let parts = c.in_ok-parts.parts.items in
    let fits : FitsSigned w128 c.args.total = c.ranges.total in
    let are : AreMomentParts g counts c.args.total parts = simp to_z-of_z at c.in_ok-parts.ensures in
    no_fault parts c.args.total are.positive (parts_weigh g counts c.args.total parts c.requires are) c.requires.positive fits

pub returns : goal.returns
returns c =
    let g = c.args.game.now in
    let counts = c.args.counts.now in
    let parts = c.in_ok-parts.parts.items in
    let fits : FitsSigned w128 c.args.total = c.ranges.total in
    let are : AreMomentParts g counts c.args.total parts = simp to_z-of_z at c.in_ok-parts.ensures in
    wrap_is g c.promises.ensures counts c.args.total c.requires parts are c.joined.result c.joined.ensures.shares c.joined.ensures.rules
