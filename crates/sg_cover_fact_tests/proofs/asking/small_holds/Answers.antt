use Rattle.std.proofs.Common.{◌∙◌, to_z, of_z}
use Rattle.std.specs.Int.{w32, w128}
use Rattle.std.proofs.lemmas.Int.{to_z-of_z}
use Rattle.sg_cover_fact_tests.proofs.Smalls.{small-fits, small-number}
use Rattle.sg_cover_fact_tests.proofs.asking.small_holds.Goals as goal

pub holds-requires-clause-size : goal.holds-requires-clause-size
holds-requires-clause-size c =
    let one = to_z-of_z w128 c.from.result (record { sfits = c.from.type_inv }) in
    let two = c.from.ensures ∙ to_z-of_z w32 c.args.rho c.ranges.rho in
    small-fits c.args.game.now c.promises.ensures c.requires.security c.args.fix.now c.requires.is_fix _ (to_z w128 (of_z w128 c.from-2.result)) (rw (one, two) (small-number c.args.rho c.ranges.rho)) c.args.lines.now c.requires.small
