use Rattle.std.proofs.Common.{refl}
use Rattle.std.specs.Int.{w128}
use Rattle.std.proofs.lemmas.Int.{to_z-of_z}
use Rattle.sg_cover_fact.proofs.Testable.{testable}
use Rattle.sg_cover_fact.proofs.fact.table_holds.Goals as goal

pub columns_hold-requires : goal.columns_hold-requires
columns_hold-requires c =
    let lines = c.if-not-are_lines.ensures.0 refl in
    rw (to_z-of_z w128 c.args.rho c.ranges.rho) (testable c.args.game.now c.args.fix.now c.args.rho c.args.mu c.args.lines.now c.requires.security c.requires.is_fix lines c.requires.rho c.requires.size)

pub returns : goal.returns
returns c =
    let lines = c.if-not-are_lines.ensures.0 refl in
    let h = rw (to_z-of_z w128 c.args.rho c.ranges.rho, to_z-of_z w128 c.args.mu c.ranges.mu) at c.columns_hold.ensures in
    (λ holds. (lines, h.0 holds), λ both. h.1 both.1)
