use Rattle.std.proofs.Common.{◌≡◌, arith, length}
use Rattle.sg_model.proofs.Forms.{no_matrix}
use Rattle.sg_cover_fact.proofs.TableNumbers.{held-at, within-at}
use Rattle.sg_cover_fact.proofs.row.row_at.Goals as goal

pub returns-then-number-resources-2 : goal.returns-then-number-resources-2
returns-then-number-resources-2 c =
    let g = c.args.game.now in
    let m : c.targets-targets.result ≡ length g.goals = rw (no_matrix g c.requires.security) at c.targets-targets.ensures.count in
    held-at g c.args.fix.now (c.rows_in_order.ensures g c.requires.security c.args.fix.now c.requires.is_fix) c.args.number c.resources-resources.result c.resources-resources.ensures.count (omega arith) (omega arith)

pub returns-then-number-resources-3 : goal.returns-then-number-resources-3
returns-then-number-resources-3 c =
    let g = c.args.game.now in
    let m : c.targets-targets.result ≡ length g.goals = rw (no_matrix g c.requires.security) at c.targets-targets.ensures.count in
    within-at g c.args.fix.now (c.rows_in_order.ensures g c.requires.security c.args.fix.now c.requires.is_fix) c.args.number c.resources-resources.result c.targets-targets.result c.resources-resources.ensures.count m (omega arith) (omega arith)
