use Rattle.std.proofs.Common.{◌<◌, arith, length, refl}
use Rattle.sg_report.specs.Tables.{row_line}
use Rattle.sg_report.proofs.Lines.{next_line}
use Rattle.sg_report.proofs.text.put_row_lines.Goals as goal

pub loop-n-preserved : goal.loop-n-preserved
loop-n-preserved c =
    let g = c.args.game.now in
    let lt : c.loop-n.n < length g.goals = omega (arith, c.loop-n-test.true, c.rows_of-n-end.ensures) in
    next_line (row_line g c.args.k.now.tickets) c.loop-n.n (length g.goals) c.loop-n.text.items c.put_row_line.new.text.items _ _ lt refl c.in_ok-put_row_line.ensures c.loop-n.invariant
