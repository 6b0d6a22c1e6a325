use Rattle.std.proofs.Common.{◌+◌, ◌<◌, ap, arith, length, List, ℕ, slice_index_or}
use Rattle.sg_game.specs.declared.cell.Cell.{Cell}
use Rattle.sg_game.specs.Tallies.{no_cell}
use Rattle.sg_report.specs.Lines.{target_text}
use Rattle.sg_report.proofs.Lines.{cell_same, next_line}
use Rattle.sg_report.proofs.text.put_counts.Goals as goal

pub loop-n-preserved : goal.loop-n-preserved
loop-n-preserved c =
    let g = c.args.game.now in
    let cells = c.args.cells.now in
    let f : ℕ → List ℕ = λ n. target_text g n (slice_index_or cells n no_cell).count in
    let lt : c.loop-n.n < length g.goals = omega (arith, c.loop-n-test.true, c.targets_of-n-end.ensures) in
    next_line f c.loop-n.n (length g.goals) c.loop-n.text.items c.put_target_line.new.text.items _ _ lt
    (ap (λ (d : Cell). target_text g (c.loop-n.n + 1) d.count) (cell_same cells (c.loop-n.n + 1) no_cell (omega (arith, lt, c.requires.room)))) c.in_ok-put_target_line.ensures c.loop-n.invariant
