use Rattle.std.proofs.Common.{◌∙◌, ◌++◌, ap, flat_map, length, List, ℕ, slice_index_or}
use Rattle.sg_model.specs.Sums.{numbers}
use Rattle.sg_game.specs.declared.cell.Cell.{Cell}
use Rattle.sg_game.specs.Tallies.{no_cell}
use Rattle.sg_report.specs.Lines.{target_text}
use Rattle.sg_report.proofs.Tabled.{target_lines}
use Rattle.sg_report.proofs.text.put_target_lines.Goals as goal

pub returns : goal.returns
returns c =
    let g = c.args.game.now in
    let before = c.args.text.now.items in
    c.in_ok-put_counts.ensures
    ∙ ap (λ (ds : List Cell). before ++ flat_map (λ n. target_text g n (slice_index_or ds n no_cell).count) (numbers (length g.goals))) c.as_slice.ensures.value
    ∙ ap (λ (t : List ℕ). before ++ t) (target_lines g c.args.k.now.tickets c.in_ok-cells.cells.items c.in_ok-cells.ensures.room c.in_ok-cells.ensures.counts)
