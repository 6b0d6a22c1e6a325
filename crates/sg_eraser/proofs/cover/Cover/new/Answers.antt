use Rattle.std.proofs.Common.{◌≤◌, length, subst, sym, List}
use Rattle.std.specs.List.{All}
use Rattle.sg_eraser.specs.declared.table.CoverRow.{CoverRow}
use Rattle.sg_eraser.specs.declared.table.CoverColumn.{CoverColumn}
use Rattle.sg_eraser.specs.TableValues.{IsCoverColumn, IsCoverRow}
use Rattle.sg_eraser.proofs.Tabled.{columns-known, made, rows-few, rows-known}
use Rattle.sg_eraser.proofs.cover.Cover.new.Goals as goal

pub entries-requires-clause-rows : goal.entries-requires-clause-rows
entries-requires-clause-rows c =
    let g = c.args.game.now in
    let fix = c.args.fix.now in
    subst (λ (rs : List CoverRow). All (IsCoverRow g fix) rs) (sym c.as_slice-2.ensures) (rows-known g c.requires.security fix c.requires.is_fix c.in_ok-rows.rows c.in_ok-rows.ensures)

pub entries-requires-clause-few : goal.entries-requires-clause-few
entries-requires-clause-few c =
    subst (λ (rs : List CoverRow). length rs ≤ 1536) (sym c.as_slice-2.ensures)
    (rows-few c.args.game.now c.requires.security c.args.fix.now c.requires.is_fix c.in_ok-rows.rows c.in_ok-rows.ensures c.promises.ensures c.requires.unscaled)

pub entries-requires-clause-columns : goal.entries-requires-clause-columns
entries-requires-clause-columns c =
    subst (λ (cs : List CoverColumn). All (IsCoverColumn c.args.game.now) cs) (sym c.as_slice-3.ensures) (columns-known c.args.game.now c.in_ok-columns.columns c.in_ok-columns.ensures)

pub invariant_of-result : goal.invariant_of-result
invariant_of-result c =
    made c.args.game.now c.args.fix.now c.in_ok-fix.fix c.in_ok-rows.rows c.as_slice-2.result.now c.in_ok-columns.columns c.as_slice.result.now c.as_slice-3.result.now c.in_ok-costs.costs c.in_ok-entries.entries
    c.requires.security c.requires.unscaled c.requires.is_fix c.in_ok-fix.ensures c.in_ok-rows.ensures c.in_ok-columns.ensures c.as_slice.ensures c.as_slice-2.ensures c.as_slice-3.ensures c.in_ok-costs.ensures c.in_ok-entries.ensures
