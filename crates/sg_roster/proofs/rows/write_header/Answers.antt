use Rattle.std.specs.Prelude.{codes}
use Rattle.sg_roster.specs.Rows.{header_names}
use Rattle.sg_roster.proofs.Rowed.{row_written}
use Rattle.sg_roster.proofs.rows.write_header.Goals as goal

pub returns : goal.returns
returns c =
    row_written c.args.writer.now c.begin_row.new.writer c.add_columns.new.writer c.end_row.new.writer (codes "day") (header_names c.args.game.now)
    (λ e. cc) c.in_ok-begin_row.ensures c.in_ok-add_columns.ensures c.in_ok-end_row.ensures
