use Rattle.std.proofs.Common.{◌∙◌}
use Rattle.sg_dobss.proofs.Paid.{row-column}
use Rattle.sg_dobss.proofs.places.column_at.Goals as goal

pub returns-in-Matrix : goal.returns-in-Matrix
returns-in-Matrix c = c.row_column.ensures ∙ row-column c.args.game.now c.args.count c.args.k c.in-Matrix.ensures c.requires.count c.requires.inside
