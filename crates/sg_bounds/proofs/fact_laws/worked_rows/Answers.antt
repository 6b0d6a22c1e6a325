use Rattle.std.proofs.Common.{refl}
use Rattle.sg_bounds.proofs.fact_laws.worked_rows.Goals as goal

pub returns : goal.returns
returns c = record { compared = refl; count = refl; first_play = refl; second_play = refl; table_columns = refl }
