use Rattle.sg_bounds.proofs.RowOrder.{play_rows_are_counted}
use Rattle.sg_bounds.proofs.fact_laws.play_rows_are_counted.Goals as goal

pub returns : goal.returns
returns c = play_rows_are_counted
