use Rattle.sg_programs.proofs.Columns.{columns_are_plays}
use Rattle.sg_programs.proofs.laws.columns_are_plays.Goals as goal

pub returns : goal.returns
returns c = columns_are_plays
