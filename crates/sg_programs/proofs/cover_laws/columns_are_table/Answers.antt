use Rattle.sg_programs.proofs.CoverColumns.{columns_are_table}
use Rattle.sg_programs.proofs.cover_laws.columns_are_table.Goals as goal

pub returns : goal.returns
returns c = columns_are_table
