use Rattle.sg_matchings.proofs.Full.{full_matched}
use Rattle.sg_matchings.proofs.laws.full_rows_and_columns_are_matched.Goals as goal

pub returns : goal.returns
returns c = full_matched
