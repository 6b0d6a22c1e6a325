use Rattle.sg_matchings.proofs.PaddedSums.{padded-has}
use Rattle.sg_matchings.proofs.laws.padded_counts_have_a_line_sum.Goals as goal

pub returns : goal.returns
returns c = padded-has
