use Rattle.sg_programs.proofs.CoverCounts.{counts_are_choice_counts}
use Rattle.sg_programs.proofs.cover_point_laws.counts_are_choice_counts.Goals as goal

pub returns : goal.returns
returns c = counts_are_choice_counts
