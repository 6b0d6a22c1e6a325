use Rattle.sg_bounds.proofs.Small.{small_totals_fit}
use Rattle.sg_bounds.proofs.report_laws.small_totals_fit.Goals as goal

pub returns : goal.returns
returns c = small_totals_fit
