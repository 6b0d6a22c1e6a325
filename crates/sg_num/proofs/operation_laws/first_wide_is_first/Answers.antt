use Rattle.sg_num.proofs.Firsts.{first_wide-first, first_wide-none, formed-first, results-fit}
use Rattle.sg_num.proofs.operation_laws.first_wide_is_first.Goals as goal

pub returns-clause-first : goal.returns-clause-first
returns-clause-first c = first_wide-first

pub returns-clause-none : goal.returns-clause-none
returns-clause-none c = first_wide-none

pub returns-clause-formed : goal.returns-clause-formed
returns-clause-formed c = formed-first

pub returns-clause-results : goal.returns-clause-results
returns-clause-results c = results-fit
