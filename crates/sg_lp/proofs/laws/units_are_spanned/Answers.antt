use Rattle.sg_lp.proofs.Spanned.{units_spanned}
use Rattle.sg_lp.proofs.laws.units_are_spanned.Goals as goal

pub returns : goal.returns
returns c = λ p t st j hj whole w above shares i hi. units_spanned p t st j hj whole w shares i hi
