use Rattle.sg_check.proofs.Tops.{same-reduced}
use Rattle.sg_check.proofs.ending.bounds_meet.Goals as goal

pub returns : goal.returns
returns c =
    let both = same-reduced c.args.report.now.value c.args.report.now.upper c.den-value.ensures.reduced c.den-upper.ensures.reduced in
    (λ yes. both.0 (c.is_same.ensures.0 yes), λ same. c.is_same.ensures.1 (both.1 same))
