use Rattle.sg_check.proofs.Valued.{form-same, same-form}
use Rattle.sg_check.proofs.value.is_value.Goals as goal

pub returns : goal.returns
returns c =
    let num = c.args.value.now.num in
    let den = c.args.value.now.den in (
      λ t. form-same num den c.reduced.result c.args.stated.now c.reduced.ensures (c.is_same.ensures.0 t),
      λ e. c.is_same.ensures.1 (same-form num den c.reduced.result c.args.stated.now c.requires c.reduced.ensures c.den-lowest.ensures.reduced e),
    )
