use Rattle.std.proofs.Common.{◌<◌, length, arith}
use Rattle.std.proofs.lemmas.Int.Digits.{digits_value_more}
use Rattle.sg_cert_reader.proofs.FieldSteps.{digit_at}
use Rattle.sg_cert_reader.proofs.field.magnitude.Goals as goal

pub loop-b-preserved : goal.loop-b-preserved
loop-b-preserved c =
    let within : c.loop-b.b-index < length c.args.digits.now = c.loop-b-test.true in
    rw (digits_value_more 10 c.args.digits.now c.loop-b.b-index within) (omega (arith, c.loop-b.invariant, digit_at c.args.digits.now c.loop-b.b-index within c.requires, c.saturating_mul.ensures, c.saturating_add-value.ensures, c.from.ensures))
