use Rattle.std.proofs.Common.{◌∙◌, sym, ap}
use Rattle.sg_words.specs.Kinds.{is_number}
use Rattle.sg_words.proofs.Digits.{parsed, not_parsed}
use Rattle.sg_words.proofs.kind.number_in.Goals as goal

pub returns-in-Ok : goal.returns-in-Ok
returns-in-Ok c =
    parsed c.args.text.now c.parse.result c.in-Ok.number (ap is_number (sym c.as_bytes.ensures.value) ∙ sym c.is_number.ensures ∙ c.if-not-is_number.false) c.in-Ok.is c.parse.ensures.value.0

pub returns-in-Err : goal.returns-in-Err
returns-in-Err c =
    not_parsed c.args.text.now c.parse.result c.in-Err.field-0 (ap is_number (sym c.as_bytes.ensures.value) ∙ sym c.is_number.ensures ∙ c.if-not-is_number.false) c.in-Err.is c.parse.ensures.value.0
