use Rattle.std.proofs.Common.{sym, ◌∙◌}
use Rattle.std.specs.Option.{option_copied}
use Rattle.sg_cert_reader.proofs.FieldSteps.{spelled_end, spelled_more, spelled_fail}
use Rattle.sg_cert_reader.proofs.field.is_spelled.Goals as goal

pub returns : goal.returns
returns c = sym (spelled_end c.loop-field.words c.loop-field.left c.in_default.ensures.taken.0) ∙ c.loop-field.invariant

pub loop-field-preserved : goal.loop-field-preserved
loop-field-preserved c = spelled_more c.loop-field.words c.loop-field.left c.in-Some.field.now c.take.new.self (option_copied c.take-in-Some.result) c.take-in-Some.new.self _ c.in-Some.ensures.taken c.take-in-Some.ensures.first c.take-in-Some.ensures.rest (sym c.is_spelled_field.ensures ∙ c.if-not-is_spelled_field.false) c.loop-field.invariant

pub returns-then-not-is_spelled_field : goal.returns-then-not-is_spelled_field
returns-then-not-is_spelled_field c = spelled_fail c.loop-field.words c.loop-field.left c.in-Some.field.now c.take.new.self (option_copied c.take-in-Some.result) _ c.in-Some.ensures.taken c.take-in-Some.ensures.first (sym c.is_spelled_field.ensures ∙ c.if-not-is_spelled_field.true) c.loop-field.invariant
