use Rattle.std.proofs.Common.{sym, ◌∙◌}
use Rattle.std.specs.Option.{option_copied}
use Rattle.sg_cert_reader.proofs.FieldSteps.{words_end, words_more, words_fail}
use Rattle.sg_cert_reader.proofs.field.has_words.Goals as goal

pub returns : goal.returns
returns c = sym (words_end c.loop-word.words c.loop-word.left c.in_default.ensures.taken.0) ∙ c.loop-word.invariant

pub loop-word-preserved : goal.loop-word-preserved
loop-word-preserved c = words_more c.loop-word.words c.loop-word.left c.in-Some.word.now c.take.new.self (option_copied c.take-in-Some.result) c.take-in-Some.new.self _ c.in-Some.ensures.taken c.take-in-Some.ensures.first c.take-in-Some.ensures.rest c.in-Ok.ensures c.loop-word.invariant

pub returns-in-Err : goal.returns-in-Err
returns-in-Err c = words_fail c.loop-word.words c.loop-word.left c.in-Some.word.now c.take.new.self (option_copied c.take-in-Some.result) c.in-Err.reason _ c.in-Some.ensures.taken c.take-in-Some.ensures.first c.in-Err.ensures c.loop-word.invariant
