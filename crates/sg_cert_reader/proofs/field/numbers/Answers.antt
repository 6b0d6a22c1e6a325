use Rattle.sg_cert_reader.proofs.NumberLists.{numbers_more, numbers_fail, numbers_end}
use Rattle.sg_cert_reader.proofs.field.numbers.Goals as goal

pub loop-field-preserved : goal.loop-field-preserved
loop-field-preserved c = let e = c.in_ok-push-in-Ok.ensures.ok in rw e (numbers_more c.args.low c.loop-field.numbers c.loop-field.left c.in-Some.field.now c.take.new.self c.in-Ok.n _ c.in-Some.ensures.taken c.in-Ok.ensures.read c.loop-field.invariant)

pub returns-in-Err : goal.returns-in-Err
returns-in-Err c = numbers_fail c.args.low c.loop-field.numbers c.loop-field.left c.in-Some.field.now c.take.new.self c.in-Err.reason _ c.in-Some.ensures.taken c.in-Err.ensures.read c.loop-field.invariant

pub returns : goal.returns
returns c = numbers_end c.args.low c.loop-field.numbers c.loop-field.left _ c.in_default.ensures.taken.0 c.loop-field.invariant
