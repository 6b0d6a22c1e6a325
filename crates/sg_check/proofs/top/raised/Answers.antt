use Rattle.std.proofs.Common.{arith}
use Rattle.std.proofs.lemmas.Int.{ints}
use Rattle.sg_check.proofs.Tops.{raise-greater, raise-less, raise-none, same-under}
use Rattle.sg_check.proofs.top.raised.Goals as goal

pub returns-in-None : goal.returns-in-None
returns-in-None c = λ bounds more h shows. raise-none c.args.best.now c.args.bound.now bounds more c.in-None.is h shows

pub returns-in-Less : goal.returns-in-Less
returns-in-Less c = λ bounds more h shows. raise-less c.args.best.now c.in-Some.next c.args.bound.now bounds more c.in-Some.is h shows c.in-Less.ensures.meaning

pub returns-in-Equal : goal.returns-in-Equal
returns-in-Equal c = λ bounds more h shows. raise-greater c.args.best.now c.in-Some.next c.args.bound.now bounds more c.in-Some.is h shows (same-under c.args.best.now c.in-Some.next c.in-Equal.ensures.meaning)

pub returns-in-Greater : goal.returns-in-Greater
returns-in-Greater c = λ bounds more h shows. let lt = c.in-Greater.ensures.meaning in raise-greater c.args.best.now c.in-Some.next c.args.bound.now bounds more c.in-Some.is h shows (omega (arith, ints, lt))
