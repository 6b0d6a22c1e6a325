use Rattle.std.proofs.Common.{arith}
use Rattle.std.proofs.lemmas.Int.{ints}
use Rattle.sg_upper.proofs.Greatests.{raise-greater, raise-less, raise-none, same-under}
use Rattle.sg_upper.proofs.leaves.raised.Goals as goal

pub returns-in-None : goal.returns-in-None
returns-in-None c = λ more shows bounds h. raise-none c.args.best c.args.bound bounds more c.in-None.is h shows

pub returns-in-Less : goal.returns-in-Less
returns-in-Less c = λ more shows bounds h. raise-less c.args.best c.in-Some.next c.args.bound bounds more c.in-Some.is h shows c.in-Less.ensures.meaning

pub returns-in-Equal : goal.returns-in-Equal
returns-in-Equal c = λ more shows bounds h. raise-greater c.args.best c.in-Some.next c.args.bound bounds more c.in-Some.is h shows (same-under c.args.best c.in-Some.next c.in-Equal.ensures.meaning)

pub returns-in-Greater : goal.returns-in-Greater
returns-in-Greater c = λ more shows bounds h. let lt = c.in-Greater.ensures.meaning in raise-greater c.args.best c.in-Some.next c.args.bound bounds more c.in-Some.is h shows (omega (arith, ints, lt))
