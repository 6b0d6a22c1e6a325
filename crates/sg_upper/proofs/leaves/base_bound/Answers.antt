use Rattle.sg_upper.proofs.Quotients.{base-some, base-stated}
use Rattle.sg_upper.proofs.leaves.base_bound.Goals as goal

pub returns-in-Some : goal.returns-in-Some
returns-in-Some c = λ g caps over are le stated shows. base-some g caps c.args.n over c.args.base.now c.in-Some.fact c.bound.result c.in-Some.is (c.bound.ensures g caps are le (base-stated c.args.base.now c.in-Some.fact c.in-Some.is stated))
