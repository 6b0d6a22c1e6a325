use Rattle.std.specs.Int.{w128}
use Rattle.std.proofs.Common.{arith}
use Rattle.std.proofs.lemmas.Int.{ints, quot_is, quot_fits}
use Rattle.sg_check.proofs.water.quotient.Goals as goal

pub returns : goal.returns
returns c = quot_is w128 c.args.a c.args.b c.ranges.a c.ranges.b (quot_fits w128 c.args.a c.args.b c.ranges.a (omega (arith, ints, c.requires)))
