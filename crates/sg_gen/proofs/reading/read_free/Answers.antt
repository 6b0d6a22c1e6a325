use Rattle.std.proofs.Common.{arith}
use Rattle.sg_gen.proofs.ShapeTexts.{no-free}
use Rattle.sg_gen.proofs.reading.read_free.Goals as goal

pub returns-in-None-number_within : goal.returns-in-None-number_within
returns-in-None-number_within c =
    let x = c.in-Some.ensures in
    no-free c.args.numbers.now c.in-Some.rest.now c.in-Some.targets (omega (arith, x.1)) x.2 c.in-None-number_within.ensures
