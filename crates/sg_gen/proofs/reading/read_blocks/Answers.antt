use Rattle.std.proofs.Common.{arith}
use Rattle.sg_gen.proofs.ShapeTexts.{no-span, no-width}
use Rattle.sg_gen.proofs.reading.read_blocks.Goals as goal

pub returns-in-None-number_before_dash : goal.returns-in-None-number_before_dash
returns-in-None-number_before_dash c =
    let x = c.in-Some.ensures in
    no-width c.args.numbers.now c.in-Some.others.now c.in-Some.resources (omega (arith, x.1)) x.2 c.in-None-number_before_dash.ensures

pub returns-in-None-number_within : goal.returns-in-None-number_within
returns-in-None-number_within c =
    let x = c.in-Some.ensures in
    let y = c.in-Some-number_before_dash.ensures in
    no-span c.args.numbers.now c.in-Some.others.now c.in-Some-number_before_dash.rest.now c.in-Some.resources c.in-Some-number_before_dash.width (omega (arith, x.1)) (omega (arith, y.1)) x.2 y.2 c.in-None-number_within.ensures
