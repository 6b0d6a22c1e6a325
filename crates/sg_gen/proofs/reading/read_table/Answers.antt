use Rattle.std.proofs.Common.{arith}
use Rattle.sg_gen.proofs.ShapeTexts.{no-actions, no-types, of-product}
use Rattle.sg_gen.proofs.reading.read_table.Goals as goal

pub returns-in-None-number_before_dash : goal.returns-in-None-number_before_dash
returns-in-None-number_before_dash c =
    let x = c.in-Some.ensures in
    no-actions c.args.numbers.now c.in-Some.others.now c.in-Some.rows (omega (arith, x.1)) x.2 c.in-None-number_before_dash.ensures

pub returns-in-None-number_within : goal.returns-in-None-number_within
returns-in-None-number_within c =
    let x = c.in-Some.ensures in
    let y = c.in-Some-number_before_dash.ensures in
    no-types c.args.numbers.now c.in-Some.others.now c.in-Some-number_before_dash.rest.now c.in-Some.rows c.in-Some-number_before_dash.actions (omega (arith, x.1)) (omega (arith, y.1)) x.2 y.2 c.in-None-number_within.ensures

pub returns-in-Some-number_within : goal.returns-in-Some-number_within
returns-in-Some-number_within c =
    let x = c.in-Some.ensures in
    let y = c.in-Some-number_before_dash.ensures in
    let z = c.in-Some-number_within.ensures in
    of-product c.args.numbers.now c.in-Some.others.now c.in-Some-number_before_dash.rest.now c.in-Some.rows c.in-Some-number_before_dash.actions (omega (arith, x.1)) (omega (arith, y.1)) x.2 y.2
    c.in-Some-number_within.types x.0 x.1 y.0 y.1 z.0 z.1 z.2 c.table_of.result c.table_of.ensures
