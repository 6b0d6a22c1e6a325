use Rattle.sg_dobss.proofs.Paid.{row-place}
use Rattle.sg_dobss.proofs.places.place_of.Goals as goal

pub overflow_sub-result : goal.overflow_sub-result
overflow_sub-result c = (row-place c.args.game.now c.args.count c.args.col.now c.in-Matrix.ensures c.requires.count c.requires.listed).0

pub returns-in-Matrix-clause-inside : goal.returns-in-Matrix-clause-inside
returns-in-Matrix-clause-inside c = (row-place c.args.game.now c.args.count c.args.col.now c.in-Matrix.ensures c.requires.count c.requires.listed).1

pub returns-in-Matrix-clause-there : goal.returns-in-Matrix-clause-there
returns-in-Matrix-clause-there c = (row-place c.args.game.now c.args.count c.args.col.now c.in-Matrix.ensures c.requires.count c.requires.listed).2
