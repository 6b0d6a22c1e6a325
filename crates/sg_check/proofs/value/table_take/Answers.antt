use Rattle.sg_check.proofs.Valued.{take-forms, take-none}
use Rattle.sg_check.proofs.value.table_take.Goals as goal

pub returns-in-Some : goal.returns-in-Some
returns-in-Some c = take-forms c.args.game.now c.args.tickets.now c.args.l c.in-Some.best c.in-Some.ensures.1 c.in-Some.ensures.0 c.taken_of.result c.taken_of.ensures

pub returns-in-None : goal.returns-in-None
returns-in-None c = take-none c.args.game.now c.args.tickets.now c.args.l c.in-None.ensures
