use Rattle.std.proofs.Common.{arith}
use Rattle.sg_programs.proofs.Fixed.{fix-small, type-in_range}
use Rattle.sg_dobss.proofs.fixed.type_at.Goals as goal

pub overflow_cast-result : goal.overflow_cast-result
overflow_cast-result c =
    let few = fix-small c.args.game.now c.args.fix.now c.promises.ensures c.requires.is_fix in
    omega (arith, few, c.requires.inside)

pub overflow_add-result : goal.overflow_add-result
overflow_add-result c =
    let few = fix-small c.args.game.now c.args.fix.now c.promises.ensures c.requires.is_fix in
    omega (arith, few, c.requires.inside)

pub returns-clause-known : goal.returns-clause-known
returns-clause-known c = type-in_range c.args.game.now c.args.fix.now c.requires.is_fix c.args.i c.requires.inside
