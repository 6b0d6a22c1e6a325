use Rattle.std.proofs.Common.{pos, arith}
use Rattle.sg_model.proofs.Promises.{peopled}
use Rattle.sg_tree.specs.declared.fact.Line.{Line}
use Rattle.sg_bounds.specs.Coverage.{Row}
use Rattle.sg_cover_fact.specs.LineSums.{holding}
use Rattle.sg_cover_fact.specs.TableRows.{named_row}
use Rattle.sg_cover_fact.proofs.Rooms.{multiplier-is, next-is, holding-unit, unit-next-fits}
use Rattle.sg_cover_fact.proofs.gather.gather_held.Goals as goal

pub add_held-requires-clause-fits : goal.add_held-requires-clause-fits
add_held-requires-clause-fits c = λ t.
    let g = c.args.game.now in
    let people = peopled g c.promises.ensures in
    let d : Line = record { row = 0; v = pos 0 } in
    let is = c.requires.summable in
    unit-next-fits g people c.args.fix.now c.args.lines.now is c.loop-line.line-index d (omega arith) (λ (row : Row). holding row t) (holding-unit t) (named_row c.row_at-row.result) _ _
    c.row_at-row.ensures.names (c.loop-line.invariant t) (multiplier-is g people c.args.fix.now c.args.lines.now is c.loop-line.line-index d (omega arith))

pub loop-line-preserved : goal.loop-line-preserved
loop-line-preserved c = λ t.
    let g = c.args.game.now in
    let people = peopled g c.promises.ensures in
    let d : Line = record { row = 0; v = pos 0 } in
    let is = c.requires.summable in
    next-is g people c.args.fix.now c.args.lines.now is c.loop-line.line-index d (omega arith) (λ (row : Row). holding row t) (named_row c.row_at-row.result) _ _ _
    c.row_at-row.ensures.names (c.loop-line.invariant t) (multiplier-is g people c.args.fix.now c.args.lines.now is c.loop-line.line-index d (omega arith)) (c.add_held.ensures t)
