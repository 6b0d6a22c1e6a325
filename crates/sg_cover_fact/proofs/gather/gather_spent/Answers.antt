use Rattle.std.proofs.Common.{pos, arith}
use Rattle.sg_model.proofs.Promises.{peopled}
use Rattle.sg_tree.specs.declared.fact.Line.{Line}
use Rattle.sg_bounds.specs.Coverage.{Row}
use Rattle.sg_cover_fact.specs.LineSums.{spending}
use Rattle.sg_cover_fact.specs.TableRows.{named_row}
use Rattle.sg_cover_fact.proofs.Rooms.{multiplier-is, next-is, spending-unit, unit-next-fits}
use Rattle.sg_cover_fact.proofs.gather.gather_spent.Goals as goal

pub add_spent-requires-clause-fits : goal.add_spent-requires-clause-fits
add_spent-requires-clause-fits c = λ r.
    let g = c.args.game.now in
    let people = peopled g c.promises.ensures in
    let d : Line = record { row = 0; v = pos 0 } in
    let is = c.requires.summable in
    unit-next-fits g people c.args.fix.now c.args.lines.now is c.loop-line.line-index d (omega arith) (λ (row : Row). spending row r) (spending-unit r) (named_row c.row_at-row.result) _ _
    c.row_at-row.ensures.names (c.loop-line.invariant r) (multiplier-is g people c.args.fix.now c.args.lines.now is c.loop-line.line-index d (omega arith))

pub loop-line-preserved : goal.loop-line-preserved
loop-line-preserved c = λ r.
    let g = c.args.game.now in
    let people = peopled g c.promises.ensures in
    let d : Line = record { row = 0; v = pos 0 } in
    let is = c.requires.summable in
    next-is g people c.args.fix.now c.args.lines.now is c.loop-line.line-index d (omega arith) (λ (row : Row). spending row r) (named_row c.row_at-row.result) _ _ _
    c.row_at-row.ensures.names (c.loop-line.invariant r) (multiplier-is g people c.args.fix.now c.args.lines.now is c.loop-line.line-index d (omega arith)) (c.add_spent.ensures r)
