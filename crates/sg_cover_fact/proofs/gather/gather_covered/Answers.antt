use Rattle.std.proofs.Common.{pos, arith}
use Rattle.sg_model.proofs.Promises.{peopled}
use Rattle.sg_tree.specs.declared.fact.Line.{Line}
use Rattle.sg_bounds.specs.Coverage.{Row, covering, entry}
use Rattle.sg_cover_fact.specs.TableRows.{named_row}
use Rattle.sg_cover_fact.proofs.Rooms.{column-next-fits, column-term-fits, multiplier-is, next-is}
use Rattle.sg_cover_fact.proofs.gather.gather_covered.Goals as goal

pub add_covered-requires-clause-products : goal.add_covered-requires-clause-products
add_covered-requires-clause-products c = λ t known.
    let g = c.args.game.now in
    let people = peopled g c.promises.ensures in
    let d : Line = record { row = 0; v = pos 0 } in
    let is = c.requires.summable in
    column-term-fits g people c.args.fix.now c.args.lines.now is c.loop-line.line-index d (omega arith) (covering t) known (named_row c.row_at-row.result) _
    c.row_at-row.ensures.names (multiplier-is g people c.args.fix.now c.args.lines.now is c.loop-line.line-index d (omega arith))

pub add_covered-requires-clause-sums : goal.add_covered-requires-clause-sums
add_covered-requires-clause-sums c = λ t known.
    let g = c.args.game.now in
    let people = peopled g c.promises.ensures in
    let d : Line = record { row = 0; v = pos 0 } in
    let is = c.requires.summable in
    column-next-fits g people c.args.fix.now c.args.lines.now is c.loop-line.line-index d (omega arith) (covering t) known (named_row c.row_at-row.result) _ _
    c.row_at-row.ensures.names (c.loop-line.invariant t known) (multiplier-is g people c.args.fix.now c.args.lines.now is c.loop-line.line-index d (omega arith))

pub loop-line-preserved : goal.loop-line-preserved
loop-line-preserved c = λ t known.
    let g = c.args.game.now in
    let people = peopled g c.promises.ensures in
    let d : Line = record { row = 0; v = pos 0 } in
    let is = c.requires.summable in
    next-is g people c.args.fix.now c.args.lines.now is c.loop-line.line-index d (omega arith) (λ (row : Row). entry g c.args.fix.now row (covering t)) (named_row c.row_at-row.result) _ _ _
    c.row_at-row.ensures.names (c.loop-line.invariant t known) (multiplier-is g people c.args.fix.now c.args.lines.now is c.loop-line.line-index d (omega arith)) (c.add_covered.ensures t known)
