use Rattle.std.proofs.Common.{◌∙◌, pos, arith}
use Rattle.std.specs.Int.{w128}
use Rattle.std.proofs.lemmas.Int.{to_z-of_z}
use Rattle.sg_model.proofs.Promises.{peopled}
use Rattle.sg_tree.specs.declared.fact.Line.{Line}
use Rattle.sg_bounds.specs.Coverage.{Row, always, entry}
use Rattle.sg_cover_fact.specs.TableRows.{named_row}
use Rattle.sg_cover_fact.proofs.Rooms.{column-next-fits, column-term-fits, multiplier-is, next-is}
use Rattle.sg_cover_fact.proofs.gather.whole_sum.Goals as goal

pub times-more-requires : goal.times-more-requires
times-more-requires c =
    let g = c.args.game.now in
    let people = peopled g c.promises.ensures in
    let d : Line = record { row = 0; v = pos 0 } in
    let e = to_z-of_z w128 c.whole_entry.result (record { sfits = c.whole_entry.type_inv }) ∙ c.whole_entry.ensures in
    rw e (column-term-fits g people c.args.fix.now c.args.lines.now c.requires c.loop-line.line-index d (omega arith) always tt (named_row c.row_at-row.result) _
    c.row_at-row.ensures.names (multiplier-is g people c.args.fix.now c.args.lines.now c.requires c.loop-line.line-index d (omega arith)))

pub plus-sum-requires : goal.plus-sum-requires
plus-sum-requires c =
    let g = c.args.game.now in
    let people = peopled g c.promises.ensures in
    let d : Line = record { row = 0; v = pos 0 } in
    let e = to_z-of_z w128 c.whole_entry.result (record { sfits = c.whole_entry.type_inv }) ∙ c.whole_entry.ensures in
    let p = to_z-of_z w128 c.times-more.result (record { sfits = c.times-more.type_inv }) ∙ c.times-more.ensures in
    rw (p, e) (column-next-fits g people c.args.fix.now c.args.lines.now c.requires c.loop-line.line-index d (omega arith) always tt (named_row c.row_at-row.result) _ _
    c.row_at-row.ensures.names c.loop-line.invariant (multiplier-is g people c.args.fix.now c.args.lines.now c.requires c.loop-line.line-index d (omega arith)))

pub loop-line-preserved : goal.loop-line-preserved
loop-line-preserved c =
    let g = c.args.game.now in
    let people = peopled g c.promises.ensures in
    let d : Line = record { row = 0; v = pos 0 } in
    let e = to_z-of_z w128 c.whole_entry.result (record { sfits = c.whole_entry.type_inv }) ∙ c.whole_entry.ensures in
    let p = to_z-of_z w128 c.times-more.result (record { sfits = c.times-more.type_inv }) ∙ c.times-more.ensures in
    let s = to_z-of_z w128 c.plus-sum.result (record { sfits = c.plus-sum.type_inv }) ∙ c.plus-sum.ensures in
    next-is g people c.args.fix.now c.args.lines.now c.requires c.loop-line.line-index d (omega arith) (λ (row : Row). entry g c.args.fix.now row always) (named_row c.row_at-row.result) _ _ _
    c.row_at-row.ensures.names c.loop-line.invariant (multiplier-is g people c.args.fix.now c.args.lines.now c.requires c.loop-line.line-index d (omega arith)) (rw (← e, ← p) s)
