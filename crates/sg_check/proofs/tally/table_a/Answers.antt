use Rattle.std.proofs.Common.{◌<◌, ◌∙◌, arith, refl, length}
use Rattle.std.specs.Int.{w128}
use Rattle.std.specs.Prelude.{FitsSigned}
use Rattle.std.proofs.lemmas.Int.{to_z-of_z}
use Rattle.sg_check.proofs.Small.{count-is, table_a-fits, table_a-is, target}
use Rattle.sg_check.proofs.tally.table_a.Goals as goal

pub counted_a-requires-clause-security : goal.counted_a-requires-clause-security
counted_a-requires-clause-security c =
    let lt : c.args.a < length c.args.table.now = c.if-has_cell.ensures.0 refl in (c.requires.table (omega (arith, lt))).security

pub counted_a-requires-clause-known : goal.counted_a-requires-clause-known
counted_a-requires-clause-known c =
    let lt : c.args.a < length c.args.table.now = c.if-has_cell.ensures.0 refl in
    target c.args.game.now c.promises.ensures c.args.tickets.now c.args.table.now (c.requires.table (omega (arith, lt))) c.args.l c.args.a c.requires.known_action c.args.total c.count_at-count.result c.requires.total c.count_at-count.ensures

pub counted_a-requires-clause-counts : goal.counted_a-requires-clause-counts
counted_a-requires-clause-counts c =
    let lt : c.args.a < length c.args.table.now = c.if-has_cell.ensures.0 refl in
    let q : FitsSigned w128 c.count_at-count.result = record { sfits = c.count_at-count.type_inv } in
    let w : FitsSigned w128 c.args.total = c.ranges.total in
    simp to_z-of_z (count-is c.args.game.now c.promises.ensures c.args.tickets.now c.args.table.now (c.requires.table (omega (arith, lt))) c.args.l c.args.a c.requires.known_action c.args.total c.count_at-count.result c.requires.total c.count_at-count.ensures)

pub returns-then-has_cell : goal.returns-then-has_cell
returns-then-has_cell c =
    let lt : c.args.a < length c.args.table.now = c.if-has_cell.ensures.0 refl in
    let is = c.requires.table (omega (arith, lt)) in
    let q : FitsSigned w128 c.count_at-count.result = record { sfits = c.count_at-count.type_inv } in
    let w : FitsSigned w128 c.args.total = c.ranges.total in
    let s : FitsSigned w128 c.counted_a.result = record { sfits = c.counted_a.type_inv } in
    let e = simp to_z-of_z at c.counted_a.ensures in (
      table_a-fits c.args.game.now c.promises.ensures c.args.tickets.now c.args.table.now is c.args.l c.args.a,
      to_z-of_z w128 c.counted_a.result s
          ∙ table_a-is c.args.game.now c.promises.ensures c.args.tickets.now c.args.table.now is c.args.l c.args.a c.requires.known_action c.args.total c.count_at-count.result c.requires.total c.count_at-count.ensures c.counted_a.result e,
    )
