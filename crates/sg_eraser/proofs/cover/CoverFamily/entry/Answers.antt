use Rattle.std.proofs.Common.{arith, length, ap, rules}
use Rattle.std.specs.Int.{w64}
use Rattle.std.specs.Prelude.{FitsSigned}
use Rattle.std.proofs.lemmas.Int.{to_z-of_z}
use Rattle.sg_eraser.proofs.Tabled.{column-room, number-in}
use Rattle.sg_eraser.proofs.Viewed.{column-by, coverage-by, entry-by, row-by}
use Rattle.sg_eraser.proofs.cover.CoverFamily.entry.Goals as goal

pub overflow_sub-column : goal.overflow_sub-column
overflow_sub-column c = (number-in c.args.self.now.game c.args.self.now.fix c.args.col.now c.requires.listed).0

pub bounds-as_slice-col : goal.bounds-as_slice-col
bounds-as_slice-col c =
    let s = c.self.inside in
    let v = c.args.self.now in
    let is = coverage-by v (record { game = s.game.now; fix = s.fix }) s.rows s.columns s.costs s.entries c.self.view_is c.self.invariant in
    omega (arith, ap length c.as_slice.ensures, column-room v.game v.fix s.rows s.columns s.costs s.entries is c.args.col.now c.requires.listed)

pub entry_at-requires-clause-row : goal.entry_at-requires-clause-row
entry_at-requires-clause-row c =
    let s = c.self.inside in
    row-by c.args.self.now (record { game = s.game.now; fix = s.fix }) s.rows s.columns s.costs s.entries c.as_slice-2.result.now c.self.view_is c.self.invariant c.as_slice-2.ensures c.args.row _ c.requires.below

pub entry_at-requires-clause-column : goal.entry_at-requires-clause-column
entry_at-requires-clause-column c =
    let s = c.self.inside in
    column-by c.args.self.now (record { game = s.game.now; fix = s.fix }) s.rows s.columns s.costs s.entries c.as_slice.result.now c.self.view_is c.self.invariant c.as_slice.ensures c.args.col.now _ c.requires.listed

pub returns : goal.returns
returns c =
    let s = c.self.inside in
    let fits : FitsSigned w64 c.entry_at.result = search rules in
    simp to_z-of_z (entry-by c.args.self.now (record { game = s.game.now; fix = s.fix }) s.rows s.columns s.costs s.entries c.as_slice-2.result.now c.as_slice.result.now c.entry_at.result c.self.view_is c.self.invariant c.as_slice-2.ensures c.as_slice.ensures
    c.args.col.now c.args.row _ _ c.requires.listed c.requires.below c.entry_at.ensures)
