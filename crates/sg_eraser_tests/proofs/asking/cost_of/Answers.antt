use Rattle.std.proofs.Common.{arith, subst, sym}
use Rattle.std.specs.List.{Contains}
use Rattle.sg_lp.specs.declared.column.Column.{Column}
use Rattle.sg_programs.specs.CoverPrograms.{cover_program}
use Rattle.sg_eraser_tests.proofs.asking.cost_of.Goals as goal

pub cost-requires : goal.cost-requires
cost-requires c =
    let v = c.args.cover.now in
    let listed = (c.columns_are_table.ensures v.game v.fix).numbered c.args.n (omega (arith, c.if-n-eq0.false)) (omega (arith, c.if-n-count.false, c.count.ensures)) in
    subst (λ (col : Column). Contains (cover_program v.game v.fix).columns col) (sym c.numbered.ensures) listed
