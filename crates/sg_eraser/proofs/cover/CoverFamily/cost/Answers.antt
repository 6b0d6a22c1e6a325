use Rattle.std.proofs.Common.{◌∙◌, arith, length, ap, rules}
use Rattle.std.specs.Int.{w64}
use Rattle.std.specs.Prelude.{FitsSigned}
use Rattle.std.proofs.lemmas.Int.{to_z-of_z}
use Rattle.sg_programs.specs.Nodes.{NodeOf}
use Rattle.sg_eraser.proofs.Tabled.{cost-room, number-in}
use Rattle.sg_eraser.proofs.Viewed.{cost-by, coverage-by}
use Rattle.sg_eraser.proofs.cover.CoverFamily.cost.Goals as goal

pub overflow_sub-col : goal.overflow_sub-col
overflow_sub-col c = (number-in c.args.self.now.game c.args.self.now.fix c.args.col.now c.requires).0

pub cost_in-requires : goal.cost_in-requires
cost_in-requires c =
    let s = c.self.inside in
    let v = c.args.self.now in
    let is = coverage-by v (record { game = s.game.now; fix = s.fix }) s.rows s.columns s.costs s.entries c.self.view_is c.self.invariant in
    omega (arith, ap length c.as_slice.ensures, cost-room v.game v.fix s.rows s.columns s.costs s.entries is c.args.col.now c.requires)

pub returns : goal.returns
returns c =
    let s = c.self.inside in
    let v = c.args.self.now in
    let n : NodeOf = record { game = s.game.now; fix = s.fix } in
    let fits : FitsSigned w64 c.cost_in.result = search rules in
    simp to_z-of_z (c.cost_in.ensures ∙ cost-by v n s.rows s.columns s.costs s.entries _ c.self.view_is c.self.invariant c.as_slice.ensures c.args.col.now c.requires)
