use Rattle.std.proofs.Common.{◌∙◌}
use Rattle.std.specs.Int.{w128}
use Rattle.std.proofs.lemmas.Int.{to_z-of_z}
use Rattle.sg_bounds.specs.Coverage.{always}
use Rattle.sg_cover_fact.proofs.Testable.{less-fits, whole-same, worth-fits}
use Rattle.sg_cover_fact.proofs.table.whole_column_holds.Goals as goal

pub whole_holds-requires-clause-product : goal.whole_holds-requires-clause-product
whole_holds-requires-clause-product c =
    rw (to_z-of_z w128 c.args.rho c.ranges.rho) (worth-fits c.args.game.now c.promises.ensures c.args.fix.now c.args.rho c.args.lines.now c.requires always tt)

pub whole_holds-requires-clause-difference : goal.whole_holds-requires-clause-difference
whole_holds-requires-clause-difference c =
    let s = to_z-of_z w128 c.whole_sum-sum.result (record { sfits = c.whole_sum-sum.type_inv }) ∙ c.whole_sum-sum.ensures in
    rw (to_z-of_z w128 c.args.rho c.ranges.rho, s) (less-fits c.args.game.now c.promises.ensures c.args.fix.now c.args.rho c.args.lines.now c.requires always tt)

pub returns : goal.returns
returns c =
    let s = to_z-of_z w128 c.whole_sum-sum.result (record { sfits = c.whole_sum-sum.type_inv }) ∙ c.whole_sum-sum.ensures in
    let r = to_z-of_z w128 c.args.rho c.ranges.rho in
    let m = to_z-of_z w128 c.args.mu c.ranges.mu in
    let same = whole-same c.args.game.now c.args.fix.now c.args.rho c.args.mu c.args.lines.now _ s in
    let h = rw (r, m) at c.whole_holds.ensures in
    (λ t. same.0 (h.0 t), λ k. h.1 (same.1 k))
