use Rattle.std.proofs.Common.{ℕ, ℤ, ◌≤ℤ◌, subst, sym}
use Rattle.std.specs.Prelude.{◌*ℤ◌}
use Rattle.std.specs.Int.{w128}
use Rattle.std.proofs.lemmas.Int.{to_z-of_z}
use Rattle.sg_bounds.specs.Coverage.{column_cost, covering}
use Rattle.sg_cover_fact.proofs.Testable.{worth-fits}
use Rattle.sg_cover_fact.proofs.table.target_columns_hold.Goals as goal

pub targets_hold-requires-clause-products : goal.targets_hold-requires-clause-products
targets_hold-requires-clause-products c = λ t known.
    rw (to_z-of_z w128 c.args.rho c.ranges.rho) (worth-fits c.args.game.now c.promises.ensures c.args.fix.now c.args.rho c.args.lines.now c.requires (covering t) known)

pub returns : goal.returns
returns c =
    let h = rw (to_z-of_z w128 c.args.rho c.ranges.rho) at c.targets_hold.ensures in
    let worth = λ (t : ℕ). c.args.rho *ℤ column_cost c.args.game.now c.args.fix.now (covering t) in
    (λ holds t known. subst (λ (z : ℤ). worth t ≤ℤ z) (c.gather_covered.ensures t known) (h.0 holds t known), λ k. h.1 (λ t known. subst (λ (z : ℤ). worth t ≤ℤ z) (sym (c.gather_covered.ensures t known)) (k t known)))
