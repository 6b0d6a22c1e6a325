use Rattle.std.proofs.Common.{ℕ, pos, arith, refl, slice_index_or, length, ◌≡◌, to_z, of_z}
use Rattle.std.specs.Prelude.{◌*ℤ◌, ◌≤ℤ◌}
use Rattle.std.specs.Int.{w128}
use Rattle.std.proofs.lemmas.Int.{to_z-of_z}
use Rattle.sg_model.proofs.Forms.{no_matrix}
use Rattle.sg_bounds.specs.Coverage.{column_cost, covering}
use Rattle.sg_cover_fact.proofs.Columns.{from-one}
use Rattle.sg_cover_fact.proofs.column.targets_hold.Goals as goal

pub returns : goal.returns
returns c =
    let g = c.args.game.now in
    let m : c.targets-k-end.result ≡ length g.goals = rw (no_matrix g c.requires.security) at c.targets-k-end.ensures.count in
    let r = to_z-of_z w128 c.args.rho c.ranges.rho in
    (λ _ t known. rw r at (from-one (λ (n : ℕ). (to_z w128 (of_z w128 c.args.rho) *ℤ column_cost g c.args.fix.now (covering n)) ≤ℤ slice_index_or c.args.covered.now n (pos 0)) c.loop-k.k c.loop-k.invariant t known.0 (omega (arith, known.1, m))), λ _. refl)
