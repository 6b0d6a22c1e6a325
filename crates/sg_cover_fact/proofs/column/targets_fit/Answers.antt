use Rattle.std.proofs.Common.{◌∙◌, ℕ, pos, arith, slice_index_or, to_z, ◌≤ℤ◌}
use Rattle.std.specs.Prelude.{◌<ℤ◌}
use Rattle.std.specs.Int.{w128}
use Rattle.std.proofs.lemmas.Int.{ints, to_z-of_z}
use Rattle.sg_cover_fact.proofs.Rest.{left-more, left-short}
use Rattle.sg_cover_fact.proofs.column.targets_fit.Goals as goal

pub returns-then-left-sum : goal.returns-then-left-sum
returns-then-left-sum c =
    let f = λ (t : ℕ). slice_index_or c.args.held.now t (pos 0) in
    let s = to_z-of_z w128 c.sum_at-sum.result (record { sfits = c.sum_at-sum.type_inv }) in
    let m = to_z-of_z w128 c.args.most c.ranges.most in
    let above : to_z w128 c.loop-t.left-bits <ℤ c.sum_at-sum.result = omega (arith, ints, rw s at c.if-left-sum.true) in
    (λ no_case. cc, λ le. absurd (left-short f _ _ c.sum_at-sum.result c.args.targets.now c.loop-t.t-index 0 (omega arith) c.requires.held c.loop-t.invariant c.sum_at-sum.ensures above (rw m le)))

pub loop-t-preserved : goal.loop-t-preserved
loop-t-preserved c =
    let f = λ (t : ℕ). slice_index_or c.args.held.now t (pos 0) in
    let s = to_z-of_z w128 c.sum_at-sum.result (record { sfits = c.sum_at-sum.type_inv }) in
    let r = to_z-of_z w128 c.rest-left.result (record { sfits = c.rest-left.type_inv }) ∙ c.rest-left.ensures in
    let below : c.sum_at-sum.result ≤ℤ to_z w128 c.loop-t.left-bits = omega (arith, ints, rw s at c.if-left-sum.false) in
    left-more f _ _ c.sum_at-sum.result _ c.args.targets.now c.loop-t.t-index 0 (omega arith) c.loop-t.invariant c.sum_at-sum.ensures (rw s at r) below
