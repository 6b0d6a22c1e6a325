use Rattle.std.proofs.Common.{◌≡◌, ℤ, arith, to_z, of_z}
use Rattle.std.specs.Int.{w128}
use Rattle.std.proofs.lemmas.Int.{ints}
use Rattle.sg_matchings.proofs.Least.{least-more}
use Rattle.sg_matchings.proofs.decomposing.least_on.Goals as goal

pub loop-row-preserved : goal.loop-row-preserved
loop-row-preserved c =
    let r : ℤ = to_z w128 (of_z w128 c.lesser-least.result) in
    let e : r ≡ c.lesser-least.result = omega (arith, ints, c.lesser-least.type_inv) in
    let v : ℤ = to_z w128 (of_z w128 c.value_at.result) in
    let f : v ≡ c.value_at.result = omega (arith, ints, c.value_at.type_inv) in
    let both = c.lesser-least.ensures in
    rw e (least-more c.args.rows.now c.args.columns.now (to_z w128 c.loop-row.least-bits) c.value_at.result c.lesser-least.result c.loop-row.row c.loop-row-test.true c.value_at.ensures c.loop-row.invariant
    both.first (rw (f) at both.second) (rw (f) at both.one))
