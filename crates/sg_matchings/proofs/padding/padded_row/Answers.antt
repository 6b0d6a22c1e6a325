use Rattle.std.proofs.Common.{◌≡◌, ℤ, arith, to_z, of_z, sym, subst}
use Rattle.std.specs.Int.{w128}
use Rattle.std.proofs.lemmas.Int.{ints}
use Rattle.sg_matchings.specs.Padding.{IsPaddedCell}
use Rattle.sg_matchings.proofs.PadSteps.{cells-more}
use Rattle.sg_matchings.proofs.padding.padded_row.Goals as goal

pub loop-j-preserved : goal.loop-j-preserved
loop-j-preserved c =
    let most : ℤ = to_z w128 (of_z w128 c.args.most) in
    let is_most : most ≡ c.args.most = omega (arith, ints, c.ranges.most) in
    let v : ℤ = to_z w128 (of_z w128 c.padded_at.result) in
    let is_v : v ≡ c.padded_at.result = omega (arith, ints, c.padded_at.type_inv) in
    let a = c.in_ok-push.ensures.ok in
    let b = c.padded_at.ensures in
    cells-more c.args.counts.now c.args.width most c.args.i c.loop-j.j c.loop-j.row c.push.new.self v c.loop-j.invariant (subst (λ (z : ℤ). IsPaddedCell c.args.counts.now c.args.width most c.args.i c.loop-j.j z) (sym is_v) b) a
