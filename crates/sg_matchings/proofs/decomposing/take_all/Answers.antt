use Rattle.std.proofs.Common.{◌≡◌, ℤ, List, [], ◌-ℤ◌, arith, to_z, of_z, subst, sym}
use Rattle.std.specs.Int.{w128}
use Rattle.std.proofs.lemmas.Int.{ints}
use Rattle.sg_matchings.specs.declared.part.Part.{Part}
use Rattle.sg_matchings.proofs.Steps.{abs-less, not_above, weight-positive, weight-upto}
use Rattle.sg_matchings.proofs.Parts.{AreParts, parts-all, parts-more, parts-none}
use Rattle.sg_matchings.proofs.decomposing.take_all.Goals as goal

pub loop-left-init : goal.loop-left-init
loop-left-init c =
    let counts = c.args.counts.now in
    let most : ℤ = to_z w128 (of_z w128 c.args.most) in
    let e : c.args.most ≡ most = omega (arith, ints, c.ranges.most) in
    let none = parts-none counts c.args.width c.args.most c.args.rows.now c.requires.some c.requires.counts c.requires.padded in
    (subst (λ (x : List Part). AreParts counts c.args.width most x c.args.rows.now most) (sym c.new-parts.ensures.items) (subst (λ (z : ℤ). AreParts counts c.args.width z [] c.args.rows.now z) e none), c.requires.matched)

pub overflow_sub-left : goal.overflow_sub-left
overflow_sub-left c =
    let part = c.in_ok-part.part in
    let left : ℤ = to_z w128 c.loop-left.left-bits in
    let w : ℤ = to_z w128 (of_z w128 part.weight) in
    let taken = c.in_ok-part.ensures.taken in
    let full : Part = record { columns = taken.columns; weight = part.weight } in
    let up = weight-upto c.loop-left.rows left c.loop-left.invariant.0.line full c.take_part.new.rows taken.step in
    let low = weight-positive c.loop-left.rows full c.take_part.new.rows taken.step in
    let fits = c.loop-left.auto.left-fits in
    let f : w ≡ part.weight = omega (arith, ints, up, low, fits) in
    omega (arith, ints, up, low, fits, f)

pub loop-left-smaller : goal.loop-left-smaller
loop-left-smaller c =
    let part = c.in_ok-part.part in
    let left : ℤ = to_z w128 c.loop-left.left-bits in
    let w : ℤ = to_z w128 (of_z w128 part.weight) in
    let next : ℤ = to_z w128 (of_z w128 (left -ℤ w)) in
    let taken = c.in_ok-part.ensures.taken in
    let full : Part = record { columns = taken.columns; weight = part.weight } in
    let up = weight-upto c.loop-left.rows left c.loop-left.invariant.0.line full c.take_part.new.rows taken.step in
    let low = weight-positive c.loop-left.rows full c.take_part.new.rows taken.step in
    let fits = c.loop-left.auto.left-fits in
    let f : w ≡ part.weight = omega (arith, ints, up, low, fits) in
    let e : next ≡ left -ℤ part.weight = omega (arith, ints, up, low, fits, f) in
    abs-less left next (omega (arith, ints, e, up)) (omega (arith, ints, e, low))

pub loop-left-preserved : goal.loop-left-preserved
loop-left-preserved c =
    let part = c.in_ok-part.part in
    let left : ℤ = to_z w128 c.loop-left.left-bits in
    let w : ℤ = to_z w128 (of_z w128 part.weight) in
    let next : ℤ = to_z w128 (of_z w128 (left -ℤ w)) in
    let taken = c.in_ok-part.ensures.taken in
    let full : Part = record { columns = taken.columns; weight = part.weight } in
    let up = weight-upto c.loop-left.rows left c.loop-left.invariant.0.line full c.take_part.new.rows taken.step in
    let low = weight-positive c.loop-left.rows full c.take_part.new.rows taken.step in
    let fits = c.loop-left.auto.left-fits in
    let f : w ≡ part.weight = omega (arith, ints, up, low, fits) in
    let e : next ≡ left -ℤ part.weight = omega (arith, ints, up, low, fits, f) in (
      parts-more c.args.counts.now c.args.width (to_z w128 (of_z w128 c.args.most)) c.loop-left.parts.items c.push.new.self.items c.loop-left.rows c.take_part.new.rows left next taken.columns part.columns part.weight
          c.loop-left.invariant.0 taken.step taken.turned taken.front e c.in_ok-push.ensures.items,
      c.in_ok-part.ensures.matched,
    )

pub returns : goal.returns
returns c =
    let most : ℤ = to_z w128 (of_z w128 c.args.most) in
    let left : ℤ = to_z w128 c.loop-left.left-bits in
    let e : most ≡ c.args.most = omega (arith, ints, c.ranges.most) in
    parts-all c.args.counts.now c.args.width c.args.most c.loop-left.parts.items c.loop-left.rows left
    (subst (λ (z : ℤ). AreParts c.args.counts.now c.args.width z c.loop-left.parts.items c.loop-left.rows left) e c.loop-left.invariant.0) (not_above left c.loop-left-test.false)
