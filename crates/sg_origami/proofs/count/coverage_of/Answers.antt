use Rattle.std.proofs.Common.{◌≡◌, ◌∙◌, ap, pos, ℕ, ℤ, ◌*ℤ◌, to_z, of_z, length, map, arith}
use Rattle.std.specs.Int.{w128}
use Rattle.std.specs.Prelude.{int_div}
use Rattle.std.proofs.lemmas.Int.{ints}
use Rattle.sg_model.specs.Sums.{numbers}
use Rattle.sg_model.specs.Origami.{count_at}
use Rattle.sg_origami.proofs.Coverages.{coverage_is, divisor_is, whole_by, whole_within}
use Rattle.sg_origami.proofs.count.coverage_of.Goals as goal

pub overflow_cast-divisor : goal.overflow_cast-divisor
overflow_cast-divisor c =
    let g = c.args.game.now in
    let den : ℤ = c.args.level.now.den in
    let r = c.requires in
    let whole : ℤ = to_z w128 (of_z w128 c.product-whole.result) in
    let i = divisor_is g c.args.level.now.num den c.unsigned_abs.result c.divisor_of-divisor.result (to_z w128 (of_z w128 c.from.result)) (to_z w128 (of_z w128 c.den.result)) c.product-whole.result whole c.divisor_of-divisor.ensures c.unsigned_abs.ensures.value
    (omega (arith, ints, c.product-whole.type_inv)) c.product-whole.ensures (omega (arith, ints, c.from.ensures, c.scale.ensures)) (omega (arith, ints, c.den.type_inv) ∙ c.den.ensures.value) in
    let b = whole_within g r.fillable den r.reachable.positive c.den.ensures.range.den.at_most c.divisor_of-divisor.result i.of_whole in
    omega (arith, ints, b.1)

pub counts_of-requires-clause-positive : goal.counts_of-requires-clause-positive
counts_of-requires-clause-positive c =
    let g = c.args.game.now in
    let den : ℤ = c.args.level.now.den in
    let r = c.requires in
    let whole : ℤ = to_z w128 (of_z w128 c.product-whole.result) in
    let i = divisor_is g c.args.level.now.num den c.unsigned_abs.result c.divisor_of-divisor.result (to_z w128 (of_z w128 c.from.result)) (to_z w128 (of_z w128 c.den.result)) c.product-whole.result whole c.divisor_of-divisor.ensures c.unsigned_abs.ensures.value
    (omega (arith, ints, c.product-whole.type_inv)) c.product-whole.ensures (omega (arith, ints, c.from.ensures, c.scale.ensures)) (omega (arith, ints, c.den.type_inv) ∙ c.den.ensures.value) in
    let b = whole_within g r.fillable den r.reachable.positive c.den.ensures.range.den.at_most c.divisor_of-divisor.result i.of_whole in
    omega (arith, ints, b.0, b.1)

pub quotient-total-requires : goal.quotient-total-requires
quotient-total-requires c =
    let g = c.args.game.now in
    let den : ℤ = c.args.level.now.den in
    let r = c.requires in
    let whole : ℤ = to_z w128 (of_z w128 c.product-whole.result) in
    let i = divisor_is g c.args.level.now.num den c.unsigned_abs.result c.divisor_of-divisor.result (to_z w128 (of_z w128 c.from.result)) (to_z w128 (of_z w128 c.den.result)) c.product-whole.result whole c.divisor_of-divisor.ensures c.unsigned_abs.ensures.value
    (omega (arith, ints, c.product-whole.type_inv)) c.product-whole.ensures (omega (arith, ints, c.from.ensures, c.scale.ensures)) (omega (arith, ints, c.den.type_inv) ∙ c.den.ensures.value) in
    let b = whole_within g r.fillable den r.reachable.positive c.den.ensures.range.den.at_most c.divisor_of-divisor.result i.of_whole in
    omega (arith, ints, b.0, b.1)

pub returns : goal.returns
returns c =
    let g = c.args.game.now in
    let den : ℤ = c.args.level.now.den in
    let r = c.requires in
    let whole : ℤ = to_z w128 (of_z w128 c.product-whole.result) in
    let i = divisor_is g c.args.level.now.num den c.unsigned_abs.result c.divisor_of-divisor.result (to_z w128 (of_z w128 c.from.result)) (to_z w128 (of_z w128 c.den.result)) c.product-whole.result whole c.divisor_of-divisor.ensures c.unsigned_abs.ensures.value
    (omega (arith, ints, c.product-whole.type_inv)) c.product-whole.ensures (omega (arith, ints, c.from.ensures, c.scale.ensures)) (omega (arith, ints, c.den.type_inv) ∙ c.den.ensures.value) in
    let b = whole_within g r.fillable den r.reachable.positive c.den.ensures.range.den.at_most c.divisor_of-divisor.result i.of_whole in
    let num : ℤ = c.args.level.now.num in
    let d : ℕ = c.divisor_of-divisor.result in
    let by : to_z w128 d ≡ pos d = omega (arith, ints, b.0, b.1) in
    let whole_is : whole ≡ g.scale *ℤ den = whole_by g.scale den (to_z w128 (of_z w128 c.from.result)) (to_z w128 (of_z w128 c.den.result)) c.product-whole.result whole
    (omega (arith, ints, c.product-whole.type_inv)) c.product-whole.ensures (omega (arith, ints, c.from.ensures, c.scale.ensures)) (omega (arith, ints, c.den.type_inv) ∙ c.den.ensures.value) in
    let counts : c.in_ok-counts.counts ≡ map (λ t. int_div (count_at g num den t) (pos d)) (numbers (length g.goals)) =
    c.in_ok-counts.ensures ∙ ap (λ (z : ℤ). map (λ t. int_div (count_at g num den t) z) (numbers (length g.goals))) by in
    let total : to_z w128 (of_z w128 c.quotient-total.result) ≡ int_div (g.scale *ℤ den) (pos d) =
    let same : to_z w128 (of_z w128 c.quotient-total.result) ≡ c.quotient-total.result = omega (arith, ints, c.quotient-total.type_inv) in
    same ∙ (c.quotient-total.ensures ∙ (ap (λ (z : ℤ). int_div z (to_z w128 d)) whole_is ∙ ap (λ (z : ℤ). int_div (g.scale *ℤ den) z) by)) in
    coverage_is g num den r.fillable r.reachable c.den.ensures.range.den.at_most d i c.in_ok-counts.counts (to_z w128 (of_z w128 c.quotient-total.result)) counts total
