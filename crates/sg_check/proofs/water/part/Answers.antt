use Rattle.std.proofs.Common.{◌∙◌, ◌+ℤ◌, ◌*ℤ◌, ap, arith, ℤ}
use Rattle.std.proofs.lemmas.Int.{ints}
use Rattle.sg_check.proofs.Spans.{gain_made, made_sum, part_made}
use Rattle.sg_check.proofs.Watered.{share-nonneg}
use Rattle.sg_check.proofs.water.part.Goals as goal

pub overflow_mul-result : goal.overflow_mul-result
overflow_mul-result c = (part_made c.args.pays.now.least c.args.whole c.requires.pays.least c.requires.low c.requires.high).fits

pub overflow_mul-result-2 : goal.overflow_mul-result-2
overflow_mul-result-2 c =
    let s = share-nonneg c.args.pays.now c.args.level.now.num c.args.level.now.den c.requires.pays c.requires.of_level in
    (gain_made c.args.pays.now.gain c.share.result c.requires.pays.gain (omega (arith, ints, s, c.share.ensures.value)) (omega (arith, ints, c.requires.few, c.share.ensures.value))).fits

pub overflow_add-result : goal.overflow_add-result
overflow_add-result c =
    let s = share-nonneg c.args.pays.now c.args.level.now.num c.args.level.now.den c.requires.pays c.requires.of_level in
    let a = part_made c.args.pays.now.least c.args.whole c.requires.pays.least c.requires.low c.requires.high in
    let b = gain_made c.args.pays.now.gain c.share.result c.requires.pays.gain (omega (arith, ints, s, c.share.ensures.value)) (omega (arith, ints, c.requires.few, c.share.ensures.value)) in
    (made_sum (c.args.pays.now.least *ℤ c.args.whole) (c.args.pays.now.gain *ℤ c.share.result) _ _ a.value b.value (omega (arith, ints, a.spans.low, a.spans.high, b.spans.low, b.spans.high))).0

pub returns : goal.returns
returns c =
    let s = share-nonneg c.args.pays.now c.args.level.now.num c.args.level.now.den c.requires.pays c.requires.of_level in
    let a = part_made c.args.pays.now.least c.args.whole c.requires.pays.least c.requires.low c.requires.high in
    let b = gain_made c.args.pays.now.gain c.share.result c.requires.pays.gain (omega (arith, ints, s, c.share.ensures.value)) (omega (arith, ints, c.requires.few, c.share.ensures.value)) in
    (made_sum (c.args.pays.now.least *ℤ c.args.whole) (c.args.pays.now.gain *ℤ c.share.result) _ _ a.value b.value (omega (arith, ints, a.spans.low, a.spans.high, b.spans.low, b.spans.high))).1
    ∙ ap (λ (z : ℤ). (c.args.pays.now.least *ℤ c.args.whole) +ℤ (c.args.pays.now.gain *ℤ z)) c.share.ensures.value
