use Rattle.std.proofs.Common.{◌≡◌, ◌∙◌, ◌+ℤ◌, ◌*ℤ◌, ◌^◌, ℤ, arith, rules, of_z, to_z}
use Rattle.std.specs.Int.{w128}
use Rattle.std.proofs.lemmas.Int.{ints, to_z-of_z}
use Rattle.sg_model.specs.Games.{attacker}
use Rattle.sg_model.specs.Plays.{pay_d}
use Rattle.sg_model.specs.Payoffs.{shift_of}
use Rattle.sg_plays_fact.proofs.Payments.{prior-spans, shifted-spans, small_fits, small_is}
use Rattle.sg_plays_fact.proofs.play.worth.Goals as goal

pub overflow_mul-result : goal.overflow_mul-result
overflow_mul-result c =
    let m = c.args.measures.now in
    let p = c.from-2.result in
    let y : ℤ = c.from.result +ℤ m.shift in
    let e : to_z w128 (of_z w128 p) ≡ p = search (rules, to_z-of_z) in
    let f : to_z w128 (of_z w128 (to_z w128 (of_z w128 c.from.result) +ℤ to_z w128 (of_z w128 m.shift))) ≡ y = omega (arith, ints, c.from.ensures, c.pay_d.ensures.within.at_least, c.pay_d.ensures.within.at_most, c.requires.measures.shift_range.at_least, c.requires.measures.shift_range.at_most) in
    let pay = c.pay_d.ensures.within in
    small_fits (2 ^ 20) (2 ^ 32) p y _ _ (omega arith) e f (prior-spans p (omega (arith, ints, c.from-2.ensures, c.prior.ensures.some)) (omega (arith, ints, c.from-2.ensures, c.prior.ensures.few)))
    (shifted-spans c.from.result m.shift y (record { at_least = omega (arith, ints, c.from.ensures, pay.at_least); at_most = omega (arith, ints, c.from.ensures, pay.at_most) }) c.requires.measures.shift_range (omega (arith, ints)))

pub returns : goal.returns
returns c =
    let m = c.args.measures.now in
    let g = c.args.game.now in
    let p = c.from-2.result in
    let y : ℤ = c.from.result +ℤ m.shift in
    let e : to_z w128 (of_z w128 p) ≡ p = search (rules, to_z-of_z) in
    let f : to_z w128 (of_z w128 (to_z w128 (of_z w128 c.from.result) +ℤ to_z w128 (of_z w128 m.shift))) ≡ y = omega (arith, ints, c.from.ensures, c.pay_d.ensures.within.at_least, c.pay_d.ensures.within.at_most, c.requires.measures.shift_range.at_least, c.requires.measures.shift_range.at_most) in
    let pay = c.pay_d.ensures.within in
    let made = small_is (2 ^ 20) (2 ^ 32) p y _ _ (omega arith) e f (prior-spans p (omega (arith, ints, c.from-2.ensures, c.prior.ensures.some)) (omega (arith, ints, c.from-2.ensures, c.prior.ensures.few)))
    (shifted-spans c.from.result m.shift y (record { at_least = omega (arith, ints, c.from.ensures, pay.at_least); at_most = omega (arith, ints, c.from.ensures, pay.at_most) }) c.requires.measures.shift_range (omega (arith, ints))) in
    let prior : p ≡ (attacker g c.args.l).prior = omega (arith, ints, c.from-2.ensures, c.prior.ensures.prior) in
    let sum : y ≡ pay_d g c.args.l c.args.code.now c.args.a +ℤ shift_of g = omega (arith, ints, c.from.ensures, c.pay_d.ensures.pay, c.requires.measures.shift) in
    record { value = made.value ∙ (λ i. prior i *ℤ sum i); small = made.small }
