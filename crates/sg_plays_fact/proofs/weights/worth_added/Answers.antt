use Rattle.std.proofs.Common.{◌≡◌, ◌∙◌, ◌^◌, ◌-ℤ◌, ◌*ℤ◌, ap, length, List, ℤ, arith, rules, of_z, to_z, pos, slice_index_or}
use Rattle.std.specs.Int.{w128}
use Rattle.std.proofs.lemmas.Int.{ints, to_z-of_z}
use Rattle.sg_model.specs.Games.{attacker, payoff}
use Rattle.sg_plays_fact.proofs.Payments.{apart-spans, prior-spans, small_fits, small_is}
use Rattle.sg_plays_fact.proofs.weights.worth_added.Goals as goal

pub overflow_mul-result : goal.overflow_mul-result
overflow_mul-result c =
    let x : ℤ = slice_index_or c.payoffs.result 0 (pos 0) in
    let y : ℤ = slice_index_or c.payoffs.result 1 (pos 0) in
    let count : length c.payoffs.result ≡ 4 = ap length c.payoffs.ensures.payoffs in
    let h = c.payoffs.ensures.within 0 (pos 0) (omega (arith, count)) in
    let k = c.payoffs.ensures.within 1 (pos 0) (omega (arith, count)) in
    let p = c.from.result in
    let q = c.from-2.result in
    let e : to_z w128 (of_z w128 p) ≡ p = search (rules, to_z-of_z) in
    let f : to_z w128 (of_z w128 q) ≡ q = search (rules, to_z-of_z) in
    let gap : q ≡ x -ℤ y = omega (arith, ints, c.from-2.ensures, h.at_least, h.at_most, k.at_least, k.at_most) in
    small_fits (2 ^ 20) (2 ^ 31) p q _ _ (omega arith) e f (prior-spans p (omega (arith, ints, c.from.ensures, c.prior.ensures.some)) (omega (arith, ints, c.from.ensures, c.prior.ensures.few))) (apart-spans x y q h k gap)

pub returns : goal.returns
returns c =
    let g = c.args.game.now in
    let t = payoff g c.args.l c.args.t in
    let x : ℤ = slice_index_or c.payoffs.result 0 (pos 0) in
    let y : ℤ = slice_index_or c.payoffs.result 1 (pos 0) in
    let count : length c.payoffs.result ≡ 4 = ap length c.payoffs.ensures.payoffs in
    let h = c.payoffs.ensures.within 0 (pos 0) (omega (arith, count)) in
    let k = c.payoffs.ensures.within 1 (pos 0) (omega (arith, count)) in
    let p = c.from.result in
    let q = c.from-2.result in
    let e : to_z w128 (of_z w128 p) ≡ p = search (rules, to_z-of_z) in
    let f : to_z w128 (of_z w128 q) ≡ q = search (rules, to_z-of_z) in
    let gap : q ≡ x -ℤ y = omega (arith, ints, c.from-2.ensures, h.at_least, h.at_most, k.at_least, k.at_most) in
    let made = small_is (2 ^ 20) (2 ^ 31) p q _ _ (omega arith) e f (prior-spans p (omega (arith, ints, c.from.ensures, c.prior.ensures.some)) (omega (arith, ints, c.from.ensures, c.prior.ensures.few))) (apart-spans x y q h k gap) in
    let prior : p ≡ (attacker g c.args.l).prior = omega (arith, ints, c.from.ensures, c.prior.ensures.prior) in
    let covered : x ≡ t.dc = ap (λ (xs : List ℤ). slice_index_or xs 0 (pos 0)) c.payoffs.ensures.payoffs in
    let uncovered : y ≡ t.du = ap (λ (xs : List ℤ). slice_index_or xs 1 (pos 0)) c.payoffs.ensures.payoffs in
    let sum : q ≡ t.dc -ℤ t.du = omega (arith, ints, gap, covered, uncovered) in
    made.value ∙ (λ i. prior i *ℤ sum i)
