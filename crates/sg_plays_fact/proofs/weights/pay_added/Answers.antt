use Rattle.std.proofs.Common.{◌≡◌, ap, length, List, ℤ, arith, pos, slice_index_or}
use Rattle.std.proofs.lemmas.Int.{ints}
use Rattle.sg_model.specs.Games.{payoff}
use Rattle.sg_plays_fact.proofs.weights.pay_added.Goals as goal

pub returns : goal.returns
returns c =
    let p = payoff c.args.game.now c.args.l c.args.t in
    let e = c.payoffs.ensures.payoffs in
    let covered : slice_index_or c.payoffs.result 2 (pos 0) ≡ p.ac = ap (λ (xs : List ℤ). slice_index_or xs 2 (pos 0)) e in
    let uncovered : slice_index_or c.payoffs.result 3 (pos 0) ≡ p.au = ap (λ (xs : List ℤ). slice_index_or xs 3 (pos 0)) e in
    let count : length c.payoffs.result ≡ 4 = ap length e in
    let h = c.payoffs.ensures.within 2 (pos 0) (omega (arith, count)) in
    let k = c.payoffs.ensures.within 3 (pos 0) (omega (arith, count)) in
    omega (arith, ints, c.from.ensures, covered, uncovered, h.at_least, h.at_most, k.at_least, k.at_most)
