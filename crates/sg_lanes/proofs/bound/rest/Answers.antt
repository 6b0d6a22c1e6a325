use Rattle.std.proofs.Common.{◌≡◌, ◌∙◌, ap₂, arith, rules, of_z, to_z, FitsSigned, ◌-ℤ◌, ◌*ℤ◌, ℕ, ℤ}
use Rattle.std.specs.Int.{w64, w128}
use Rattle.std.proofs.lemmas.Int.{ints, to_z-of_z}
use Rattle.sg_model.proofs.Ints.{same_by, times, v}
use Rattle.sg_model.specs.Sums.{total, numbers}
use Rattle.sg_model.specs.Games.{attacker}
use Rattle.sg_model.specs.Payoffs.{shift_of}
use Rattle.sg_lanes.proofs.Totals.{product-same}
use Rattle.sg_lanes.proofs.bound.rest.Goals as goal

pub overflow_sub-result : goal.overflow_sub-result
overflow_sub-result c =
    let a : to_z w128 (of_z w128 c.caps_total.result) ≡ c.caps_total.result = search (rules, to_z-of_z) in
    let b : to_z w128 (of_z w128 c.share.result) ≡ c.share.result = search (rules, to_z-of_z) in
    omega (arith, ints, a, b, c.caps_total.ensures.low, c.caps_total.ensures.high, c.share.ensures.low, c.share.ensures.high)

pub returns : goal.returns
returns c =
    let g = c.args.game.now in
    let caps = c.args.caps.now in
    let n = c.args.n in
    let x = c.caps_total.result in
    let y = c.share.result in
    let a : to_z w128 (of_z w128 x) ≡ x = search (rules, to_z-of_z) in
    let b : to_z w128 (of_z w128 y) ≡ y = search (rules, to_z-of_z) in
    let p : to_z w64 (of_z w64 c.priors_total-priors.result) ≡ c.priors_total-priors.result = search (rules, to_z-of_z) in
    let q : to_z w64 (of_z w64 c.args.shift) ≡ c.args.shift = search (rules, to_z-of_z) in
    let small : FitsSigned w128 (to_z w128 (of_z w128 x) -ℤ to_z w128 (of_z w128 y)) = omega (arith, ints, a, b, c.caps_total.ensures.low, c.caps_total.ensures.high, c.share.ensures.low, c.share.ensures.high) in
    let fit : to_z w128 (of_z w128 (to_z w128 (of_z w128 x) -ℤ to_z w128 (of_z w128 y))) ≡ to_z w128 (of_z w128 x) -ℤ to_z w128 (of_z w128 y) = search (rules, to_z-of_z) in
    let P : ℤ = total (λ (l : ℕ). (attacker g l).prior) (numbers n) in
    let turned : y ≡ shift_of g *ℤ P = c.share.ensures.value ∙ product-same _ _ _ _ (p ∙ c.priors_total-priors.ensures.total) (q ∙ c.requires.shift) ∙ same_by (times (v P) (v (shift_of g))) (times (v (shift_of g)) (v P)) (omega arith) in
    fit ∙ ap₂ (λ (r t : ℤ). r -ℤ t) (a ∙ c.caps_total.ensures.value) (b ∙ turned)
