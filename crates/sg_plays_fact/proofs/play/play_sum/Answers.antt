use Rattle.std.proofs.Common.{◌≡◌, ◌∙◌, arith, rules, of_z, to_z}
use Rattle.std.specs.Int.{w128}
use Rattle.std.proofs.lemmas.Int.{ints, to_z-of_z}
use Rattle.sg_bounds.specs.Facts.{cost, regret}
use Rattle.sg_plays_fact.proofs.Regrets.{gain-top, product-fits, product-read, sum-top}
use Rattle.sg_plays_fact.proofs.Within.{fits_between}
use Rattle.sg_plays_fact.proofs.play.play_sum.Goals as goal

pub overflow_mul-result : goal.overflow_mul-result
overflow_mul-result c =
    let g = c.args.game.now in
    let s = c.args.stated.now in
    let e : to_z w128 (of_z w128 s.rho) ≡ s.rho = search (rules, to_z-of_z) in
    let f : to_z w128 (of_z w128 c.cost.result) ≡ cost g c.args.fix.now c.args.code.now = (let k : to_z w128 (of_z w128 c.cost.result) ≡ c.cost.result = search (rules, to_z-of_z) in k ∙ c.cost.ensures) in
    product-fits s.rho (cost g c.args.fix.now c.args.code.now) _ _ e f (gain-top g c.promises.ensures c.args.fix.now s c.args.marks.now c.requires.sized c.args.code.now c.requires.legal)

pub overflow_sub-result : goal.overflow_sub-result
overflow_sub-result c =
    let g = c.args.game.now in
    let s = c.args.stated.now in
    let e : to_z w128 (of_z w128 s.rho) ≡ s.rho = search (rules, to_z-of_z) in
    let f : to_z w128 (of_z w128 c.cost.result) ≡ cost g c.args.fix.now c.args.code.now = (let k : to_z w128 (of_z w128 c.cost.result) ≡ c.cost.result = search (rules, to_z-of_z) in k ∙ c.cost.ensures) in
    let r : to_z w128 (of_z w128 c.regret.result) ≡ regret g c.args.fix.now c.args.marks.now c.args.code.now = (let k : to_z w128 (of_z w128 c.regret.result) ≡ c.regret.result = search (rules, to_z-of_z) in k ∙ c.regret.ensures) in
    let gain = product-read s.rho (cost g c.args.fix.now c.args.code.now) _ _ e f (gain-top g c.promises.ensures c.args.fix.now s c.args.marks.now c.requires.sized c.args.code.now c.requires.legal) in
    let sum = sum-top g c.promises.ensures c.args.fix.now s c.args.marks.now c.requires.sized c.args.code.now c.requires.legal in
    fits_between _ (omega (arith, ints, gain, r, sum.0)) (omega (arith, ints, gain, r, sum.1))

pub returns : goal.returns
returns c =
    let g = c.args.game.now in
    let s = c.args.stated.now in
    let e : to_z w128 (of_z w128 s.rho) ≡ s.rho = search (rules, to_z-of_z) in
    let f : to_z w128 (of_z w128 c.cost.result) ≡ cost g c.args.fix.now c.args.code.now = (let k : to_z w128 (of_z w128 c.cost.result) ≡ c.cost.result = search (rules, to_z-of_z) in k ∙ c.cost.ensures) in
    let r : to_z w128 (of_z w128 c.regret.result) ≡ regret g c.args.fix.now c.args.marks.now c.args.code.now = (let k : to_z w128 (of_z w128 c.regret.result) ≡ c.regret.result = search (rules, to_z-of_z) in k ∙ c.regret.ensures) in
    let gain = product-read s.rho (cost g c.args.fix.now c.args.code.now) _ _ e f (gain-top g c.promises.ensures c.args.fix.now s c.args.marks.now c.requires.sized c.args.code.now c.requires.legal) in
    let sum = sum-top g c.promises.ensures c.args.fix.now s c.args.marks.now c.requires.sized c.args.code.now c.requires.legal in
    omega (arith, ints, gain, r, sum.0, sum.1)
