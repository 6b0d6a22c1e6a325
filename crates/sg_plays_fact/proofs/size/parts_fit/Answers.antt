use Rattle.std.proofs.Common.{◌≡◌, ℤ, arith, rules, of_z, to_z}
use Rattle.std.specs.Int.{w128}
use Rattle.std.proofs.lemmas.Int.{ints, to_z-of_z}
use Rattle.sg_bounds.specs.Sizes.{attacker_most, defender_most, fixed_priors}
use Rattle.sg_plays_fact.proofs.Formed.{all-formed, same-numbers}
use Rattle.sg_plays_fact.proofs.size.parts_fit.Goals as goal

pub returns : goal.returns
returns c = λ vs h.
    let g = c.args.game.now in
    let m = c.args.measures.now in
    let rho : ℤ = to_z w128 (of_z w128 c.args.rho) in
    let p : ℤ = to_z w128 (of_z w128 c.from-priors.result) in
    let d : ℤ = to_z w128 (of_z w128 m.defender_most) in
    let a : ℤ = to_z w128 (of_z w128 m.attacker_most) in
    let e : rho ≡ c.args.rho = search (rules, to_z-of_z) in
    let f : p ≡ fixed_priors g c.args.fix.now = omega (arith, ints, c.from-priors.ensures, c.fixed_priors.ensures) in
    let i : to_z w128 (of_z w128 m.defender_most) ≡ m.defender_most = search (rules, to_z-of_z) in
    let k : d ≡ defender_most g = omega (arith, ints, i, c.requires.measures.defender_most) in
    let j : to_z w128 (of_z w128 m.attacker_most) ≡ m.attacker_most = search (rules, to_z-of_z) in
    let n : a ≡ attacker_most g = omega (arith, ints, j, c.requires.measures.attacker_most) in
    same-numbers c.sum_fits.result c.args.rho (fixed_priors g c.args.fix.now) (defender_most g) (attacker_most g) rho p d a vs e f k n
    (all-formed c.sum_fits.result c.most_gain-gain.result c.most_regret.result c.args.sum rho p d a vs c.most_gain-gain.ensures h c.most_regret.ensures c.sum_fits.ensures)
