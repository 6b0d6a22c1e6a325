use Rattle.std.proofs.Common.{◌≡◌, ◌-◌, ℤ, arith, rules, of_z, to_z, pos, slice_index_or}
use Rattle.std.specs.Int.{w128}
use Rattle.std.proofs.lemmas.Int.{ints, to_z-of_z}
use Rattle.sg_plays_fact.proofs.Placed.{added-at, nth-at}
use Rattle.sg_plays_fact.proofs.weights.add_at.Goals as goal

pub returns : goal.returns
returns c =
    let ws = c.args.weights.now in
    let z : ℤ = slice_index_or ws (c.args.t - 1) (pos 0) in
    let e : to_z w128 (of_z w128 c.args.by) ≡ c.args.by = search (rules, to_z-of_z) in
    let f : to_z w128 (of_z w128 z) ≡ z = search (rules, to_z-of_z) in
    let at = nth-at ws c.args.t c.requires.known.at_least in
    λ s is. added-at ws c.args.t s c.args.by _ c.requires.known is (omega (arith, ints, e, f, at, c.requires.fits))
