use Rattle.std.proofs.Common.{◌≡◌, ap, arith, length, rules, take}
use Rattle.std.specs.Int.{w128}
use Rattle.std.specs.Prelude.{FitsSigned}
use Rattle.std.proofs.lemmas.Int.{to_z-of_z}
use Rattle.sg_lp.proofs.Fronts.{lowest_of_front_with}
use Rattle.sg_lp.proofs.exchanging.combine_multipliers.Goals as goal

pub returns-clause-lowest : goal.returns-clause-lowest
returns-clause-lowest c =
    let fr : FitsSigned w128 c.args.rho = c.ranges.rho in
    let fp : FitsSigned w128 c.args.p = c.ranges.p in
    let fg : FitsSigned w128 c.args.gap = c.ranges.gap in
    let fu : FitsSigned w128 c.combine_front_with.result = search rules in
    let h = c.args.height in
    let long : length c.combine_front_with.new.places ≡ length c.args.y.now = omega (arith, ap length c.places_mut.ensures.value) in
    let low = simp to_z-of_z at c.combine_front_with.ensures in
    simp to_z-of_z (lowest_of_front_with h c.args.rho c.combine_front_with.result c.args.p c.args.gap c.args.y.now c.places_mut.result.now c.args.pivot.now (take h c.places.result.now) c.combine_front_with.new.places c.places_mut.ensures.value (ap (take h) c.places.ensures) long low)
