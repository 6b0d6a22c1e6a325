use Rattle.std.proofs.Common.{◌≡◌, ap, arith, length, take}
use Rattle.std.specs.Int.{w128}
use Rattle.std.specs.Prelude.{FitsSigned}
use Rattle.std.proofs.lemmas.Int.{to_z-of_z}
use Rattle.sg_lp.proofs.Fronts.{lowest_of_front}
use Rattle.sg_lp.proofs.exchanging.combine_row.Goals as goal

pub returns-clause-lowest : goal.returns-clause-lowest
returns-clause-lowest c =
    let fp : FitsSigned w128 c.args.p = c.ranges.p in
    let fq : FitsSigned w128 c.args.q = c.ranges.q in
    let h = c.args.height in
    let long : length c.combine_front.new.places ≡ length c.args.row.now = omega (arith, ap length c.places_mut.ensures.value) in
    let low = simp to_z-of_z at c.combine_front.ensures in
    lowest_of_front h c.args.p c.args.q c.args.row.now c.places_mut.result.now c.args.pivot.now (take h c.places.result.now) c.combine_front.new.places c.places_mut.ensures.value (ap (take h) c.places.ensures) long low
