use Rattle.std.proofs.Common.{◌≡◌, ◌∙◌, to_z, of_z, arith}
use Rattle.std.specs.Int.{w128}
use Rattle.std.proofs.lemmas.Int.{ints}
use Rattle.sg_origami.proofs.Filled.{lowest_is, filling_is}
use Rattle.sg_origami.proofs.filling.filling_of.Goals as goal

pub of-height-requires : goal.of-height-requires
of-height-requires c =
    let e = c.level_of-found.ensures in
    let level = c.lowest_terms-level.result in
    let h = lowest_is c.args.game.now c.level_of-found.result.level.num c.level_of-found.result.level.den level c.level_of-found.result.reason (record { water = e.water; reason = e.reason; reachable = e.reachable }) c.lowest_terms-level.ensures.range c.lowest_terms-level.ensures.lowest in
    let num : to_z w128 (of_z w128 c.num.result) ≡ level.num = omega (arith, ints, c.num.type_inv) ∙ c.num.ensures in
    let den : to_z w128 (of_z w128 c.den.result) ≡ level.den = omega (arith, ints, c.den.type_inv) ∙ c.den.ensures.value in
    rw (num, den) h.range

pub coverage_of-requires-clause-reachable : goal.coverage_of-requires-clause-reachable
coverage_of-requires-clause-reachable c =
    let e = c.level_of-found.ensures in
    let level = c.lowest_terms-level.result in
    let h = lowest_is c.args.game.now c.level_of-found.result.level.num c.level_of-found.result.level.den level c.level_of-found.result.reason (record { water = e.water; reason = e.reason; reachable = e.reachable }) c.lowest_terms-level.ensures.range c.lowest_terms-level.ensures.lowest in
    let num : to_z w128 (of_z w128 c.num.result) ≡ level.num = omega (arith, ints, c.num.type_inv) ∙ c.num.ensures in
    let den : to_z w128 (of_z w128 c.den.result) ≡ level.den = omega (arith, ints, c.den.type_inv) ∙ c.den.ensures.value in
    rw (c.of-height.ensures, num, den) h.found.reachable

pub returns : goal.returns
returns c =
    let g = c.args.game.now in
    let e = c.level_of-found.ensures in
    let level = c.lowest_terms-level.result in
    let h = lowest_is g c.level_of-found.result.level.num c.level_of-found.result.level.den level c.level_of-found.result.reason (record { water = e.water; reason = e.reason; reachable = e.reachable }) c.lowest_terms-level.ensures.range c.lowest_terms-level.ensures.lowest in
    let num : to_z w128 (of_z w128 c.num.result) ≡ level.num = omega (arith, ints, c.num.type_inv) ∙ c.num.ensures in
    let den : to_z w128 (of_z w128 c.den.result) ≡ level.den = omega (arith, ints, c.den.type_inv) ∙ c.den.ensures.value in
    let k = rw (c.of-height.ensures, num, den) at c.in_ok-coverage.ensures in
    let some = k.ticket_range in
    let total : to_z w128 (of_z w128 c.in_ok-coverage.coverage.total) ≡ c.in_ok-coverage.coverage.total = omega (arith, ints, some.at_least, some.at_most) in
    rw total (filling_is g c.requires (record { level = level; reason = c.level_of-found.result.reason; counts = c.in_ok-coverage.coverage.counts; total = c.in_ok-coverage.coverage.total }) h k)
