use Rattle.std.proofs.Common.{◌≡◌, ℤ, arith, to_z, of_z, subst}
use Rattle.std.specs.Int.{w128}
use Rattle.std.proofs.lemmas.Int.{ints}
use Rattle.sg_matchings.specs.Mirrors.{IsLeastWeight}
use Rattle.sg_matchings.proofs.MirrorMatchings.{mirror-perfect, mirror-turned}
use Rattle.sg_matchings.proofs.decomposing.take_matching.Goals as goal

pub least_on-weight-requires-clause-matching : goal.least_on-weight-requires-clause-matching
least_on-weight-requires-clause-matching c = mirror-perfect c.args.count c.args.width c.args.rows.now c.requires.mirrored c.complete.new.matched c.in_ok-complete.ensures c.mirror.new.columns c.mirror.ensures

pub take_off-requires-clause-matching : goal.take_off-requires-clause-matching
take_off-requires-clause-matching c = mirror-perfect c.args.count c.args.width c.args.rows.now c.requires.mirrored c.complete.new.matched c.in_ok-complete.ensures c.mirror.new.columns c.mirror.ensures

pub take_off-requires-clause-weight : goal.take_off-requires-clause-weight
take_off-requires-clause-weight c =
    let is = mirror-perfect c.args.count c.args.width c.args.rows.now c.requires.mirrored c.complete.new.matched c.in_ok-complete.ensures c.mirror.new.columns c.mirror.ensures in
    let least = c.least_on-weight.ensures in
    let i = least.reached.0 in
    let at = is.positive i least.reached.1.0 in
    let w : ℤ = to_z w128 (of_z w128 c.least_on-weight.result) in
    let e : w ≡ c.least_on-weight.result = omega (arith, ints, c.least_on-weight.type_inv) in
    omega (arith, ints, e, at, least.reached.1.1)

pub returns-clause-step : goal.returns-clause-step
returns-clause-step c =
    let is = mirror-perfect c.args.count c.args.width c.args.rows.now c.requires.mirrored c.complete.new.matched c.in_ok-complete.ensures c.mirror.new.columns c.mirror.ensures in
    let rows = c.args.rows.now in
    let columns = c.mirror.new.columns in
    let w : ℤ = to_z w128 (of_z w128 c.least_on-weight.result) in
    let e : c.least_on-weight.result ≡ w = omega (arith, ints, c.least_on-weight.type_inv) in
    record { matching = is; least = subst (λ (z : ℤ). IsLeastWeight rows columns z) e c.least_on-weight.ensures; less = c.take_off.ensures }

pub returns-clause-turned : goal.returns-clause-turned
returns-clause-turned c = mirror-turned c.args.count c.args.width c.args.rows.now c.requires.mirrored c.complete.new.matched c.in_ok-complete.ensures c.mirror.new.columns c.mirror.ensures
