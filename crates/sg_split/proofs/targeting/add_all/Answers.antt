use Rattle.std.proofs.Common.{◌≡◌, ◌∙◌, ℤ, arith, to_z, of_z}
use Rattle.std.specs.Int.{w128}
use Rattle.std.proofs.lemmas.Int.{ints}
use Rattle.sg_split.proofs.TargetRows.{more_fits, row-all, row-more}
use Rattle.sg_split.proofs.targeting.add_all.Goals as goal

pub add-requires-clause-fits : goal.add-requires-clause-fits
add-requires-clause-fits c =
    let v : ℤ = to_z w128 (of_z w128 c.count_at.result) in
    let e : v ≡ c.count_at.result = omega (arith, ints, c.count_at.type_inv) in
    let both = more_fits c.args.game.now c.args.r c.args.counts.now c.loop-j.row c.loop-j.j c.target_of-target.result v c.args.tickets c.loop-j-test.true c.target_of-target.ensures (e ∙ c.count_at.ensures)
    c.requires.none_below c.requires.within c.loop-j.invariant in
    omega (arith, ints, both.0, both.1, c.ranges.tickets)

pub loop-j-preserved : goal.loop-j-preserved
loop-j-preserved c =
    let v : ℤ = to_z w128 (of_z w128 c.count_at.result) in
    let e : v ≡ c.count_at.result = omega (arith, ints, c.count_at.type_inv) in
    row-more c.args.game.now c.args.r c.args.counts.now c.loop-j.row c.add.new.row c.loop-j.j c.target_of-target.result v c.target_of-target.ensures (e ∙ c.count_at.ensures) c.loop-j.invariant c.add.ensures

pub returns : goal.returns
returns c = row-all c.args.game.now c.args.r c.args.counts.now c.loop-j.row c.loop-j.j (omega (arith, c.requires.one_each)) c.loop-j.invariant
