use Rattle.std.proofs.Common.{◌≡◌, ◌∙◌, ℤ, arith, to_z, of_z}
use Rattle.std.specs.Int.{w128}
use Rattle.std.proofs.lemmas.Int.{ints}
use Rattle.sg_eraser.proofs.Weighed.{amount-fits, amount-is, amount-low, amount-more}
use Rattle.sg_eraser.proofs.amounts.amount_at.Goals as goal

pub plus-sum-requires : goal.plus-sum-requires
plus-sum-requires c =
    let v : ℤ = to_z w128 (of_z w128 c.weight_in.result) in
    let e : v ≡ c.weight_in.result = omega (arith, ints, c.weight_in.type_inv) in
    let both = amount-fits c.args.columns.now c.args.want c.args.parts.now c.loop-i.i _ (to_z w128 c.loop-i.sum-bits) v c.requires c.loop-i-test.true c.loop-i.invariant (e ∙ c.weight_in.ensures) in
    let room = c.requires.room in
    omega (arith, ints, both.0, both.1, room)

pub loop-i-preserved : goal.loop-i-preserved
loop-i-preserved c =
    let v : ℤ = to_z w128 (of_z w128 c.weight_in.result) in
    let e : v ≡ c.weight_in.result = omega (arith, ints, c.weight_in.type_inv) in
    let f : to_z w128 (of_z w128 c.plus-sum.result) ≡ c.plus-sum.result = omega (arith, ints, c.plus-sum.type_inv) in
    amount-more c.args.columns.now c.args.want c.args.parts.now c.loop-i.i _ (to_z w128 c.loop-i.sum-bits) v _ c.loop-i-test.true c.loop-i.invariant (e ∙ c.weight_in.ensures) (f ∙ c.plus-sum.ensures)

pub returns-clause-amount : goal.returns-clause-amount
returns-clause-amount c = λ g is. amount-is c.args.columns.now c.args.want g c.args.parts.now c.loop-i.i _ c.requires is (omega (arith, c.loop-i-test.false)) (omega (arith, c.loop-i.auto.i-end)) c.loop-i.invariant

pub returns-clause-low : goal.returns-clause-low
returns-clause-low c = amount-low c.args.columns.now c.args.want c.args.parts.now c.loop-i.i _ c.requires c.loop-i.invariant
