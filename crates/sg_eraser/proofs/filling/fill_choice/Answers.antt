use Rattle.std.proofs.Common.{◌≡◌, ◌∙◌, ℤ, arith, to_z, of_z}
use Rattle.std.specs.Int.{w128}
use Rattle.std.proofs.lemmas.Int.{ints}
use Rattle.sg_eraser.specs.Amounts.{amount_in}
use Rattle.sg_eraser.proofs.Fillings.{count-is, left-next}
use Rattle.sg_eraser.proofs.filling.fill_choice.Goals as goal

pub returns-clause-count : goal.returns-clause-count
returns-clause-count c =
    let v : ℤ = to_z w128 (of_z w128 c.amount_at-amount.result) in
    let e : v ≡ c.amount_at-amount.result = omega (arith, ints, c.amount_at-amount.type_inv) in
    let low = c.amount_at-amount.ensures.low in
    let t : to_z w128 (of_z w128 c.take.result) ≡ c.take.result = omega (arith, ints, c.take.type_inv) in
    t ∙ count-is c.args.game.now (amount_in c.args.game.now c.args.parts.now) c.args.r c.args.j c.target_of.result c.args.left.now v c.take.result c.requires.from_one c.target_of.ensures c.requires.left
    (e ∙ c.amount_at-amount.ensures.amount c.args.game.now c.requires.table) (omega (arith, ints, e, low)) c.take.ensures.taken

pub returns-clause-left : goal.returns-clause-left
returns-clause-left c =
    let v : ℤ = to_z w128 (of_z w128 c.amount_at-amount.result) in
    let e : v ≡ c.amount_at-amount.result = omega (arith, ints, c.amount_at-amount.type_inv) in
    let low = c.amount_at-amount.ensures.low in
    left-next c.args.game.now (amount_in c.args.game.now c.args.parts.now) c.args.r c.args.j c.target_of.result c.args.left.now v c.take.result c.requires.from_one c.target_of.ensures c.requires.left
    (e ∙ c.amount_at-amount.ensures.amount c.args.game.now c.requires.table) (omega (arith, ints, e, low)) c.take.ensures.taken c.take.new.left c.take.ensures.rest
