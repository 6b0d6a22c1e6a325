use Rattle.std.proofs.Common.{◌≡◌, ◌∙◌, arith, rules, to_z, of_z}
use Rattle.std.specs.Int.{w128}
use Rattle.std.proofs.lemmas.Int.{ints, to_z-of_z}
use Rattle.sg_model.specs.Games.{prior_total}
use Rattle.sg_check.proofs.Valued.{value-forms}
use Rattle.sg_check.proofs.value.value_of.Goals as goal

pub returns : goal.returns
returns c =
    let g = c.args.game.now in
    let k = c.args.tickets.now in
    let n : to_z w128 (of_z w128 c.from.result) ≡ prior_total g = omega (arith, ints, c.from.ensures, c.from.type_inv, c.prior_total.ensures.total) in
    let w : to_z w128 (of_z w128 c.args.total) ≡ c.args.total = search (rules, to_z-of_z) in
    value-forms g k _ _ c.worth_of-num.result c.multiplied-den.result c.pair.result (w ∙ c.requires.total) n c.worth_of-num.ensures c.multiplied-den.ensures c.pair.ensures
