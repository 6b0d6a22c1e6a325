use Rattle.std.proofs.Common.{◌≡◌, ◌∙◌, arith, rules, to_z, of_z}
use Rattle.std.specs.Int.{w128}
use Rattle.std.proofs.lemmas.Int.{ints, to_z-of_z}
use Rattle.sg_model.specs.Games.{attacker}
use Rattle.sg_check.proofs.Valued.{type-forms, type-wide}
use Rattle.sg_check.proofs.value.worth_with.Goals as goal

pub returns-in-Some : goal.returns-in-Some
returns-in-Some c =
    let g = c.args.game.now in
    let p : to_z w128 (of_z w128 c.from.result) ≡ (attacker g c.args.l).prior = omega (arith, ints, c.from.ensures, c.from.type_inv, c.prior.ensures.prior) in
    let t : to_z w128 (of_z w128 c.in-Some.taken) ≡ c.in-Some.taken = search (rules, to_z-of_z) in
    let s : to_z w128 (of_z w128 c.args.sum) ≡ c.args.sum = search (rules, to_z-of_z) in
    type-forms g c.args.tickets.now c.args.sum c.args.l _ _ _ c.step.result s p (t ∙ c.in-Some.ensures.1) c.in-Some.ensures.0 c.step.ensures

pub returns-in-None : goal.returns-in-None
returns-in-None c = type-wide c.args.game.now c.args.tickets.now c.args.sum c.args.l c.in-None.ensures
