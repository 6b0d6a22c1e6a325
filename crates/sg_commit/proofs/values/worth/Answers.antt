use Rattle.std.proofs.Common.{rules, ◌≡◌, ◌<◌, ◌≤◌, ◌∙◌, sym, ap, arith, length, Ok, to_z}
use Rattle.std.specs.Int.{w128}
use Rattle.std.specs.Prelude.{FitsSigned}
use Rattle.std.proofs.lemmas.Int.{to_z-of_z}
use Rattle.sg_commit.specs.ExactSums.{exact_worth, worth_from}
use Rattle.sg_commit.proofs.Responses.{numbers_done}
use Rattle.sg_commit.proofs.Worths.{exact_worth-is, worth_more, worth_stops}
use Rattle.sg_commit.proofs.values.worth.Goals as goal

pub returns-in-Err-clause-steps : goal.returns-in-Err-clause-steps
returns-in-Err-clause-steps c =
    let lt : c.loop-i.i < length c.args.game.now.types = omega (arith, c.loop-i-test.true, c.types-i-end.ensures.count) in
    sym (c.loop-i.invariant ∙ worth_stops c.args.game.now c.args.k.now.tickets c.loop-i.i (length c.args.game.now.types) lt (to_z w128 c.loop-i.acc-bits) c.in-Err.wide (sym c.step.ensures ∙ c.in-Err.is))

pub loop-i-preserved : goal.loop-i-preserved
loop-i-preserved c =
    let fits : FitsSigned w128 c.in-Ok.next = search rules in
    let lt : c.loop-i.i < length c.args.game.now.types = omega (arith, c.loop-i-test.true, c.types-i-end.ensures.count) in
    simp to_z-of_z (c.loop-i.invariant ∙ worth_more c.args.game.now c.args.k.now.tickets c.loop-i.i (length c.args.game.now.types) lt (to_z w128 c.loop-i.acc-bits) c.in-Ok.next (sym c.step.ensures ∙ c.in-Ok.is))

pub returns-clause-value : goal.returns-clause-value
returns-clause-value c =
    let done : length c.args.game.now.types ≤ c.loop-i.i = omega (arith, c.loop-i-test.false, c.types-i-end.ensures.count) in
    let whole : exact_worth c.args.game.now c.args.k.now.tickets ≡ Ok (to_z w128 c.loop-i.acc-bits) =
    c.loop-i.invariant ∙ ap (worth_from c.args.game.now c.args.k.now.tickets (to_z w128 c.loop-i.acc-bits)) (numbers_done c.loop-i.i (length c.args.game.now.types) done) in
    exact_worth-is c.args.game.now c.args.k.now.tickets (to_z w128 c.loop-i.acc-bits) whole
