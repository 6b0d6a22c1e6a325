use Rattle.std.proofs.Common.{rules, ◌∙◌, ap}
use Rattle.std.specs.Int.{w128}
use Rattle.std.specs.Prelude.{FitsSigned, is_ok}
use Rattle.std.proofs.lemmas.Int.{to_z-of_z}
use Rattle.sg_commit.proofs.Answering.{settled_take}
use Rattle.sg_commit.proofs.response.answer_under.Goals as goal

pub first_answer-requires-clause-taken : goal.first_answer-requires-clause-taken
first_answer-requires-clause-taken c =
    let fits : FitsSigned w128 c.in-Ok.taken = search rules in
    simp to_z-of_z (settled_take c.args.game.now c.args.k.now.tickets c.args.l c.settle.result c.look_at_all.result c.requires.compared c.settle.ensures c.look_at_all.ensures ∙ c.in-Ok.is)

pub returns-in-Ok : goal.returns-in-Ok
returns-in-Ok c =
    let take = settled_take c.args.game.now c.args.k.now.tickets c.args.l c.settle.result c.look_at_all.result c.requires.compared c.settle.ensures c.look_at_all.ensures ∙ c.in-Ok.is in
    (ap is_ok take, c.first_answer.ensures.answer, c.first_answer.ensures.known)

pub returns-in-Err : goal.returns-in-Err
returns-in-Err c =
    settled_take c.args.game.now c.args.k.now.tickets c.args.l c.settle.result c.look_at_all.result c.requires.compared c.settle.ensures c.look_at_all.ensures ∙ c.in-Err.is
