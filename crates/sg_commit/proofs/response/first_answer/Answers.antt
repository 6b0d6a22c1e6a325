use Rattle.std.proofs.Common.{◌∙◌, arith, sym}
use Rattle.sg_commit.proofs.Answering.{found, not_found}
use Rattle.sg_commit.proofs.response.first_answer.Goals as goal

pub returns-then-may_answer-clause-answer : goal.returns-then-may_answer-clause-answer
returns-then-may_answer-clause-answer c =
    found c.args.game.now c.args.k.now.tickets c.args.l c.loop-i.i (omega (arith, c.loop-i-test.true, c.actions-i-end.ensures.count)) (sym c.may_answer.ensures ∙ c.if-may_answer.true) c.loop-i.invariant

pub loop-i-preserved : goal.loop-i-preserved
loop-i-preserved c =
    not_found c.args.game.now c.args.k.now.tickets c.args.l c.loop-i.i (omega (arith, c.loop-i-test.true, c.actions-i-end.ensures.count)) (sym c.may_answer.ensures ∙ c.if-may_answer.false) c.loop-i.invariant
