use Rattle.std.proofs.Common.{◌<◌, ◌∙◌, sym, arith}
use Rattle.sg_model.specs.Games.{action_count}
use Rattle.sg_commit.proofs.Responses.{take_more, take_stops}
use Rattle.sg_commit.proofs.response.look_at_all.Goals as goal

pub returns-in-Err : goal.returns-in-Err
returns-in-Err c =
    let lt : c.loop-i.i < action_count c.args.game.now c.args.l = omega (arith, c.loop-i-test.true, c.actions-i-end.ensures.count) in
    sym (c.loop-i.invariant ∙ take_stops c.args.game.now c.args.k.now.tickets c.args.l c.loop-i.i (action_count c.args.game.now c.args.l) lt c.loop-i.taken c.in-Err.wide (sym c.look.ensures ∙ c.in-Err.is))

pub loop-i-preserved : goal.loop-i-preserved
loop-i-preserved c =
    let lt : c.loop-i.i < action_count c.args.game.now c.args.l = omega (arith, c.loop-i-test.true, c.actions-i-end.ensures.count) in
    c.loop-i.invariant ∙ take_more c.args.game.now c.args.k.now.tickets c.args.l c.loop-i.i (action_count c.args.game.now c.args.l) lt c.loop-i.taken c.in-Ok.next (sym c.look.ensures ∙ c.in-Ok.is)
