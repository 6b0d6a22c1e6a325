use Rattle.std.proofs.Common.{arith, ◌<◌, length}
use Rattle.sg_origami.specs.Rates.{rate_at}
use Rattle.sg_origami.proofs.Rest.{map_none_yet, map_push, map_done}
use Rattle.sg_origami.proofs.rate.rates_of.Goals as goal

pub loop-t-init : goal.loop-t-init
loop-t-init c = map_none_yet (rate_at c.args.game.now) (length c.args.game.now.goals) c.new-rates.result c.new-rates.ensures

pub loop-t-preserved : goal.loop-t-preserved
loop-t-preserved c =
    let g = c.args.game.now in
    let lt : c.loop-t.t < length g.goals = omega (arith, c.loop-t-test.true, c.targets_of-t-end.ensures) in
    map_push (rate_at g) c.loop-t.t (length g.goals) c.loop-t.rates c.push.new.self c.rate_of.result lt c.loop-t.invariant c.in_ok-push.ensures.ok c.rate_of.ensures

pub returns : goal.returns
returns c = map_done (rate_at c.args.game.now) c.loop-t.t (length c.args.game.now.goals) c.loop-t.rates (omega (arith, c.loop-t-test.false, c.targets_of-t-end.ensures, c.loop-t.auto)) c.loop-t.invariant
