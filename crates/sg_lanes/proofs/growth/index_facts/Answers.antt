use Rattle.sg_lanes.proofs.Indexed.{facts-step}
use Rattle.sg_lanes.proofs.growth.index_facts.Goals as goal

pub loop-i-preserved : goal.loop-i-preserved
loop-i-preserved c = facts-step c.args.worked.now c.loop-i.i c.index-worked-count.result c.loop-i.facts c.put_fact.new.facts c.loop-i-test.true c.index-worked-count.is c.loop-i.invariant c.in_ok-put_fact.ensures
