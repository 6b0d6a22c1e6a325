use Rattle.std.proofs.Common.{refl}
use Rattle.sg_lanes.proofs.Indexed.{facts-put}
use Rattle.sg_lanes.proofs.growth.put_fact.Goals as goal

pub returns-in_ok-_other : goal.returns-in_ok-_other
returns-in_ok-_other c = λ rest h. facts-put c.args.w.now rest c.args.facts.now c.insert.new.self c.as_slice.result.now _ c.if-w-eq1.true c.as_slice.ensures refl c.in_ok-_other.ensures.updates h
