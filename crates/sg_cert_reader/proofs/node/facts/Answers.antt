use Rattle.sg_cert.specs.Reading.{fact_at}
use Rattle.sg_cert_reader.proofs.Repeats.{repeat_more, repeat_end, repeat_fails}
use Rattle.sg_cert_reader.proofs.node.facts.Goals as goal

pub returns : goal.returns
returns c = repeat_end (λ done q. fact_at q) c.loop.facts c.args.n c.loop.counter c.loop.lines _ c.loop-test.false c.loop.invariant

pub returns-in-Err : goal.returns-in-Err
returns-in-Err c = repeat_fails (λ done q. fact_at q) c.loop.facts c.args.n c.loop.counter c.loop.lines c.in-Err.error _ c.loop-test.true c.in-Err.ensures c.loop.invariant

pub loop-preserved : goal.loop-preserved
loop-preserved c =
    let e = c.in_ok-push-in-Ok.ensures.ok in
    rw e (repeat_more (λ done q. fact_at q) c.loop.facts c.args.n c.loop.counter c.loop.lines c.fact.new.lines c.in-Ok.fact _ c.loop-test.true c.in-Ok.ensures c.loop.invariant)
