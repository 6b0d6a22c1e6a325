use Rattle.sg_cert.specs.Reading.{row_at}
use Rattle.sg_cert_reader.proofs.Repeats.{repeat_more, repeat_end, repeat_fail, now}
use Rattle.sg_cert_reader.proofs.fact.rows.Goals as goal

pub returns : goal.returns
returns c = repeat_end row_at c.loop.rows c.args.k c.loop.counter c.loop.lines _ c.loop-test.false c.loop.invariant

pub returns-in-Err : goal.returns-in-Err
returns-in-Err c = repeat_fail row_at c.loop.rows c.args.k c.loop.counter c.loop.lines c.in-Err.fault _ c.loop-test.true (now row_at c.loop.lines _ _ _ c.as_slice.ensures c.in-Err.ensures) c.loop.invariant

pub loop-preserved : goal.loop-preserved
loop-preserved c =
    let e = c.in_ok-push-in-Ok.ensures.ok in
    rw e (repeat_more row_at c.loop.rows c.args.k c.loop.counter c.loop.lines c.next_row.new.lines c.in-Ok.row _ c.loop-test.true (now row_at c.loop.lines _ _ _ c.as_slice.ensures c.in-Ok.ensures) c.loop.invariant)
