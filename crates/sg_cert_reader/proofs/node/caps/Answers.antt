use Rattle.std.proofs.Common.{sym, ◌∙◌}
use Rattle.sg_cert_reader.proofs.CapLists.{caps_more, caps_end, caps_stop, caps_fail}
use Rattle.sg_cert_reader.proofs.node.caps.Goals as goal

pub returns : goal.returns
returns c = caps_end c.loop.caps c.args.most c.loop.counter c.loop.lines _ c.loop-test.false c.loop.invariant

pub returns-then-not-next_begins : goal.returns-then-not-next_begins
returns-then-not-next_begins c = caps_stop c.loop.caps c.args.most c.loop.counter c.loop.lines _ c.loop-test.true (sym c.next_begins.ensures ∙ c.if-not-next_begins.true) c.loop.invariant

pub returns-in-Err : goal.returns-in-Err
returns-in-Err c = caps_fail c.loop.caps c.args.most c.loop.counter c.loop.lines c.in-Err.error _ c.loop-test.true (sym c.next_begins.ensures ∙ c.if-not-next_begins.false) c.in-Err.ensures c.loop.invariant

pub loop-preserved : goal.loop-preserved
loop-preserved c =
    let e = c.in_ok-push-in-Ok.ensures.ok in
    rw e (caps_more c.loop.caps c.args.most c.loop.counter c.loop.lines c.cap.new.lines c.in-Ok.cap _ c.loop-test.true (sym c.next_begins.ensures ∙ c.if-not-next_begins.false) c.in-Ok.ensures c.loop.invariant)
