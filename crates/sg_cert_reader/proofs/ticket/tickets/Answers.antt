use Rattle.std.proofs.Common.{arith, [], ◌∷◌}
use Rattle.std.proofs.lemmas.List.{length-append}
use Rattle.sg_cert.specs.Reading.{ticket_at}
use Rattle.sg_cert_reader.proofs.Repeats.{repeat_more, repeat_end, repeat_fails, now, now_fails}
use Rattle.sg_cert.proofs.Rising.{rises_push_at, claim_from_rises}
use Rattle.sg_cert_reader.proofs.ticket.tickets.Goals as goal

pub returns : goal.returns
returns c = record {
  read = repeat_end ticket_at c.loop.tickets c.args.plays c.loop.counter c.loop.lines _ c.loop-test.false c.loop.invariant.read;
  rules = claim_from_rises c.loop.tickets (omega (arith, c.loop.invariant.count, c.loop-test.false, c.requires)) c.loop.invariant.rules;
}

pub returns-in-Err : goal.returns-in-Err
returns-in-Err c = record {
  read = repeat_fails ticket_at c.loop.tickets c.args.plays c.loop.counter c.loop.lines c.in-Err.error _ c.loop-test.true (now_fails ticket_at c.loop.lines _ _ c.in-Err.error c.as_slice.ensures c.in-Err.ensures.read) c.loop.invariant.read;
  rules = tt;
}

pub loop-preserved : goal.loop-preserved
loop-preserved c =
    let e = c.in_ok-push-in-Ok.ensures.ok in
    record {
      read = rw e (repeat_more ticket_at c.loop.tickets c.args.plays c.loop.counter c.loop.lines c.next_ticket.new.lines c.in-Ok.ticket _ c.loop-test.true (now ticket_at c.loop.lines _ _ _ c.as_slice.ensures c.in-Ok.ensures.read) c.loop.invariant.read);
      count = rw e (omega (arith, length-append c.loop.tickets (c.in-Ok.ticket ∷ []), c.loop.invariant.count));
      rules = rw e (rises_push_at _ c.loop.tickets c.in-Ok.ticket c.as_slice.ensures c.loop.invariant.rules c.in-Ok.ensures.rules);
    }
