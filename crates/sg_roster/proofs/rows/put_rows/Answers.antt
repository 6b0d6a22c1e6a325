use Rattle.std.proofs.Common.{◌+◌, ◌∷◌, ℕ, List, arith, drop, subst}
use Rattle.std.specs.Prelude.{decimal}
use Rattle.csv.specs.Writing.{default_writer, row_text}
use Rattle.sg_model.specs.declared.ticket.Ticket.{Ticket}
use Rattle.sg_roster.specs.Rows.{assignments, days_from, header_fields, records_text, roster_text}
use Rattle.sg_roster.specs.Writing.{HasPut}
use Rattle.sg_roster.proofs.Putting.{day_row, front_put, none_put, row_put}
use Rattle.sg_roster.proofs.rows.put_rows.Goals as goal

pub returns-in-Err-clause-front : goal.returns-in-Err-clause-front
returns-in-Err-clause-front g c =
    let game = c.args.game.now in
    let k : List Ticket = c.args.k.now.tickets in
    let order : List ℕ = c.args.order.now in
    let before = (g.O.Sink.state c.args.out.now).bytes in
    front_put before before (g.O.Sink.state c.put_header.new.out).bytes (roster_text game k order) (row_text default_writer (header_fields game)) (records_text (days_from game k 1 order))
    (none_put before (roster_text game k order)) c.in-Err.ensures.front

pub returns-in-Err-put_day-clause-front : goal.returns-in-Err-put_day-clause-front
returns-in-Err-put_day-clause-front g c =
    let game = c.args.game.now in
    let k : List Ticket = c.args.k.now.tickets in
    let order : List ℕ = c.args.order.now in
    let i : ℕ = c.loop-i.i in
    let code : List ℕ = c.as_slice.result.now in
    let whole : List ℕ = roster_text game k order in
    let before = (g.O.Sink.state c.args.out.now).bytes in
    let now = (g.O.Sink.state c.loop-i.out).bytes in
    let split = day_row game c.tickets-tickets.result.now k order i c.index-tickets-order.result code c.loop-i-test.true (c.requires.known i 0 c.loop-i-test.true)
    c.tickets-tickets.ensures.value c.index-tickets-order.is c.as_slice.ensures in
    front_put before now (g.O.Sink.state c.put_day.new.out).bytes whole (row_text default_writer (decimal (i + 1) ∷ assignments game code)) (records_text (days_from game k (i + 1 + 1) (drop (i + 1) order)))
    (subst (HasPut before now whole) split c.loop-i.invariant.put) c.in-Err-put_day.ensures.front

pub loop-i-preserved : goal.loop-i-preserved
loop-i-preserved g c =
    let game = c.args.game.now in
    let k : List Ticket = c.args.k.now.tickets in
    let order : List ℕ = c.args.order.now in
    let i : ℕ = c.loop-i.i in
    let code : List ℕ = c.as_slice.result.now in
    let whole : List ℕ = roster_text game k order in
    let before = (g.O.Sink.state c.args.out.now).bytes in
    let now = (g.O.Sink.state c.loop-i.out).bytes in
    let split = day_row game c.tickets-tickets.result.now k order i c.index-tickets-order.result code c.loop-i-test.true (c.requires.known i 0 c.loop-i-test.true)
    c.tickets-tickets.ensures.value c.index-tickets-order.is c.as_slice.ensures in
    record {
      put = row_put before now (g.O.Sink.state c.put_day.new.out).bytes whole (row_text default_writer (decimal (i + 1) ∷ assignments game code)) (records_text (days_from game k (i + 1 + 1) (drop (i + 1) order)))
          (subst (HasPut before now whole) split c.loop-i.invariant.put) c.in-Ok-put_day.ensures.whole;
      between = c.in-Ok-put_day.ensures.between;
      pieces = omega (arith, c.in-Ok-put_day.ensures.pieces, c.loop-i.invariant.pieces);
      count = omega (arith, c.in-Ok-put_day.ensures.count, c.loop-i.invariant.count);
    }
