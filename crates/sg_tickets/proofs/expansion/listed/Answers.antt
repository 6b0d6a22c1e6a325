use Rattle.std.proofs.Common.{◌≡◌, ◌≤ℤ◌, ap, arith, pos, ℤ}
use Rattle.std.proofs.lemmas.Int.{ints}
use Rattle.sg_model.specs.declared.ticket.Ticket.{Ticket}
use Rattle.sg_tickets.proofs.Listing.{counted, few, light, listed_more}
use Rattle.sg_tickets.proofs.expansion.listed.Goals as goal

pub count_of-count-requires-clause-few : goal.count_of-count-requires-clause-few
count_of-count-requires-clause-few c =
    let x : Ticket = c.index-tickets-place.result in
    omega (arith, ints, ap (λ (t : Ticket). t.weight) c.index-tickets-place.is, light c.args.tickets.now c.requires.positive c.loop-place.place x c.loop-place-test.true, c.requires.total, c.requires.few)

pub overflow_cast-place : goal.overflow_cast-place
overflow_cast-place c = record { fits = omega (arith, ints, few c.args.tickets.now c.requires.positive, c.loop-place-test.true, c.requires.total, c.requires.few) }

pub add_copies-requires : goal.add_copies-requires
add_copies-requires c =
    let x : Ticket = c.index-tickets-place.result in
    let e : x.weight ≡ _ = ap (λ (t : Ticket). t.weight) c.index-tickets-place.is in
    let some : pos 1 ≤ℤ x.weight = omega (arith, ints, e, c.requires.positive c.loop-place.place x c.loop-place-test.true) in
    omega (
      arith,
      ints,
      e,
      light c.args.tickets.now c.requires.positive c.loop-place.place x c.loop-place-test.true,
      c.requires.total,
      c.requires.few,
      counted x.weight some,
      c.count_of-count.ensures,
      c.loop-place.list.small,
    )

pub loop-place-preserved : goal.loop-place-preserved
loop-place-preserved c =
    listed_more c.args.tickets.now c.loop-place.place c.index-tickets-place.result c.count_of-count.result c.loop-place.list.items _ _
    c.loop-place-test.true c.index-tickets-place.is c.count_of-count.ensures c.in_ok-add_copies.ensures c.loop-place.invariant
