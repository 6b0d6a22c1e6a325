use Rattle.std.proofs.Common.{◌≡◌, subst, cond, arith, pos, to_z}
use Rattle.std.specs.Int.{w128}
use Rattle.std.specs.Prelude.{FitsSigned}
use Rattle.std.proofs.lemmas.Int.{ints}
use Rattle.sg_model.specs.declared.ticket.Ticket.{Ticket}
use Rattle.sg_model.specs.Plays.{covers}
use Rattle.sg_commit.proofs.Counting.{Counted, counted_more}
use Rattle.sg_commit.proofs.coverage.count_in.Goals as goal

more : (c : goal.After-counted-count) → Counted (λ (x : Ticket). covers c.args.game.now x.play.code c.args.target) c.args.tickets.now c.loop-ticket.ticket-index c.counted-count.result (to_z w128 c.loop-ticket.count-bits)
more c =
    let is : c.counted-count.result ≡ cond (covers c.args.game.now c.ticket-item.result.play.code c.args.target) c.ticket-item.result.weight (pos 0) = c.counted-count.ensures in
    let there = subst (λ (x : Ticket). c.counted-count.result ≡ cond (covers c.args.game.now x.play.code c.args.target) x.weight (pos 0)) c.ticket-item.is is in
    counted_more (λ (x : Ticket). covers c.args.game.now x.play.code c.args.target) c.args.tickets.now c.loop-ticket.ticket-index c.ticket-item.result c.counted-count.result (to_z w128 c.loop-ticket.count-bits)
    c.loop-ticket-test.true c.requires.positive there c.loop-ticket.invariant.whole c.loop-ticket.invariant.low c.loop-ticket.invariant.high

pub overflow_add-count : goal.overflow_add-count
overflow_add-count c =
    let m = more c in
    let fits : FitsSigned w128 c.counted-count.result = record { sfits = c.counted-count.type_inv } in
    omega (arith, ints, m.low, m.within, c.requires.fits)

pub loop-ticket-preserved : goal.loop-ticket-preserved
loop-ticket-preserved c =
    let m = more c in
    let fits : FitsSigned w128 c.counted-count.result = record { sfits = c.counted-count.type_inv } in
    record { whole = omega (arith, ints, m.whole, m.low, m.within, c.requires.fits); low = omega (arith, ints, m.low, m.within, c.requires.fits); high = omega (arith, ints, m.high, m.low, m.within, c.requires.fits) }
