use Rattle.std.proofs.Common.{ℕ, List, arith}
use Rattle.std.proofs.lemmas.Int.{ints}
use Rattle.sg_model.specs.Plays.{pay_a}
use Rattle.sg_check.proofs.Valued.{summed-end, summed-more, summed-wide}
use Rattle.sg_check.proofs.sums.total_a.Goals as goal

pub loop-ticket-preserved : goal.loop-ticket-preserved
loop-ticket-preserved c =
    let h = c.in-Some.ensures in
    summed-more (λ (play : List ℕ). pay_a c.args.game.now c.args.l play c.args.a) c.args.tickets.now c.loop-ticket.ticket-index c.ticket-item.result _ (omega arith) c.ticket-item.is c.loop-ticket.invariant _ h.0 (omega (arith, ints, h.1))

pub returns-in-None : goal.returns-in-None
returns-in-None c =
    summed-wide (λ (play : List ℕ). pay_a c.args.game.now c.args.l play c.args.a) c.args.tickets.now c.loop-ticket.ticket-index c.ticket-item.result _ (omega arith) c.ticket-item.is c.loop-ticket.invariant c.in-None.ensures

pub returns : goal.returns
returns c = summed-end (λ (play : List ℕ). pay_a c.args.game.now c.args.l play c.args.a) c.args.tickets.now c.loop-ticket.ticket-index _ (omega arith) c.loop-ticket.invariant
