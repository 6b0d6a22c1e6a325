use Rattle.std.proofs.Common.{◌≡◌, arith, rules, to_z, of_z, subst}
use Rattle.std.specs.Int.{w128}
use Rattle.std.proofs.lemmas.Int.{to_z-of_z}
use Rattle.std.proofs.lemmas.List.{take_all}
use Rattle.sg_check.proofs.Totals.{DividesSoFar, divides-more}
use Rattle.sg_check.proofs.tickets.common_divisor.Goals as goal

pub loop-ticket-preserved : goal.loop-ticket-preserved
loop-ticket-preserved c =
    let x = c.ticket-item.result in
    let e : to_z w128 (of_z w128 x.weight) ≡ x.weight = search (rules, to_z-of_z) in
    let w = rw e at c.unsigned_abs.ensures.value in
    divides-more c.args.tickets.now c.loop-ticket.ticket-index x c.loop-ticket.divisor c.gcd-divisor.result c.unsigned_abs.result (omega arith) c.ticket-item.is w c.gcd-divisor.ensures c.loop-ticket.invariant

pub returns-clause-divides : goal.returns-clause-divides
returns-clause-divides c =
    let all = take_all c.loop-ticket.ticket-index c.args.tickets.now (omega arith) in
    (subst (DividesSoFar c.loop-ticket.divisor) all c.loop-ticket.invariant).divides

pub returns-clause-greatest : goal.returns-clause-greatest
returns-clause-greatest c =
    let all = take_all c.loop-ticket.ticket-index c.args.tickets.now (omega arith) in
    (subst (DividesSoFar c.loop-ticket.divisor) all c.loop-ticket.invariant).greatest
