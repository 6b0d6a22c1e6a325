use Rattle.std.proofs.Common.{◌≡◌, ◌+ℤ◌, arith, rules, to_z, of_z, ℤ, subst}
use Rattle.std.specs.Int.{w128}
use Rattle.std.proofs.lemmas.Int.{ints, to_z-of_z}
use Rattle.sg_model.specs.declared.ticket.Ticket.{Ticket}
use Rattle.sg_num.specs.Exact.{Fits}
use Rattle.sg_check.proofs.Running.{running-end, running-item, running-wide_item}
use Rattle.sg_check.proofs.tickets.weight_total.Goals as goal

pub loop-ticket-preserved : goal.loop-ticket-preserved
loop-ticket-preserved c =
    let x = c.ticket-item.result in
    let h = c.in-Some.ensures in
    let e : to_z w128 (of_z w128 x.weight) ≡ x.weight = search (rules, to_z-of_z) in
    running-item (λ (x : Ticket). x.weight) c.args.tickets.now c.loop-ticket.ticket-index x _ _ (omega arith) c.ticket-item.is c.loop-ticket.invariant (subst (λ (w : ℤ). Fits (to_z w128 c.loop-ticket.total-bits +ℤ w)) e h.0) (omega (arith, ints, h.1))

pub returns-in-None : goal.returns-in-None
returns-in-None c =
    let x = c.ticket-item.result in
    let h = c.in-None.ensures in
    let e : to_z w128 (of_z w128 x.weight) ≡ x.weight = search (rules, to_z-of_z) in
    running-wide_item (λ (x : Ticket). x.weight) c.args.tickets.now c.loop-ticket.ticket-index c.ticket-item.result _ (omega arith) c.ticket-item.is c.loop-ticket.invariant (subst (λ (w : ℤ). Fits (to_z w128 c.loop-ticket.total-bits +ℤ w) → ⊥) e h)

pub returns : goal.returns
returns c = running-end (λ (x : Ticket). x.weight) c.args.tickets.now c.loop-ticket.ticket-index _ (omega arith) c.loop-ticket.invariant
