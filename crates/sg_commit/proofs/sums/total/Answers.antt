use Rattle.std.proofs.Common.{rules, ◌≡◌, ◌∙◌, sym, subst, ℤ, Ok, to_z}
use Rattle.std.specs.Int.{w128}
use Rattle.std.specs.Prelude.{FitsSigned}
use Rattle.std.proofs.lemmas.Int.{to_z-of_z}
use Rattle.sg_model.specs.declared.ticket.Ticket.{Ticket}
use Rattle.sg_num.specs.Exact.{exact_dot_step}
use Rattle.sg_commit.specs.Sides.{pay_to}
use Rattle.sg_commit.proofs.ExactSums.{dot_more}
use Rattle.sg_commit.proofs.sums.total.Goals as goal

pub loop-ticket-preserved : goal.loop-ticket-preserved
loop-ticket-preserved c =
    let fits : FitsSigned w128 c.in-Ok.next = search rules in
    let pay = λ (x : Ticket). pay_to c.args.side c.args.game.now c.args.l x.play.code c.args.a in
    let acc : ℤ = to_z w128 c.loop-ticket.acc-bits in
    let e : Ok c.in-Ok.next ≡ exact_dot_step acc c.ticket-item.result.weight (pay c.ticket-item.result) = sym c.in-Ok.is ∙ c.step.ensures in
    let there = subst (λ (x : Ticket). Ok c.in-Ok.next ≡ exact_dot_step acc x.weight (pay x)) c.ticket-item.is e in
    simp to_z-of_z (c.loop-ticket.invariant ∙ dot_more pay c.args.tickets.now c.loop-ticket.ticket-index acc c.in-Ok.next c.ticket-item.result c.loop-ticket-test.true there)
