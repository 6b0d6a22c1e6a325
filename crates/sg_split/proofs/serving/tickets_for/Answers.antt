use Rattle.std.proofs.Common.{◌≡◌, ◌∙◌, ◌+◌, ◌++◌, ◌∷◌, [], List, ap, sym, subst, take}
use Rattle.std.proofs.lemmas.List.{take_more}
use Rattle.sg_model.specs.declared.ticket.Ticket.{Ticket}
use Rattle.sg_matchings.specs.declared.part.Part.{Part}
use Rattle.sg_split.specs.ByTarget.{none, AreTicketsFor}
use Rattle.sg_split.proofs.Served.{tickets-pushed}
use Rattle.sg_split.proofs.serving.tickets_for.Goals as goal

pub loop-part-init : goal.loop-part-init
loop-part-init c = subst (λ (xs : List Ticket). AreTicketsFor c.args.game.now (take 0 c.args.parts.now) xs) (sym c.new-tickets.ensures.items) none

pub loop-part-preserved : goal.loop-part-preserved
loop-part-preserved c =
    let g = c.args.game.now in
    let parts = c.args.parts.now in
    let i = c.loop-part.part-index in
    let part = c.part-item.result in
    let x = c.in_ok-ticket_for.field-0 in
    let before = c.loop-part.tickets.items in
    let pushed = tickets-pushed g (take i parts) before part x c.loop-part.invariant c.in_ok-ticket_for.ensures in
    let next : take (i + 1) parts ≡ take i parts ++ part ∷ [] = take_more parts i part c.loop-part-test.true ∙ ap (λ (y : Part). take i parts ++ y ∷ []) (sym c.part-item.is) in
    subst (λ (xs : List Ticket). AreTicketsFor g (take (i + 1) parts) xs) (sym c.in_ok-push.ensures.items) (subst (λ (ps : List Part). AreTicketsFor g ps (before ++ x ∷ [])) (sym next) pushed)
