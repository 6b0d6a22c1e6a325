use Rattle.std.proofs.Common.{◌≡◌, ◌∙◌, ◌∷◌, [], ◌++◌, ap, sym, subst, refl, List, ℤ, pos, ◌≤ℤ◌, ◌^◌}
use Rattle.sg_model.specs.declared.ticket.Ticket.{Ticket}
use Rattle.sg_commit.specs.Committed.{Committed}
use Rattle.sg_commit.specs.Rising.{AreShares}
use Rattle.sg_search.specs.Results.{IsFirst}
use Rattle.sg_lanes.proofs.Started.{one-first, one-shares}
use Rattle.sg_lanes.proofs.start.first_commitment.Goals as goal

pub unreachable-requires : goal.unreachable-requires
unreachable-requires c =
    let x : Ticket = record { play = c.in_ok-least_play.field-0; weight = pos 1 } in
    let is : c.push.new.self ≡ x ∷ [] = c.in_ok-push.ensures.ok ∙ ap (λ (xs : List Ticket). xs ++ (x ∷ [])) c.new-tickets.ensures in
    c.in-None.ensures.none.0 refl (subst (λ (ts : List Ticket). AreShares ts (pos 1)) (sym is) (one-shares c.args.game.now x c.in_ok-least_play.ensures.legal refl))

pub returns-clause-first : goal.returns-clause-first
returns-clause-first c =
    let x : Ticket = record { play = c.in_ok-least_play.field-0; weight = pos 1 } in
    let is : c.push.new.self ≡ x ∷ [] = c.in_ok-push.ensures.ok ∙ ap (λ (xs : List Ticket). xs ++ (x ∷ [])) c.new-tickets.ensures in
    subst (IsFirst c.args.game.now) (sym (ap (λ (k : Committed). k.tickets) c.in-Some.ensures.value ∙ is))
    (one-first c.args.game.now x c.in_ok-least_play.ensures.legal refl c.promises.ensures (subst (λ (z : ℤ). z ≤ℤ pos (2 ^ 23)) c.prior_total-priors.ensures.total c.prior_total-priors.ensures.few))
