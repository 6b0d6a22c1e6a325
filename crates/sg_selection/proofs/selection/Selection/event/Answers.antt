use Rattle.std.proofs.Common.{◌≡◌, ◌∙◌, ◌+◌, is_some, true≢false, ap, subst, refl, None}
use Rattle.rand_chacha.specs.ChaCha.{ChaCha}
use Rattle.sg_options.specs.declared.order.Walk.{Walk}
use Rattle.sg_search.specs.declared.event.Event.{Event}
use Rattle.sg_search.specs.declared.event.Event.TheVariants.{Begin, Turn, Finish}
use Rattle.sg_search.specs.declared.event.Ready.{Ready}
use Rattle.sg_selection.specs.Selections.{SelectionState}
use Rattle.sg_selection.specs.Ranking.{IsNumberBy}
use Rattle.sg_selection.specs.Readiness.{IsPlaceBy}
use Rattle.sg_selection.proofs.Handed.{begin-selects, finish-selects, none-named, place-told, turn-selects}
use Rattle.sg_selection.proofs.selection.Selection.event.Goals as goal

pub returns-in_err-place-clause-ends : goal.returns-in_err-place-clause-ends
returns-in_err-place-clause-ends g c = λ p s h.
    let a = c.args.self.now in
    let left = c.place.new.self.words in
    let none : IsPlaceBy a.walk c.args.ready.now a.lane_before a.words left None = c.in_err-place.ensures.named in
    (λ e. none-named (g.R.Ranked.is_rank c.args.ranks.now) c.args.ready.now p s h a.walk a.lane_before a.words left none, λ stop. ap (λ o. is_some {T = Event} o) c.from_residual.ensures)

pub choice-requires-clause-some : goal.choice-requires-clause-some
choice-requires-clause-some g c =
    let a = c.args.self.now in
    c.requires.some c.in_ok-place.place c.in-Begin.count
    (place-told c.args.ready.now a.walk a.lane_before a.words c.place.new.self.words c.in_ok-place.place (Ready.Begin c.in-Begin.count) c.in_ok-place.ensures.named c.in-Begin.is)

pub choice-requires-clause-ranked : goal.choice-requires-clause-ranked
choice-requires-clause-ranked g c = λ n low.
    let a = c.args.self.now in
    c.requires.ranked c.in_ok-place.place c.in-Begin.count n
    (place-told c.args.ready.now a.walk a.lane_before a.words c.place.new.self.words c.in_ok-place.place (Ready.Begin c.in-Begin.count) c.in_ok-place.ensures.named c.in-Begin.is)
    low

pub returns-in-Begin-clause-selects : goal.returns-in-Begin-clause-selects
returns-in-Begin-clause-selects g c = λ p s h.
    let a = c.args.self.now in
    let named = c.in_ok-place.ensures.named in
    let left = c.place.new.self.words in
    let seen = c.self.view_is in
    let walk : c.self.inside.walk ≡ a.walk = ap (λ (x : SelectionState). x.walk) seen ∙ c.in_ok-place.ensures.walk in
    let words : c.self.inside.words ≡ left = ap (λ (x : SelectionState). x.words) seen in
    let d = c.choice.new.self in
    let number = subst (λ (w : Walk). IsNumberBy w (g.R.Ranked.is_rank c.args.ranks.now) c.in-Begin.count left d.words c.choice.result) walk
    (subst (λ (x : ChaCha). IsNumberBy c.self.inside.walk (g.R.Ranked.is_rank c.args.ranks.now) c.in-Begin.count x d.words c.choice.result) words c.choice.ensures.named) in
    begin-selects (g.R.Ranked.is_rank c.args.ranks.now) c.args.ready.now p s h a d left c.in_ok-place.place c.in-Begin.count c.choice.result named c.in-Begin.is number (c.choice.ensures.walk ∙ walk) c.choice.ensures.lane

pub returns-in-Begin-clause-ends : goal.returns-in-Begin-clause-ends
returns-in-Begin-clause-ends g c = λ p s h.
    (λ e. absurd (true≢false e), λ stop. absurd (stop (Begin (c.in_ok-place.place + 1) c.choice.result) (returns-in-Begin-clause-selects g c p s h).enabled))

pub returns-in-Turn-clause-selects : goal.returns-in-Turn-clause-selects
returns-in-Turn-clause-selects g c = λ p s h.
    let a = c.args.self.now in
    let left = c.place.new.self.words in
    let seen = c.self.view_is in
    let d : SelectionState = record { walk = c.self.inside.walk; lane_before = c.in_ok-place.place + 1; words = c.self.inside.words } in
    turn-selects (g.R.Ranked.is_rank c.args.ranks.now) c.args.ready.now p s h a d left c.in_ok-place.place c.in_ok-place.ensures.named c.in-Turn.is
    (ap (λ (x : SelectionState). x.walk) seen ∙ c.in_ok-place.ensures.walk) refl (ap (λ (x : SelectionState). x.words) seen)

pub returns-in-Turn-clause-ends : goal.returns-in-Turn-clause-ends
returns-in-Turn-clause-ends g c = λ p s h.
    (λ e. absurd (true≢false e), λ stop. absurd (stop (Turn (c.in_ok-place.place + 1)) (returns-in-Turn-clause-selects g c p s h).enabled))

pub returns-in-Finish-clause-selects : goal.returns-in-Finish-clause-selects
returns-in-Finish-clause-selects g c = λ p s h.
    let a = c.args.self.now in
    let left = c.place.new.self.words in
    let seen = c.self.view_is in
    let d : SelectionState = record { walk = c.self.inside.walk; lane_before = c.in_ok-place.place + 1; words = c.self.inside.words } in
    finish-selects (g.R.Ranked.is_rank c.args.ranks.now) c.args.ready.now p s h a d left c.in_ok-place.place c.in_ok-place.ensures.named c.in-Finish.is
    (ap (λ (x : SelectionState). x.walk) seen ∙ c.in_ok-place.ensures.walk) refl (ap (λ (x : SelectionState). x.words) seen)

pub returns-in-Finish-clause-ends : goal.returns-in-Finish-clause-ends
returns-in-Finish-clause-ends g c = λ p s h.
    (λ e. absurd (true≢false e), λ stop. absurd (stop (Finish (c.in_ok-place.place + 1)) (returns-in-Finish-clause-selects g c p s h).enabled))
