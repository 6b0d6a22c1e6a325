-- A lane finishes its node: the work and the machine stay together.
use Rattle.std.proofs.Common.{◌≡◌, ℕ, ◌+◌, ◌-◌, true, List, [], ◌∷◌, ◌++◌, map, set, sym, ◌∙◌, ap, subst, refl, Option, Some, None, All, inl}
use Rattle.std.proofs.lemmas.List.Elements.{All-append, All-cons, All-nil}
use Rattle.sg_model.specs.Games.{Game}
use Rattle.sg_commit.specs.Committed.{Committed}
use Rattle.sg_tree.specs.declared.fact.Fact.{Fact}
use Rattle.sg_tree.specs.declared.fix.Fix.{Fix}
use Rattle.sg_tree.specs.declared.report.Cause.{Cause}
use Rattle.sg_tree.specs.declared.worked.Worked.{Worked}
use Rattle.sg_search.specs.declared.held.Stuck.{Stuck}
use Rattle.sg_search.specs.declared.event.Event.{Event}
use Rattle.sg_search.specs.declared.event.Outcome.{Outcome}
use Rattle.sg_search.specs.Searches.{Task, Search}
use Rattle.sg_search.specs.Changes.{Change, works, sticks, Goes, Holds}
use Rattle.sg_search.specs.Results.{IsResult}
use Rattle.sg_work.specs.declared.work.Ended.{Ended}
use Rattle.sg_work.specs.Works.{AreSameTests, IsFinding, Load, held_by, load_at, with_load}
use Rattle.sg_lanes.specs.Machines.{IsAnsweredBy, GivesResult, IsTogether, Machine, change_of}
use Rattle.sg_lanes.proofs.Joined.{load-node, together-after, with-held}

module _ (g : Game) (loads : List (Option Load)) (closes : Fix → Fact → Option Committed → Type 0) (stops : Fix → Cause → Type 0) (m : Machine) (lane : ℕ) (h : IsTogether g loads closes stops m) where
  pub finding-gives : (e : Ended) → IsFinding g closes stops loads lane e → (node : Fix) × Holds m.search lane node true → (node : Fix) × Holds m.search lane node true × GivesResult m.task.game node e
  finding-gives (Ended.Worked fact point) f held =
      let n = load-node loads m.search lane held.0 true f.0 h.same_lanes held.1 f.1 in
      (held.0, held.1, subst (λ (x : Fix). IsResult m.task.game (record { fix = x; fact = fact; point = point })) n.0 (subst (λ (k : Game). IsResult k (record { fix = f.0.node; fact = fact; point = point })) h.same_game f.3))
  finding-gives (Ended.Stuck cause) f held = (held.0, held.1, tt)

  module _ (g2 : Game) (after : List (Option Load)) (stop1 stop2 : Fix → ℕ → Type 0) (closes2 : Fix → Fact → Option Committed → Type 0) (stops2 : Fix → Cause → Type 0) (t : Machine)
      (same_game : g2 ≡ g) (tests : AreSameTests stop1 closes stops stop2 closes2 stops2) (task : t.task ≡ m.task) (cleared : after ≡ with_load loads lane None) where
    pub closed-together : (e : Ended) → IsFinding g closes stops loads lane e → Goes m.task m.search (change_of lane e) t.search → IsTogether g2 after closes2 stops2 t
    closed-together (Ended.Worked fact point) f goes =
        let n = load-node loads m.search lane goes.0 true f.0 h.same_lanes goes.1 f.1 in
        let w : Worked = record { fix = goes.0; fact = fact; point = point } in
        let C : Worked → Type 0 = λ x. closes x.fix x.fact x.point in
        together-after g g2 loads after stop1 stop2 closes closes2 stops stops2 m t h same_game tests task
        (with-held loads after m.search.lanes lane None h.same_lanes cleared ∙ sym (ap (λ (s : Search). s.lanes) goes.2))
        (subst (λ (ws : List Worked). All C ws) (sym (ap (λ (s : Search). s.worked) goes.2)) (All-append C m.search.worked (w ∷ []) h.all_closed (All-cons C w [] (subst (λ (x : Fix). closes x fact point) n.0 f.2) (All-nil C))))
        (subst (λ (xs : List Stuck). All (λ (x : Stuck). stops x.node x.cause) xs) (sym (ap (λ (s : Search). s.stuck) goes.2)) h.all_stopped)
    closed-together (Ended.Stuck cause) f goes =
        let n = load-node loads m.search lane goes.0 true f.0 h.same_lanes goes.1 f.1 in
        let w : Stuck = record { node = goes.0; cause = cause } in
        let S : Stuck → Type 0 = λ x. stops x.node x.cause in
        together-after g g2 loads after stop1 stop2 closes closes2 stops stops2 m t h same_game tests task
        (with-held loads after m.search.lanes lane None h.same_lanes cleared ∙ sym (ap (λ (s : Search). s.lanes) goes.2))
        (subst (λ (ws : List Worked). All (λ (x : Worked). closes x.fix x.fact x.point) ws) (sym (ap (λ (s : Search). s.worked) goes.2)) h.all_closed)
        (subst (λ (xs : List Stuck). All S xs) (sym (ap (λ (s : Search). s.stuck) goes.2)) (All-append S m.search.stuck (w ∷ []) h.all_stopped (All-cons S w [] (subst (λ (x : Fix). stops x cause) n.0 f.2) (All-nil S))))

pub closed-answer : (p : Task) (s t : Search) (lane : ℕ) (e : Ended) → Goes p s (change_of lane e) t → IsAnsweredBy p s (Event.Finish lane) Outcome.Closed t
closed-answer p s t lane (Ended.Worked fact point) goes = inl (works lane fact point, refl, goes, refl)
closed-answer p s t lane (Ended.Stuck cause) goes = inl (sticks lane cause, refl, goes, refl)
