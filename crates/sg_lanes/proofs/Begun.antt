-- A lane begins a node: the work and the machine stay together, and the answer is the event's.
use Rattle.std.proofs.Common.{◌≡◌, ◌↔◌, ◌⊎◌, ℕ, zero, suc, ◌+◌, ◌-◌, ◌≤◌, ◌<◌, Bool, true, false, List, [], ◌∷◌, ◌++◌, length, map, set, sym, ◌∙◌, ap, subst, refl, arith, Option, Some, None, All, inl, inr}
use Rattle.sg_model.specs.Games.{Game}
use Rattle.sg_frac.specs.Fractions.{Fraction}
use Rattle.sg_commit.specs.Committed.{Committed}
use Rattle.sg_tree.specs.declared.fact.Fact.{Fact}
use Rattle.sg_tree.specs.declared.fix.Fix.{Fix}
use Rattle.sg_tree.specs.declared.report.Cause.{Cause}
use Rattle.sg_tree.specs.declared.worked.Worked.{Worked}
use Rattle.sg_bounds.specs.Regions.{prefix, IsNode}
use Rattle.sg_search.specs.declared.held.Held.{Held}
use Rattle.sg_search.specs.declared.held.Stuck.{Stuck}
use Rattle.sg_search.specs.declared.event.Event.{Event}
use Rattle.sg_search.specs.declared.event.Outcome.{Outcome}
use Rattle.sg_search.specs.declared.event.Ready.{Ready}
use Rattle.sg_search.specs.Searches.{Task, Search}
use Rattle.sg_search.specs.Bounding.{own_bound}
use Rattle.sg_search.specs.Changes.{Change, takes, branches, works, sticks, Goes, Holds, MayBegin, MayTake, begun, first_part}
use Rattle.sg_search.specs.Events.{Allows, IsChoice, IsEnabled, MayBranch, Tells}
use Rattle.sg_search.proofs.Told.{enabled_means}
use Rattle.sg_lanes.specs.declared.choose.Choice.{Choice}
use Rattle.sg_lanes.specs.declared.choose.Choice.TheVariants.{Take, Branch}
use Rattle.sg_lanes.specs.Bounds.{StandsFor}
use Rattle.sg_lanes.specs.Choices.{IsChosen}
use Rattle.sg_work.specs.Works.{AreSameTests, IsLoaded, IsUnloaded, Load, begun_load, held_by, load_at, with_load}
use Rattle.sg_lanes.specs.Machines.{IsAnsweredBy, IsNumber, IsTogether, Machine}
use Rattle.sg_lanes.proofs.Joined.{together-after, unloaded, with-held}

-- what a number below the count of choices gives
pub begin-idle : (p : Task) (s : Search) (lane n k : ℕ) (r : Ready) → Tells p s lane r → ((l m : ℕ) → (m < k) ↔ Allows r (Event.Begin l m)) → k ≤ n → IsAnsweredBy p s (Event.Begin lane n) Outcome.Idle s
begin-idle p s lane n k r told count le = inr (λ e. let lt = (count lane n).1 ((told.each (Event.Begin lane n) refl).0 e) in omega (arith, lt, le), refl, refl)

pub begin-may : (p : Task) (s : Search) (lane n k : ℕ) (r : Ready) → Tells p s lane r → ((l m : ℕ) → (m < k) ↔ Allows r (Event.Begin l m)) → n < k → MayBegin p s lane
begin-may p s lane n k r told count lt = (((enabled_means p s lane).begin n).0 ((told.each (Event.Begin lane n) refl).1 ((count lane n).0 lt))).0

pub begin-number : (p : Task) (s : Search) (lane n k : ℕ) (r : Ready) → Tells p s lane r → ((l m : ℕ) → (m < k) ↔ Allows r (Event.Begin l m)) → n < k → IsNumber p s n
begin-number p s lane n k r told count lt = by r told ((count lane n).0 lt)
  where
    by : (r : Ready) → Tells p s lane r → Allows r (Event.Begin lane n) → IsNumber p s n
    by (Ready.Begin c) t a = record { lane = lane; count = c; told = t; below = a }
    by Ready.Nothing t a = absurd a
    by Ready.Turn t a = absurd a
    by Ready.Finish t a = absurd a

-- a choice that is known to be a node to take, or a prefix to split
pub chosen-take : (p : Task) (s : Search) (n : ℕ) (c : Choice) (node : Fix) → IsChosen p s n c → c ≡ Take node → IsChoice p s n node × MayTake p s node
chosen-take p s n c node h e = subst (IsChosen p s n) e h

pub chosen-branch : (p : Task) (s : Search) (n : ℕ) (c : Choice) (acts : List ℕ) (bound : Fraction) → IsChosen p s n c → c ≡ Branch acts bound → IsChoice p s n (prefix acts) × MayBranch p s (prefix acts) × StandsFor (Some bound) (own_bound p.game s acts)
chosen-branch p s n c acts bound h e = subst (IsChosen p s n) e h

pub took-answer : (p : Task) (s t : Search) (lane n : ℕ) (node held : Fix) → IsChoice p s n node × MayTake p s node → held ≡ node → Goes p s (takes lane held) t → IsAnsweredBy p s (Event.Begin lane n) (Outcome.Took node) t
took-answer p s t lane n node held choice e goes = inl (takes lane node, (refl, choice.0), subst (λ (x : Fix). Goes p s (takes lane x) t) e goes, refl)

pub branch-answer : (p : Task) (s t : Search) (lane n : ℕ) (acts : List ℕ) (node : Fix) → IsChoice p s n (prefix acts) → node ≡ first_part acts → Goes p s (branches lane acts) t → IsAnsweredBy p s (Event.Begin lane n) (Outcome.Took node) t
branch-answer p s t lane n acts node choice e goes = inl (branches lane acts, (refl, choice), goes, ap (λ (x : Fix). Outcome.Took x) e)

-- the lane of a split holds its first part
pub branch-loads : (loads after : List (Option Load)) (lane : ℕ) (acts : List ℕ) (node : Fix) → after ≡ with_load loads lane (begun_load (first_part acts)) → node ≡ first_part acts → after ≡ with_load loads lane (begun_load node)
branch-loads loads after lane acts node e same = e ∙ ap (λ (x : Fix). with_load loads lane (begun_load x)) (sym same)

module _ (g g2 : Game) (loads after : List (Option Load)) (stop1 stop2 : Fix → ℕ → Type 0) (closes closes2 : Fix → Fact → Option Committed → Type 0) (stops stops2 : Fix → Cause → Type 0) (m t : Machine) (lane : ℕ)
    (h : IsTogether g loads closes stops m) (same_game : g2 ≡ g) (tests : AreSameTests stop1 closes stops stop2 closes2 stops2) (task : t.task ≡ m.task) where
  pub took-together : (node held : Fix) → held ≡ node → Goes m.task m.search (takes lane held) t.search → after ≡ with_load loads lane (begun_load node) → IsTogether g2 after closes2 stops2 t
  took-together node held same goes e =
      together-after g g2 loads after stop1 stop2 closes closes2 stops stops2 m t h same_game tests task
      (with-held loads after m.search.lanes lane (begun_load node) h.same_lanes e ∙ ap (λ (x : Fix). set m.search.lanes (lane - 1) (begun x)) (sym same) ∙ sym (ap (λ (s : Search). s.lanes) goes.2))
      (subst (λ (ws : List Worked). All (λ (w : Worked). closes w.fix w.fact w.point) ws) (sym (ap (λ (s : Search). s.worked) goes.2)) h.all_closed)
      (subst (λ (xs : List Stuck). All (λ (x : Stuck). stops x.node x.cause) xs) (sym (ap (λ (s : Search). s.stuck) goes.2)) h.all_stopped)

  pub branch-together : (acts : List ℕ) → Goes m.task m.search (branches lane acts) t.search → after ≡ with_load loads lane (begun_load (first_part acts)) → IsTogether g2 after closes2 stops2 t
  branch-together acts goes e =
      together-after g g2 loads after stop1 stop2 closes closes2 stops stops2 m t h same_game tests task
      (with-held loads after m.search.lanes lane (begun_load (first_part acts)) h.same_lanes e ∙ sym (ap (λ (s : Search). s.lanes) goes.4))
      (subst (λ (ws : List Worked). All (λ (w : Worked). closes w.fix w.fact w.point) ws) (sym (ap (λ (s : Search). s.worked) goes.4)) h.all_closed)
      (subst (λ (xs : List Stuck). All (λ (x : Stuck). stops x.node x.cause) xs) (sym (ap (λ (s : Search). s.stuck) goes.4)) h.all_stopped)
