-- A work and the machine, lane by lane: what the one holds, the other holds.
use Rattle.std.proofs.Common.{◌≡◌, ◌↔◌, ◌⊎◌, ℕ, zero, suc, ◌+◌, ◌-◌, ◌≤◌, ◌<◌, Bool, true, false, true≢false, IsTrue, List, [], ◌∷◌, ◌++◌, length, get_or, map, set, sym, ◌∙◌, ap, subst, refl, arith, Option, Some, None, All, inl, inr}
use Rattle.std.proofs.lemmas.List.{length-map}
use Rattle.std.proofs.lemmas.List.Elements.{All-cons, All-nil, All-append}
use Rattle.sg_model.specs.Sums.{nth}
use Rattle.sg_model.specs.Games.{Game}
use Rattle.sg_commit.specs.Committed.{Committed}
use Rattle.sg_tree.specs.declared.fact.Fact.{Fact}
use Rattle.sg_tree.specs.declared.fix.Fix.{Fix}
use Rattle.sg_tree.specs.declared.report.Cause.{Cause}
use Rattle.sg_tree.specs.declared.worked.Worked.{Worked}
use Rattle.sg_search.specs.declared.held.Held.{Held}
use Rattle.sg_search.specs.declared.held.Stuck.{Stuck}
use Rattle.sg_search.specs.declared.event.Event.{Event}
use Rattle.sg_search.specs.declared.event.Outcome.{Outcome}
use Rattle.sg_search.specs.Searches.{Task, Search, lane_at}
use Rattle.sg_search.specs.Changes.{Change, takes, branches, moves, ends, works, sticks, Goes, Holds, IsFree, begun}
use Rattle.sg_search.specs.Events.{IsEnabled}
use Rattle.sg_search.proofs.Told.{enabled_means}
use Rattle.sg_work.specs.Works.{AreSameTests, IsLoaded, IsUnloaded, Load, begun_load, held_by, load_at, with_load}
use Rattle.sg_lanes.specs.Machines.{IsAnsweredBy, IsTogether, Machine}
use Rattle.sg_lanes.proofs.Lanewise.{get-any, nth-at}

-- ---- lanes

get-held : (loads : List (Option Load)) (k : ℕ) → get_or (map held_by loads) k None ≡ held_by (get_or loads k None)
get-held [] k = refl
get-held (l ∷ loads) zero = refl
get-held (l ∷ loads) (suc k) = get-held loads k

pub nth-held : (loads : List (Option Load)) (lane : ℕ) → nth (map held_by loads) lane None ≡ held_by (load_at loads lane)
nth-held loads zero = refl
nth-held loads (suc k) = get-held loads k

map-set : {X Y : Type 0} (f : X → Y) (xs : List X) (i : ℕ) (x : X) → map f (set xs i x) ≡ set (map f xs) i (f x)
map-set f [] i x = refl
map-set f (z ∷ xs) zero x = refl
map-set {X} {Y} f (z ∷ xs) (suc i) x = ap (λ (ys : List Y). f z ∷ ys) (map-set f xs i x)

set-same : {X : Type 0} (xs : List X) (i : ℕ) (x : X) → i < length xs → get_or xs i x ≡ x → set xs i x ≡ xs
set-same [] i x lt e = refl
set-same {X} (z ∷ xs) zero x lt e = ap (λ (w : X). w ∷ xs) (sym e)
set-same {X} (z ∷ xs) (suc i) x lt e = ap (λ (ys : List X). z ∷ ys) (set-same xs i x (omega (arith, lt)) e)

-- a load of a lane, as the machine holds it
load-of : (o : Option Load) (h : Held) → held_by o ≡ Some h → (l : Load) × (o ≡ Some l) × (l.node ≡ h.node) × (l.ended ≡ h.ended)
load-of None h e = absurd (none-some e)
  where
    none-some : {x : Held} → None ≡ Some x → ⊥
    none-some e = cc
load-of (Some l) h e = (l, refl, ap (λ (v : Held). v.node) (inside e), ap (λ (v : Held). v.ended) (inside e))
  where
    inside : {v w : Held} → Some v ≡ Some w → v ≡ w
    inside e = cc

length-held : (loads : List (Option Load)) (lanes : List (Option Held)) → map held_by loads ≡ lanes → length loads ≡ length lanes
length-held loads lanes e = sym (length-map loads held_by) ∙ ap (λ (xs : List (Option Held)). length xs) e

pub loaded : (loads : List (Option Load)) (s : Search) (lane : ℕ) (node : Fix) (ended : Bool) → map held_by loads ≡ s.lanes → Holds s lane node ended → IsLoaded loads lane ended
loaded loads s lane node ended e h =
    let q = load-of (load_at loads lane) (record { node = node; ended = ended }) (sym (nth-held loads lane) ∙ ap (λ (xs : List (Option Held)). nth xs lane None) e ∙ h.held) in
    let long = length-held loads s.lanes e in
    let r = h.in_range in
    record { load = q.0; from_one = h.from_one; in_range = omega (arith, long, r); held = q.1; state = q.3 }

none-load : (o : Option Load) → held_by o ≡ None → o ≡ None
none-load None e = refl
none-load (Some l) e = absurd (none-some (sym e))
  where
    none-some : {x : Held} → None ≡ Some x → ⊥
    none-some e = cc

pub unloaded : (loads : List (Option Load)) (s : Search) (lane : ℕ) → map held_by loads ≡ s.lanes → IsFree s lane → IsUnloaded loads lane
unloaded loads s lane e h =
    let long = length-held loads s.lanes e in
    let r = h.in_range in
    record {
      from_one = h.from_one;
      in_range = omega (arith, long, r);
      nothing = none-load (load_at loads lane) (sym (nth-held loads lane) ∙ ap (λ (xs : List (Option Held)). nth xs lane None) e ∙ h.nothing);
    }

-- a lane is given another load
pub with-held : (loads after : List (Option Load)) (lanes : List (Option Held)) (lane : ℕ) (o : Option Load) → map held_by loads ≡ lanes → after ≡ with_load loads lane o → map held_by after ≡ set lanes (lane - 1) (held_by o)
with-held loads after lanes lane o e f =
    ap (λ (xs : List (Option Load)). map held_by xs) f ∙ map-set held_by loads (lane - 1) o ∙ ap (λ (xs : List (Option Held)). set xs (lane - 1) (held_by o)) e

-- the node that a lane holds is the one of its load
pub load-node : (loads : List (Option Load)) (s : Search) (lane : ℕ) (node : Fix) (ended : Bool) (l : Load) → map held_by loads ≡ s.lanes → Holds s lane node ended → load_at loads lane ≡ Some l → (l.node ≡ node) × (l.ended ≡ ended)
load-node loads s lane node ended l e h is =
    let q = load-of (load_at loads lane) (record { node = node; ended = ended }) (sym (nth-held loads lane) ∙ ap (λ (xs : List (Option Held)). nth xs lane None) e ∙ h.held) in
    let same : l ≡ q.0 = inside (sym is ∙ q.1) in (ap (λ (v : Load). v.node) same ∙ q.2, ap (λ (v : Load). v.ended) same ∙ q.3)
  where
    inside : {v w : Load} → Some v ≡ Some w → v ≡ w
    inside e = cc

-- a lane whose load makes a move holds what it held
pub moved-lanes : (loads after : List (Option Load)) (s : Search) (lane : ℕ) (node : Fix) (l : Load) → map held_by loads ≡ s.lanes → Holds s lane node false → load_at loads lane ≡ Some l
    → after ≡ with_load loads lane (Some (record { node = l.node; moves = l.moves + 1; ended = l.ended })) → map held_by after ≡ s.lanes
moved-lanes loads after s lane node l e h is f =
    let low = h.from_one in
    let high = h.in_range in
    let n = load-node loads s lane node false l e h is in
    let as_held : Some (record { node = l.node; ended = l.ended }) ≡ lane_at s lane =
    ap (λ (x : Fix). Some (record { node = x; ended = l.ended })) n.0 ∙ ap (λ (b : Bool). Some (record { node = node; ended = b })) n.1 ∙ sym h.held in
    with-held loads after s.lanes lane (Some (record { node = l.node; moves = l.moves + 1; ended = l.ended })) e f
    ∙ ap (λ (o : Option Held). set s.lanes (lane - 1) o) as_held
    ∙ set-same s.lanes (lane - 1) (lane_at s lane) (omega (arith, low, high)) (sym (nth-at s.lanes lane None (lane_at s lane) low high))

-- ---- the tests

all-closed : (a b : Fix → Fact → Option Committed → Type 0) (ws : List Worked) → ((node : Fix) (fact : Fact) (point : Option Committed) → a node fact point ↔ b node fact point)
    → All (λ (w : Worked). a w.fix w.fact w.point) ws → All (λ (w : Worked). b w.fix w.fact w.point) ws
all-closed a b ws alike h i d lt = (alike (get_or ws i d).fix (get_or ws i d).fact (get_or ws i d).point).0 (h i d lt)

all-stopped : (a b : Fix → Cause → Type 0) (xs : List Stuck) → ((node : Fix) (cause : Cause) → a node cause ↔ b node cause) → All (λ (x : Stuck). a x.node x.cause) xs → All (λ (x : Stuck). b x.node x.cause) xs
all-stopped a b xs alike h i d lt = (alike (get_or xs i d).node (get_or xs i d).cause).0 (h i d lt)

-- a work and the machine stay together where the work's game and tests stay and the lanes are again alike
pub together-after : (g g2 : Game) (loads after : List (Option Load)) (stop1 stop2 : Fix → ℕ → Type 0) (closes closes2 : Fix → Fact → Option Committed → Type 0) (stops stops2 : Fix → Cause → Type 0) (m : Machine) (t : Machine)
    → IsTogether g loads closes stops m → g2 ≡ g → AreSameTests stop1 closes stops stop2 closes2 stops2 → t.task ≡ m.task → map held_by after ≡ t.search.lanes
    → All (λ (w : Worked). closes w.fix w.fact w.point) t.search.worked → All (λ (x : Stuck). stops x.node x.cause) t.search.stuck → IsTogether g2 after closes2 stops2 t
together-after g g2 loads after stop1 stop2 closes closes2 stops stops2 m t h same tests task lanes worked stuck = record {
  same_game = same ∙ h.same_game ∙ ap (λ (p : Task). p.game) (sym task);
  same_lanes = lanes;
  all_closed = all-closed closes closes2 t.search.worked tests.close_alike worked;
  all_stopped = all-stopped stops stops2 t.search.stuck tests.stop_alike stuck;
}

-- ---- answers

-- a lane that doesn't hold a node that goes on has no turn, and one that doesn't hold one that has ended no finish
pub idle-turn : (p : Task) (s : Search) (lane : ℕ) → ((node : Fix) × Holds s lane node false → ⊥) → IsAnsweredBy p s (Event.Turn lane) Outcome.Idle s
idle-turn p s lane none = inr (λ e. none ((enabled_means p s lane).turn.0 e), refl, refl)

pub idle-finish : (p : Task) (s : Search) (lane : ℕ) → ((node : Fix) × Holds s lane node true → ⊥) → IsAnsweredBy p s (Event.Finish lane) Outcome.Idle s
idle-finish p s lane none = inr (λ e. none ((enabled_means p s lane).finish.0 e), refl, refl)

pub moved-turn : (p : Task) (s : Search) (lane : ℕ) (node : Fix) → Holds s lane node false → IsAnsweredBy p s (Event.Turn lane) Outcome.Moved s
moved-turn p s lane node h = inl (moves lane, refl, (node, h, refl), refl)

pub ended-turn : (p : Task) (s t : Search) (lane : ℕ) → Goes p s (ends lane) t → IsAnsweredBy p s (Event.Turn lane) Outcome.Ended t
ended-turn p s t lane goes = inl (ends lane, refl, goes, refl)

-- what the test of a lane says
pub is-held : (s : Search) (lane : ℕ) (ended b : Bool) → b ≡ true → (IsTrue b → (node : Fix) × Holds s lane node ended) × ((node : Fix) × Holds s lane node ended → IsTrue b) → (node : Fix) × Holds s lane node ended
is-held s lane ended b e h = h.0 e

pub not-held : (s : Search) (lane : ℕ) (ended b : Bool) → b ≡ false → (IsTrue b → (node : Fix) × Holds s lane node ended) × ((node : Fix) × Holds s lane node ended → IsTrue b) → (node : Fix) × Holds s lane node ended → ⊥
not-held s lane ended b e h held = true≢false (sym (h.1 held) ∙ e)

-- a load that hasn't ended is one of a lane that holds a node that goes on
going-load : (o : Option Held) (l : Load) → o ≡ held_by (Some l) → l.ended ≡ false → (node : Fix) × (o ≡ Some (record { node = node; ended = false }))
going-load o l e f = (l.node, e ∙ ap (λ (b : Bool). Some (record { node = l.node; ended = b })) f)

none-load-some : {x : Load} → None ≡ Some x → ⊥
none-load-some e = cc

get-below : (xs : List (Option Load)) (k : ℕ) (l : Load) → get_or xs k None ≡ Some l → k < length xs
get-below [] k l q = absurd (none-load-some q)
get-below (x ∷ xs) zero l q = omega arith
get-below (x ∷ xs) (suc k) l q = let b = get-below xs k l q in omega (arith, b)

load-range : (xs : List (Option Load)) (n : ℕ) (l : Load) → load_at xs n ≡ Some l → (1 ≤ n) × (n ≤ length xs)
load-range xs zero l q = absurd (none-load-some q)
load-range xs (suc k) l q = let b = get-below xs k l q in (omega arith, omega (arith, b))

pub load-going : (loads : List (Option Load)) (s : Search) (lane : ℕ) (l : Load) → map held_by loads ≡ s.lanes → load_at loads lane ≡ Some l → l.ended ≡ false → (node : Fix) × Holds s lane node false
load-going loads s lane l e is f =
    let o = sym (ap (λ (xs : List (Option Held)). nth xs lane None) e) ∙ nth-held loads lane ∙ ap held_by is in
    let g = going-load (lane_at s lane) l o f in
    let r = load-range loads lane l is in
    let long = length-held loads s.lanes e in
    let high = r.1 in
    (g.0, record { from_one = r.0; in_range = omega (arith, high, long); held = g.1 })

-- ---- a turn

pub moved-together : (g g2 : Game) (loads after : List (Option Load)) (stop1 stop2 : Fix → ℕ → Type 0) (closes closes2 : Fix → Fact → Option Committed → Type 0) (stops stops2 : Fix → Cause → Type 0) (m : Machine) (lane : ℕ)
    → IsTogether g loads closes stops m → g2 ≡ g → AreSameTests stop1 closes stops stop2 closes2 stops2 → (node : Fix) × Holds m.search lane node false → (l : Load) → load_at loads lane ≡ Some l
    → after ≡ with_load loads lane (Some (record { node = l.node; moves = l.moves + 1; ended = l.ended })) → IsTogether g2 after closes2 stops2 m
moved-together g g2 loads after stop1 stop2 closes closes2 stops stops2 m lane h same tests held l is e =
    together-after g g2 loads after stop1 stop2 closes closes2 stops stops2 m m h same tests refl (moved-lanes loads after m.search lane held.0 l h.same_lanes held.1 is e) h.all_closed h.all_stopped

-- the lanes after a change of lanes, seen in its state
pub ended-together : (g g2 : Game) (loads after : List (Option Load)) (stop1 stop2 : Fix → ℕ → Type 0) (closes closes2 : Fix → Fact → Option Committed → Type 0) (stops stops2 : Fix → Cause → Type 0) (m t : Machine) (lane : ℕ)
    → IsTogether g loads closes stops m → g2 ≡ g → AreSameTests stop1 closes stops stop2 closes2 stops2 → t.task ≡ m.task → Goes m.task m.search (ends lane) t.search → (l : Load) → load_at loads lane ≡ Some l
    → after ≡ with_load loads lane (Some (record { node = l.node; moves = l.moves; ended = true })) → IsTogether g2 after closes2 stops2 t
ended-together g g2 loads after stop1 stop2 closes closes2 stops stops2 m t lane h same tests task goes l is e =
    let n = load-node loads m.search lane goes.0 false l h.same_lanes goes.1 is in
    together-after g g2 loads after stop1 stop2 closes closes2 stops stops2 m t h same tests task
    (with-held loads after m.search.lanes lane (Some (record { node = l.node; moves = l.moves; ended = true })) h.same_lanes e
    ∙ ap (λ (x : Fix). set m.search.lanes (lane - 1) (Some (record { node = x; ended = true }))) n.0
    ∙ sym (ap (λ (s : Search). s.lanes) goes.2))
    (subst (λ (ws : List Worked). All (λ (w : Worked). closes w.fix w.fact w.point) ws) (sym (ap (λ (s : Search). s.worked) goes.2)) h.all_closed)
    (subst (λ (xs : List Stuck). All (λ (x : Stuck). stops x.node x.cause) xs) (sym (ap (λ (s : Search). s.stuck) goes.2)) h.all_stopped)
