-- What the machine keeps stays right where a lane takes a node, its program ends, or its node is stuck.
use Rattle.std.proofs.Common.{◌≡◌, ◌≢◌, ◌⊎◌, ◌↔◌, ℕ, zero, suc, ◌+◌, ◌-◌, ◌≤◌, ◌<◌, Bool, true, false, true≢false, cond, List, [], ◌∷◌, ◌++◌, map, length, count_by, set, sym, ◌∙◌, ap, subst, refl, arith, Option, Some, None, inl, inr, ⊎_elim, Contains, All}
use Rattle.std.specs.Prelude.{filter, not}
use Rattle.std.proofs.lemmas.Bool.{cases_Bool}
use Rattle.sg_model.specs.Games.{Game}
use Rattle.sg_tree.specs.declared.fix.Fix.{Fix}
use Rattle.sg_tree.specs.declared.report.Cause.{Cause}
use Rattle.sg_bounds.specs.Regions.{prefix}
use Rattle.sg_search.specs.declared.held.Held.{Held}
use Rattle.sg_search.specs.declared.held.Stuck.{Stuck}
use Rattle.sg_search.specs.Searches.{Task, Search, first_search, same, stuck_count, taken_count, worked_count, IsPartOf, IsCapNode}
use Rattle.sg_search.specs.Changes.{Change, takes, ends, sticks, Goes, Holds, MayBegin, MaySplit, MayTake, Runs, begun, with_lane}
use Rattle.sg_search.specs.Events.{AreChoices}
use Rattle.sg_search.proofs.Placed.{held-ended, held-let_go, one_if, stuck-more, taken-begun}
use Rattle.sg_search.proofs.Listing.{choices-same}
use Rattle.sg_lanes.specs.declared.ripe.Ripe.{Ripe}
use Rattle.sg_lanes.specs.Frontiers.{Frontier, IsFrontier, IsRipe}
use Rattle.sg_lanes.proofs.Sifted.{choices-pass, node-other, other-node}

-- one change more
pub runs-more : (p : Task) (cs : List Change) (s t : Search) (c : Change) (u : Search) → Runs p s cs t → Goes p t c u → Runs p s (cs ++ (c ∷ [])) u
runs-more p [] s t c u run goes = (u, subst (λ (x : Search). Goes p x c u) (sym run) goes, refl)
runs-more p (d ∷ ds) s t c u run goes = (run.0, run.1, runs-more p ds run.0 t c u run.2 goes)

-- ---- where only lanes and stuck nodes change

abbrev changed : Search → List (Option Held) → List Stuck → Search
changed s lanes stuck = record { lanes = lanes; splits = s.splits; worked = s.worked; stuck = stuck }

split-alike : (p : Task) (s : Search) (lanes : List (Option Held)) (stuck : List Stuck) (acts : List ℕ) → MaySplit p s acts ↔ MaySplit p (changed s lanes stuck) acts
split-alike p s lanes stuck acts = (
  λ m. record { some = m.some; worked = m.worked; unsplit = m.unsplit; short = m.short; over = m.over },
  λ m. record { some = m.some; worked = m.worked; unsplit = m.unsplit; short = m.short; over = m.over },
)

ripe-alike : (p : Task) (s : Search) (lanes : List (Option Held)) (stuck : List Stuck) (xs : List Fix) → AreChoices (IsRipe p s) xs → AreChoices (IsRipe p (changed s lanes stuck)) xs
ripe-alike p s lanes stuck xs c = choices-same (IsRipe p s) (IsRipe p (changed s lanes stuck)) xs (λ y. (
  λ r. (r.0, r.1, (split-alike p s lanes stuck r.0).0 r.2),
  λ r. (r.0, r.1, (split-alike p s lanes stuck r.0).1 r.2),
)) c

-- the same for the nodes of which it is asked that they are not taken
pub fresh-alike : (A : Fix → Type 0) (s t : Search) (xs : List Fix) → ((x : Fix) → taken_count t x ≡ taken_count s x) → AreChoices (λ x. A x × (taken_count s x ≡ 0)) xs → AreChoices (λ x. A x × (taken_count t x ≡ 0)) xs
fresh-alike A s t xs e c = choices-same (λ x. A x × (taken_count s x ≡ 0)) (λ x. A x × (taken_count t x ≡ 0)) xs (λ y. (λ h. (h.0, e y ∙ h.1), λ h. (h.0, sym (e y) ∙ h.1))) c

-- and where one of them is
one-if-none : (n m : ℕ) (b : Bool) → n ≡ m + one_if b → n ≡ 0 → (m ≡ 0) × (b ≡ false)
one-if-none n m true e z = absurd (omega (arith, e, z))
one-if-none n m false e z = (omega (arith, e, z), refl)

pub fresh-less : (A : Fix → Type 0) (f h : Fix → ℕ) (node : Fix) (xs : List Fix) → ((x : Fix) → h x ≡ f x + one_if (same x node)) → AreChoices (λ x. A x × (f x ≡ 0)) xs
    → AreChoices (λ x. A x × (h x ≡ 0)) (filter (λ y. not (same node y)) xs)
fresh-less A f h node xs e c = choices-same (λ x. (A x × (f x ≡ 0)) × (not (same node x) ≡ true)) (λ x. A x × (h x ≡ 0)) (filter (λ y. not (same node y)) xs) (λ y. (
  λ k. let q : one_if (same y node) ≡ 0 = ap one_if (other-node node y k.1) in let z = k.0.1 in let r = e y in (k.0.0, omega (arith, q, z, r)),
  λ k. let z = one-if-none (h y) (f y) (same y node) (e y) k.1 in ((k.0, z.0), node-other node y z.1),
)) (choices-pass (λ x. A x × (f x ≡ 0)) (λ y. not (same node y)) xs c)

-- a lane takes a node
pub kept-taken : (p : Task) (s : Search) (f : Frontier) (lane : ℕ) (node : Fix) → IsFrontier p s f → MayBegin p s lane → MayTake p s node
    → IsFrontier p (with_lane s lane (begun node)) (record f { parts = filter (λ y. not (same node y)) f.parts; lone = filter (λ y. not (same node y)) f.lone })
kept-taken p s f lane node h begin take =
    let t : Search = with_lane s lane (begun node) in
    let e : (x : Fix) → taken_count t x ≡ taken_count s x + one_if (same x node) = λ x. taken-begun s lane node x begin.free in
    record {
      changes = h.changes ++ (takes lane node ∷ []);
      runs = runs-more p h.changes (first_search p) s (takes lane node) t h.runs (begin, take, refl);
      peopled = h.peopled;
      few = h.few;
      first = h.first;
      root = h.root;
      shift = h.shift;
      results = h.results;
      committed = h.committed;
      best = h.best;
      value = h.value;
      caps = h.caps;
      front = h.front;
      last = h.last;
      splits = h.splits;
      group = h.group;
      parts = fresh-less (IsPartOf p.game h.last) (taken_count s) (taken_count t) node f.parts e h.parts;
      lone = fresh-less (IsCapNode p.game) (taken_count s) (taken_count t) node f.lone e h.lone;
      tops = h.tops;
      undone = h.undone;
      ripe = ripe-alike p s (set s.lanes (lane - 1) (begun node)) s.stuck (map (λ (r : Ripe). r.node) f.ripe) h.ripe;
      bounds = h.bounds;
    }

-- its program ends
pub kept-ended : (p : Task) (s : Search) (f : Frontier) (lane : ℕ) (node : Fix) → IsFrontier p s f → Holds s lane node false → IsFrontier p (with_lane s lane (Some (record { node = node; ended = true }))) f
kept-ended p s f lane node h holds =
    let t : Search = with_lane s lane (Some (record { node = node; ended = true })) in
    let e : (x : Fix) → taken_count t x ≡ taken_count s x = λ x. let q = held-ended s lane node x false true holds in omega (arith, q) in
    record {
      changes = h.changes ++ (ends lane ∷ []);
      runs = runs-more p h.changes (first_search p) s (ends lane) t h.runs (node, holds, refl);
      peopled = h.peopled;
      few = h.few;
      first = h.first;
      root = h.root;
      shift = h.shift;
      results = h.results;
      committed = h.committed;
      best = h.best;
      value = h.value;
      caps = h.caps;
      front = h.front;
      last = h.last;
      splits = h.splits;
      group = h.group;
      parts = fresh-alike (IsPartOf p.game h.last) s t f.parts e h.parts;
      lone = fresh-alike (IsCapNode p.game) s t f.lone e h.lone;
      tops = h.tops;
      undone = h.undone;
      ripe = ripe-alike p s (set s.lanes (lane - 1) (Some (record { node = node; ended = true }))) s.stuck (map (λ (r : Ripe). r.node) f.ripe) h.ripe;
      bounds = h.bounds;
    }

-- its node is stuck
pub kept-stuck : (p : Task) (s : Search) (f : Frontier) (lane : ℕ) (node : Fix) (cause : Cause) → IsFrontier p s f → Holds s lane node true
    → IsFrontier p (record (with_lane s lane None) { stuck = s.stuck ++ (record { node = node; cause = cause } ∷ []) }) (record f { undone = filter (λ y. not (same node y)) f.undone })
kept-stuck p s f lane node cause h holds =
    let w : Stuck = record { node = node; cause = cause } in
    let t : Search = record (with_lane s lane None) { stuck = s.stuck ++ (w ∷ []) } in
    let e : (x : Fix) → taken_count t x ≡ taken_count s x = λ x. let q = held-let_go s lane node x true holds in let r = stuck-more s w x in omega (arith, q, r) in
    record {
      changes = h.changes ++ (sticks lane cause ∷ []);
      runs = runs-more p h.changes (first_search p) s (sticks lane cause) t h.runs (node, holds, refl);
      peopled = h.peopled;
      few = h.few;
      first = h.first;
      root = h.root;
      shift = h.shift;
      results = h.results;
      committed = h.committed;
      best = h.best;
      value = h.value;
      caps = h.caps;
      front = h.front;
      last = h.last;
      splits = h.splits;
      group = h.group;
      parts = fresh-alike (IsPartOf p.game h.last) s t f.parts e h.parts;
      lone = fresh-alike (IsCapNode p.game) s t f.lone e h.lone;
      tops = h.tops;
      undone = fresh-less (IsCapNode p.game) (λ x. worked_count s x + stuck_count s x) (λ x. worked_count t x + stuck_count t x) node f.undone (λ x. let r = stuck-more s w x in omega (arith, r)) h.undone;
      ripe = ripe-alike p s (set s.lanes (lane - 1) None) (s.stuck ++ (w ∷ [])) (map (λ (r : Ripe). r.node) f.ripe) h.ripe;
      bounds = h.bounds;
    }
