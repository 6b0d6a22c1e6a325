-- One event more: the turns that are due, and how many moves are made.
use Rattle.std.proofs.Common.{◌≡◌, ◌≢◌, ◌∙◌, ℕ, zero, suc, ◌+◌, ◌-◌, ◌<◌, ◌≤◌, nat_eq, Bool, true, false, List, [], ◌∷◌, ◌++◌, length, set, sym, ap, subst, refl, arith, Option, Some, None}
use Rattle.std.specs.Prelude.{◌⊎◌, if◌then◌else◌, fold}
use Rattle.std.proofs.Common.{inl, inr}
use Rattle.std.proofs.lemmas.Bool.{cases_Bool, eqb-true, false_from_ne_true, true≢false}
use Rattle.std.proofs.lemmas.List.{get_or-set_same, get_or-set_other}
use Rattle.std.proofs.lemmas.List.Sums.{fold-append}
use Rattle.sg_model.specs.Sums.{nth}
use Rattle.sg_tree.specs.declared.fix.Fix.{Fix}
use Rattle.sg_search.specs.declared.held.Held.{Held}
use Rattle.sg_search.specs.declared.event.Event.{Event}
use Rattle.sg_search.specs.Searches.{Search, Task}
use Rattle.sg_search.specs.Changes.{Change, Goes, Holds, branches, ends, moves, sticks, takes, with_lane, works}
use Rattle.sg_search.specs.Events.{IsOf, event_outcome, lane_of}
use Rattle.sg_programs.specs.NodeTests.{Method}
use Rattle.sg_work.specs.Works.{Load, load_at, with_load}
use Rattle.sg_lanes.specs.Machines.{LeavesLoads}
use Rattle.sg_selection.specs.Selections.{SelectionState}
use Rattle.sg_selection.specs.SelectedRuns.{MadeEvent, SelectedRuns}
use Rattle.sg_solve.specs.Searching.{AreTurnsDue, IsDueTurn, moves_after, moves_by, moves_made}

-- ---- a change leaves one state

abbrev held-node : Option Held → Fix → Fix
held-node None d = d
held-node (Some h) d = h.node

held-one : (s : Search) (lane : ℕ) (a c : Fix) (e : Bool) → Holds s lane a e → Holds s lane c e → a ≡ c
held-one s lane a c e h k = ap (λ o. held-node o a) (sym h.held ∙ k.held)

pub goes-one : (p : Task) (s : Search) (c : Change) (t u : Search) → Goes p s c t → Goes p s c u → t ≡ u
goes-one p s (takes lane node) t u a b = a.2 ∙ sym b.2
goes-one p s (branches lane acts) t u a b = a.4 ∙ sym b.4
goes-one p s (moves lane) t u a b = a.2 ∙ sym b.2
goes-one p s (ends lane) t u a b = a.2 ∙ ap (λ (x : Fix). with_lane s lane (Some (record { node = x; ended = true }))) (held-one s lane a.0 b.0 false a.1 b.1) ∙ sym b.2
goes-one p s (works lane fact point) t u a b =
    a.2 ∙ ap (λ (x : Fix). record (with_lane s lane None) { worked = s.worked ++ (record { fix = x; fact = fact; point = point } ∷ []) }) (held-one s lane a.0 b.0 true a.1 b.1) ∙ sym b.2
goes-one p s (sticks lane cause) t u a b =
    a.2 ∙ ap (λ (x : Fix). record (with_lane s lane None) { stuck = s.stuck ++ (record { node = x; cause = cause } ∷ []) }) (held-one s lane a.0 b.0 true a.1 b.1) ∙ sym b.2

-- ---- the turns

append-none : {X : Type 0} (xs : List X) → xs ++ [] ≡ xs
append-none [] = refl
append-none (x ∷ xs) = ap (λ ys. x ∷ ys) (append-none xs)

append-one : {X : Type 0} (xs : List X) (y : X) (ys : List X) → (xs ++ (y ∷ [])) ++ ys ≡ xs ++ (y ∷ ys)
append-one [] y ys = refl
append-one (x ∷ xs) y ys = ap (λ zs. x ∷ zs) (append-one xs y ys)

pub due-more : (p : Task) (m : Method) (before : List MadeEvent) (s : Search) (es : List MadeEvent) (x : MadeEvent) (c b : SelectionState) (t : Search)
    → SelectedRuns p c s es b t → AreTurnsDue p m before s es → IsDueTurn p.game m t (moves_made (lane_of x.event) (before ++ es)) x.change → AreTurnsDue p m before s (es ++ (x ∷ []))
due-more p m before s [] x c b t r due one = (
  subst (λ (z : Search). IsDueTurn p.game m z (moves_made (lane_of x.event) before) x.change) (sym r.1)
      (subst (λ (ys : List MadeEvent). IsDueTurn p.game m t (moves_made (lane_of x.event) ys) x.change) (append-none before) one),
  λ u goes. tt,
)
due-more p m before s (e ∷ es) x c b t r due one = (
  due.0,
  λ u goes. due-more p m (before ++ (e ∷ [])) u es x r.0 b t
      (subst (λ (z : Search). SelectedRuns p r.0 z es b t) (goes-one p s e.change r.1 u r.4 goes) r.5)
      (due.1 u goes)
      (subst (λ (ys : List MadeEvent). IsDueTurn p.game m t (moves_made (lane_of x.event) ys) x.change) (sym (append-one before e es)) one),
)

-- ---- the moves

same-number : (n : ℕ) → nat_eq n n ≡ true
same-number n = grind arith

other-number : (n m : ℕ) → n ≢ m → nat_eq n m ≡ false
other-number n m h = false_from_ne_true (nat_eq n m) (λ e. h (eqb-true n m e))

pub moves-more : (lane : ℕ) (es : List MadeEvent) (x : MadeEvent) → moves_made lane (es ++ (x ∷ [])) ≡ moves_after lane (moves_made lane es) x
moves-more lane es x = fold-append (moves_after lane) 0 es (x ∷ [])

-- what a lane holds where one was given something
pub load-with : (loads : List (Option Load)) (given lane : ℕ) (v : Option Load) → 1 ≤ given → given ≤ length loads
    → load_at (with_load loads given v) lane ≡ (if nat_eq given lane then v else load_at loads lane)
load-with loads zero lane v low high = absurd (omega (arith, low))
load-with loads (suc g) zero v low high =
    sym (ap (λ (b : Bool). if b then v else load_at loads 0) (other-number (suc g) 0 (λ e. absurd (omega (arith, e)))))
load-with loads (suc g) (suc k) v low high = by (cases_Bool (nat_eq (suc g) (suc k)))
  where
    start : (suc g - 1) ≡ g
    start = omega arith

    by : (nat_eq (suc g) (suc k) ≡ true) ⊎ (nat_eq (suc g) (suc k) ≡ false) → load_at (with_load loads (suc g) v) (suc k) ≡ (if nat_eq (suc g) (suc k) then v else load_at loads (suc k))
    by (inl e) =
        let both : suc g ≡ suc k = eqb-true (suc g) (suc k) e in
        let same : g ≡ k = omega (arith, both) in
        ap (λ (i : ℕ). load_at (set loads i v) (suc k)) (start ∙ same) ∙ get_or-set_same loads k v None (omega (arith, high, same))
        ∙ sym (ap (λ (b : Bool). if b then v else load_at loads (suc k)) e)
    by (inr e) =
        ap (λ (i : ℕ). load_at (set loads i v) (suc k)) start
        ∙ get_or-set_other loads g k v None (λ same. absurd (true≢false (sym (same-number (suc k)) ∙ subst (λ (z : ℕ). nat_eq (suc z) (suc k) ≡ false) (sym same) e)))
        ∙ sym (ap (λ (b : Bool). if b then v else load_at loads (suc k)) e)

-- each load has as many moves as the events made
abbrev pub AreCounted : List (Option Load) → List MadeEvent → Type 0
AreCounted loads es = (lane : ℕ) (l : Load) → load_at loads lane ≡ Some l → l.moves ≡ moves_made lane es

-- the lane of an event is given a load with so many moves, or none
given-moves : (loads : List (Option Load)) (es : List MadeEvent) (e : Event) (c : Change) (v : Option Load) → AreCounted loads es → 1 ≤ lane_of e → lane_of e ≤ length loads
    → ((l : Load) → v ≡ Some l → l.moves ≡ moves_by c (moves_made (lane_of e) es)) → AreCounted (with_load loads (lane_of e) v) (es ++ (record { event = e; change = c } ∷ []))
given-moves loads es e c v counted low high right lane l is = by (cases_Bool (nat_eq (lane_of e) lane))
  where
    x : MadeEvent
    x = record { event = e; change = c }

    at : (if nat_eq (lane_of e) lane then v else load_at loads lane) ≡ Some l
    at = sym (load-with loads (lane_of e) lane v low high) ∙ is

    by : (nat_eq (lane_of e) lane ≡ true) ⊎ (nat_eq (lane_of e) lane ≡ false) → l.moves ≡ moves_made lane (es ++ (x ∷ []))
    by (inl h) =
        let same : lane_of e ≡ lane = eqb-true (lane_of e) lane h in
        right l (sym (ap (λ (b : Bool). if b then v else load_at loads lane) h) ∙ at)
        ∙ ap (λ (n : ℕ). moves_by c (moves_made n es)) same
        ∙ sym (ap (λ (b : Bool). if b then moves_by c (moves_made lane es) else moves_made lane es) h)
        ∙ sym (moves-more lane es x)
    by (inr h) =
        counted lane l (sym (ap (λ (b : Bool). if b then v else load_at loads lane) h) ∙ at)
        ∙ sym (ap (λ (b : Bool). if b then moves_by c (moves_made lane es) else moves_made lane es) h)
        ∙ sym (moves-more lane es x)

abbrev load-moves : Option Load → ℕ → ℕ
load-moves None d = d
load-moves (Some l) d = l.moves

one-load : (v : Load) (n : ℕ) → v.moves ≡ n → (l : Load) → Some v ≡ Some l → l.moves ≡ n
one-load v n e l is = sym (ap (λ o. load-moves o 0) is) ∙ e

no-load : (n : ℕ) (l : Load) → None ≡ Some l → l.moves ≡ n
no-load n l is = absurd cc

-- and so it is after an event
pub counted-more : (p : Task) (s : Search) (most : ℕ) (loads after : List (Option Load)) (es : List MadeEvent) (e : Event) (c : Change) → IsOf p s e c → AreCounted loads es → 1 ≤ lane_of e → lane_of e ≤ length loads
    → LeavesLoads most loads e (event_outcome c) after → AreCounted after (es ++ (record { event = e; change = c } ∷ []))
counted-more p s most loads after es e (takes lane node) of counted low high left =
    subst (λ (ls : List (Option Load)). AreCounted ls (es ++ (record { event = e; change = takes lane node } ∷ []))) (sym left)
    (given-moves loads es e (takes lane node) _ counted low high (one-load _ 0 refl))
counted-more p s most loads after es e (branches lane acts) of counted low high left =
    subst (λ (ls : List (Option Load)). AreCounted ls (es ++ (record { event = e; change = branches lane acts } ∷ []))) (sym left)
    (given-moves loads es e (branches lane acts) _ counted low high (one-load _ 0 refl))
counted-more p s most loads after es e (moves lane) of counted low high left =
    subst (λ (ls : List (Option Load)). AreCounted ls (es ++ (record { event = e; change = moves lane } ∷ []))) (sym left.3)
    (given-moves loads es e (moves lane) _ counted low high (one-load _ _ (ap (λ (n : ℕ). n + 1) (counted (lane_of e) left.0 left.1))))
counted-more p s most loads after es e (ends lane) of counted low high left =
    subst (λ (ls : List (Option Load)). AreCounted ls (es ++ (record { event = e; change = ends lane } ∷ []))) (sym left.2)
    (given-moves loads es e (ends lane) _ counted low high (one-load _ _ (counted (lane_of e) left.0 left.1)))
counted-more p s most loads after es e (works lane fact point) of counted low high left =
    subst (λ (ls : List (Option Load)). AreCounted ls (es ++ (record { event = e; change = works lane fact point } ∷ []))) (sym left)
    (given-moves loads es e (works lane fact point) None counted low high (no-load _))
counted-more p s most loads after es e (sticks lane cause) of counted low high left =
    subst (λ (ls : List (Option Load)). AreCounted ls (es ++ (record { event = e; change = sticks lane cause } ∷ []))) (sym left)
    (given-moves loads es e (sticks lane cause) None counted low high (no-load _))
