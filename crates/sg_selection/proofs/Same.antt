-- Where the programs of nodes answer the same, the same events are named.
use Rattle.std.proofs.Common.{◌≡◌, ℕ, Bool, true, false, List, [], ◌∷◌, ◌++◌, Some, None, sym, ◌∙◌, ap, ap₂, subst, refl}
use Rattle.sg_tree.specs.declared.fix.Fix.{Fix}
use Rattle.sg_bounds.specs.Regions.{prefix}
use Rattle.sg_search.specs.declared.held.Held.{Held}
use Rattle.sg_search.specs.declared.event.Event.{Event}
use Rattle.sg_search.specs.declared.event.Event.TheVariants.{Begin, Turn, Finish}
use Rattle.sg_search.specs.Searches.{Task, Search}
use Rattle.sg_search.specs.Changes.{Change, takes, branches, moves, ends, works, sticks, Goes, Holds, with_lane}
use Rattle.sg_search.specs.Events.{IsChoice, IsOf}
use Rattle.sg_search.proofs.Chosen.{choice-at}
use Rattle.sg_selection.specs.Selections.{SelectionState}
use Rattle.sg_selection.specs.SelectedRuns.{IsAnswered, MadeEvent, SelectedRuns}
use Rattle.sg_selection.specs.SelectionLaws.{SameAnswersSameRun}
use Rattle.sg_selection.proofs.Lists.{place-one}
use Rattle.sg_selection.proofs.Named.{named_once}

-- ---- what a change leaves

held-one : (s : Search) (lane : ℕ) (x y : Fix) (b : Bool) → Holds s lane x b → Holds s lane y b → x ≡ y
held-one s lane x y b h k = inside (sym h.held ∙ k.held)
  where
    inside : {v w : Held} → Some v ≡ Some w → v.node ≡ w.node
    inside {v} {w} e = let f : v ≡ w = cc in ap (λ (u : Held). u.node) f

goes-one : (p : Task) (s : Search) (c : Change) (t u : Search) → Goes p s c t → Goes p s c u → t ≡ u
goes-one p s (takes lane node) t u x y = x.2 ∙ sym y.2
goes-one p s (branches lane acts) t u x y = x.4 ∙ sym y.4
goes-one p s (moves lane) t u x y = x.2 ∙ sym y.2
goes-one p s (ends lane) t u x y =
    x.2 ∙ ap (λ (n : Fix). with_lane s lane (Some (record { node = n; ended = true }))) (held-one s lane x.0 y.0 false x.1 y.1) ∙ sym y.2
goes-one p s (works lane fact point) t u x y =
    x.2 ∙ ap (λ (n : Fix). record (with_lane s lane None) { worked = s.worked ++ (record { fix = n; fact = fact; point = point } ∷ []) }) (held-one s lane x.0 y.0 true x.1 y.1) ∙ sym y.2
goes-one p s (sticks lane cause) t u x y =
    x.2 ∙ ap (λ (n : Fix). record (with_lane s lane None) { stuck = s.stuck ++ (record { node = n; cause = cause } ∷ []) }) (held-one s lane x.0 y.0 true x.1 y.1) ∙ sym y.2

-- ---- what an event comes to

choice-node : (p : Task) (s : Search) (n : ℕ) (x y : Fix) → IsChoice p s n x → IsChoice p s n y → x ≡ y
choice-node p s n x y a b = place-one a.nodes n x y a.place (choice-at p s a.nodes a.choices n y b)

-- the change that begins a node is fixed by its number
begin-one : (p : Task) (s : Search) (lane n : ℕ) (c d : Change) (t u : Search) → IsOf p s (Begin lane n) c → Goes p s c t → IsOf p s (Begin lane n) d → Goes p s d u → c ≡ d
begin-one p s lane n (takes l x) (takes k y) t u of goes also on = ap₂ (λ (i : ℕ) (z : Fix). takes i z) (of.0 ∙ sym also.0) (choice-node p s n x y of.1 also.1)
begin-one p s lane n (takes l x) (branches k acts) t u of goes also on = absurd (on.1 x goes.1)
begin-one p s lane n (branches l acts) (takes k y) t u of goes also on = absurd (goes.1 y on.1)
begin-one p s lane n (branches l as1) (branches k bs) t u of goes also on =
    ap₂ (λ (i : ℕ) (zs : List ℕ). branches i zs) (of.0 ∙ sym also.0) (ap (λ (z : Fix). z.acts) (choice-node p s n (prefix as1) (prefix bs) of.1 also.1))
begin-one p s lane n (takes l x) (moves k) t u of goes also on = absurd also
begin-one p s lane n (takes l x) (ends k) t u of goes also on = absurd also
begin-one p s lane n (takes l x) (works k fact point) t u of goes also on = absurd also
begin-one p s lane n (takes l x) (sticks k cause) t u of goes also on = absurd also
begin-one p s lane n (branches l acts) (moves k) t u of goes also on = absurd also
begin-one p s lane n (branches l acts) (ends k) t u of goes also on = absurd also
begin-one p s lane n (branches l acts) (works k fact point) t u of goes also on = absurd also
begin-one p s lane n (branches l acts) (sticks k cause) t u of goes also on = absurd also
begin-one p s lane n (moves l) d t u of goes also on = absurd of
begin-one p s lane n (ends l) d t u of goes also on = absurd of
begin-one p s lane n (works l fact point) d t u of goes also on = absurd of
begin-one p s lane n (sticks l cause) d t u of goes also on = absurd of

change-one : (p : Task) (s : Search) (e : Event) (c d : Change) (t u : Search) → IsOf p s e c → Goes p s c t → IsOf p s e d → Goes p s d u → (IsAnswered e → c ≡ d) → c ≡ d
change-one p s (Begin lane n) c d t u of goes also on same = begin-one p s lane n c d t u of goes also on
change-one p s (Turn lane) c d t u of goes also on same = same tt
change-one p s (Finish lane) c d t u of goes also on same = same tt

-- ---- all events

made-one : (m n : MadeEvent) → m.event ≡ n.event → m.change ≡ n.change → m ≡ n
made-one m n e f = two m.event n.event m.change n.change e f
  where
    two : (a b : Event) (c d : Change) → a ≡ b → c ≡ d → (let x : MadeEvent = record { event = a; change = c } in let y : MadeEvent = record { event = b; change = d } in x ≡ y)
    two a b c d h k = cc

pub same_answers_same_run : SameAnswersSameRun
same_answers_same_run p c s [] [] b d t u x y same = (refl, sym x.0 ∙ y.0, sym x.1 ∙ y.1)
same_answers_same_run p c s [] (n ∷ ns) b d t u x y same = absurd same
same_answers_same_run p c s (m ∷ ms) [] b d t u x y same = absurd same
same_answers_same_run p c s (m ∷ ms) (n ∷ ns) b d t u x y same =
    let once = named_once p s c m.event n.event x.0 y.0 x.2 y.2 in
    let of = subst (λ (e : Event). IsOf p s e n.change) (sym once.0) y.3 in
    let change = change-one p s m.event m.change n.change x.1 y.1 x.3 x.4 of y.4 (same.0 once.0) in
    let state = goes-one p s n.change x.1 y.1 (subst (λ (k : Change). Goes p s k x.1) change x.4) y.4 in
    let rest = subst (λ (a : SelectionState). SelectedRuns p a y.1 ms b t) once.1 (subst (λ (a : Search). SelectedRuns p x.0 a ms b t) state x.5) in
    let r = same_answers_same_run p y.0 y.1 ms ns b d t u rest y.5 same.1 in
    (ap₂ (λ (z : MadeEvent) (zs : List MadeEvent). z ∷ zs) (made-one m n once.0 change) r.0, r.1, r.2)
