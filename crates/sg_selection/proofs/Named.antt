-- At each state at which an event is enabled an order names one.
use Rattle.std.proofs.Common.{◌≡◌, ◌⊎◌, ℕ, zero, suc, ◌+◌, ◌-◌, ◌<◌, ◌≤◌, ◌%◌, nat_lt, Bool, true, false, cond, List, [], ◌∷◌, length, get_or, Some, None, sym, ◌∙◌, ap, ap₂, subst, refl, arith, inl, inr, ⊎_elim, pos, ◌≤ℤ◌}
use Rattle.std.specs.Prelude.{slice_get}
use Rattle.std.proofs.Math.Nat.{mod-lt}
use Rattle.std.proofs.lemmas.Bool.{cases_Bool, lt-ltb, ltb-true}
use Rattle.rand_chacha.specs.ChaCha.{ChaCha}
use Rattle.sg_options.specs.declared.order.Walk.{Walk}
use Rattle.sg_options.specs.declared.order.Walk.TheVariants.{File, Best, Seeded}
use Rattle.sg_model.specs.Payoffs.{IsPeopled}
use Rattle.sg_frac.specs.Fractions.{Fraction}
use Rattle.sg_frac.specs.Order.{IsBelow}
use Rattle.sg_tree.specs.declared.fix.Fix.{Fix}
use Rattle.sg_search.specs.declared.event.Event.{Event}
use Rattle.sg_search.specs.declared.event.Event.TheVariants.{Begin, Turn, Finish}
use Rattle.sg_search.specs.declared.event.Ready.{Ready}
use Rattle.sg_search.specs.Searches.{Task, Search}
use Rattle.sg_search.specs.Events.{Allows, AreChoices, IsEnabled, IsRank, MayChoose, Tells, lane_of}
use Rattle.sg_search.specs.TreeLaws.{AreFacts}
use Rattle.sg_search.proofs.Chosen.{choice-at, choices_are_one}
use Rattle.sg_search.proofs.Listing.{none-in}
use Rattle.sg_search.proofs.Told.{at-in, choices_are_there, enabled-begin, enabled_means, lanes_are_told}
use Rattle.sg_selection.specs.Selections.{AreReadyLanes, HasEvent, IsBestChoice, IsChoiceBy, IsChosenBy, IsDrawnLane, IsLaneBy, IsNextLane, SelectionState, Selects, after_event, lanes_on, word_drawn, words_behind}
use Rattle.sg_selection.specs.SelectionLaws.{EventIsNamed, NamedOnce, NoneAtTheEnd}
use Rattle.sg_selection.proofs.Handed.{lane-range, lanes-ready}
use Rattle.sg_selection.proofs.Leading.{leader-there}
use Rattle.sg_selection.proofs.Lists.{at-place, le-or-above, least-of, place-below, place-one, rises-one}
use Rattle.sg_selection.proofs.Places.{lanes_from}
use Rattle.sg_selection.proofs.Ranks.{rank-one, rank-positive, rank-there}

-- ---- one lane

-- lanes that stand as far behind another are the same
lanes_on-cases : (last from lane : ℕ) → ((from < lane) × (lanes_on last from lane ≡ lane - from)) ⊎ ((lane ≤ from) × (lanes_on last from lane ≡ last - from + lane))
lanes_on-cases last from lane = ⊎_elim
    (λ yes. inl (ltb-true from lane yes, ap (λ (b : Bool). cond b (lane - from) (last - from + lane)) yes))
    (λ other. ⊎_elim
    (λ low. inr (low, ap (λ (b : Bool). cond b (lane - from) (last - from + lane)) other))
    (λ high. absurd (clash (sym (lt-ltb from lane high) ∙ other)))
    (le-or-above lane from))
    (cases_Bool (nat_lt from lane))
  where
    clash : true ≡ false → ⊥
    clash e = cc

lanes_on-one : (last from a b : ℕ) → 1 ≤ a → a ≤ last → 1 ≤ b → b ≤ last → lanes_on last from a ≡ lanes_on last from b → a ≡ b
lanes_on-one last from a b a1 an b1 bn same = ⊎_elim
    (λ x. let p = x.0 in let e = x.1 in ⊎_elim
    (λ y. let q = y.0 in let f = y.1 in omega (arith, p, e, q, f, same))
    (λ y. let q = y.0 in let f = y.1 in omega (arith, p, e, q, f, same))
    (lanes_on-cases last from b))
    (λ x. let p = x.0 in let e = x.1 in ⊎_elim
    (λ y. let q = y.0 in let f = y.1 in omega (arith, p, e, q, f, same))
    (λ y. let q = y.0 in let f = y.1 in omega (arith, p, e, q, f, same))
    (lanes_on-cases last from b))
    (lanes_on-cases last from a)

next-one : (p : Task) (s : Search) (before a b : ℕ) → IsNextLane p s before a → IsNextLane p s before b → a ≡ b
next-one p s before a b x y =
    let ra = lane-range p s a x.has in
    let rb = lane-range p s b y.has in
    let one = x.next b y.has in
    let two = y.next a x.has in
    lanes_on-one (length s.lanes) before a b ra.0 ra.1 rb.0 rb.1 (omega (arith, one, two))

drawn-one : (p : Task) (s : Search) (word a b : ℕ) → IsDrawnLane p s word a → IsDrawnLane p s word b → a ≡ b
drawn-one p s word a b x y =
    let same = rises-one x.0 y.0 x.1.rising y.1.rising (λ lane at. (y.1.each lane).1 ((x.1.each lane).0 at)) (λ lane at. (x.1.each lane).1 ((y.1.each lane).0 at)) in
    place-one y.0 (word % length y.0) a b (subst (λ (xs : List ℕ). slice_get xs (word % length xs) ≡ Some a) same x.2) y.2

lane-one : (walk : Walk) (p : Task) (s : Search) (before : ℕ) (words : ChaCha) (a b : ℕ) → IsLaneBy walk p s before words a → IsLaneBy walk p s before words b → a ≡ b
lane-one File p s before words a b x y = next-one p s before a b x y
lane-one Best p s before words a b x y = next-one p s before a b x y
lane-one Seeded p s before words a b x y = drawn-one p s (word_drawn words) a b x y

-- ---- one choice

best-one : (p : Task) (s : Search) (nodes : List Fix) (n m : ℕ) → IsBestChoice p s nodes n → IsBestChoice p s nodes m → n ≡ m
best-one p s nodes n m x y = ⊎_elim
    (λ low. ⊎_elim
    (λ high. omega (arith, low, high))
    (λ lt. absurd (x.greatest m y.node y.rank y.place y.ranked (y.first n x.node x.rank lt x.place x.ranked)))
    (le-or-above m n))
    (λ lt. absurd (y.greatest n x.node x.rank x.place x.ranked (x.first m y.node y.rank lt y.place y.ranked)))
    (le-or-above n m)

choice-one : (walk : Walk) (p : Task) (s : Search) (words : ChaCha) (nodes : List Fix) (n m : ℕ) → IsChoiceBy walk p s words nodes n → IsChoiceBy walk p s words nodes m → n ≡ m
choice-one File p s words nodes n m x y = x ∙ sym y
choice-one Best p s words nodes n m x y = best-one p s nodes n m x y
choice-one Seeded p s words nodes n m x y = x ∙ sym y

chosen-one : (walk : Walk) (p : Task) (s : Search) (words : ChaCha) (lane l n m : ℕ) → IsChosenBy walk p s words (Begin lane n) → IsChosenBy walk p s words (Begin l m) → n ≡ m
chosen-one walk p s words lane l n m x y =
    let same = choices_are_one p s x.0 y.0 x.1 y.1 in
    choice-one walk p s words y.0 n m (subst (λ (xs : List Fix). IsChoiceBy walk p s words xs n) same x.2) y.2

-- ---- one event

event-one : (walk : Walk) (p : Task) (s : Search) (words : ChaCha) (r : Ready) (e f : Event) → Allows r e → Allows r f → lane_of e ≡ lane_of f → IsChosenBy walk p s words e → IsChosenBy walk p s words f → e ≡ f
event-one walk p s words (Ready.Begin count) (Begin lane n) (Begin l m) a b same x y = ap₂ (λ (k i : ℕ). Begin k i) same (chosen-one walk p s words lane l n m x y)
event-one walk p s words (Ready.Begin count) (Begin lane n) (Turn l) a b same x y = absurd b
event-one walk p s words (Ready.Begin count) (Begin lane n) (Finish l) a b same x y = absurd b
event-one walk p s words (Ready.Begin count) (Turn lane) f a b same x y = absurd a
event-one walk p s words (Ready.Begin count) (Finish lane) f a b same x y = absurd a
event-one walk p s words Ready.Turn (Turn lane) (Turn l) a b same x y = ap (λ (k : ℕ). Turn k) same
event-one walk p s words Ready.Turn (Turn lane) (Begin l m) a b same x y = absurd b
event-one walk p s words Ready.Turn (Turn lane) (Finish l) a b same x y = absurd b
event-one walk p s words Ready.Turn (Begin lane n) f a b same x y = absurd a
event-one walk p s words Ready.Turn (Finish lane) f a b same x y = absurd a
event-one walk p s words Ready.Finish (Finish lane) (Finish l) a b same x y = ap (λ (k : ℕ). Finish k) same
event-one walk p s words Ready.Finish (Finish lane) (Begin l m) a b same x y = absurd b
event-one walk p s words Ready.Finish (Finish lane) (Turn l) a b same x y = absurd b
event-one walk p s words Ready.Finish (Begin lane n) f a b same x y = absurd a
event-one walk p s words Ready.Finish (Turn lane) f a b same x y = absurd a
event-one walk p s words Ready.Nothing (Begin lane n) f a b same x y = absurd a
event-one walk p s words Ready.Nothing (Turn lane) f a b same x y = absurd a
event-one walk p s words Ready.Nothing (Finish lane) f a b same x y = absurd a

pub named_once : NamedOnce
named_once p s c e f b d x y =
    let lane = lane-one c.walk p s c.lane_before c.words (lane_of e) (lane_of f) x.lane y.lane in
    let told = lanes_are_told p s (lane_of e) in
    let same = event-one c.walk p s c.words told.0 e f ((told.1.each e refl).0 x.enabled) ((told.1.each f (sym lane)).0 y.enabled) lane x.choice y.choice in
    (same, x.after ∙ ap (after_event c) same ∙ sym y.after)

pub none_at_the_end : NoneAtTheEnd
none_at_the_end p s stop c e d x = stop e x.enabled

-- ---- some event

-- what each lane is told, as a list
told-list : (p : Task) (s : Search) (k n : ℕ) → (rs : List Ready) × (length rs ≡ n) × ((place : ℕ) (r : Ready) → slice_get rs place ≡ Some r → Tells p s (place + k) r)
told-list p s k zero = ([], refl, λ place r e. absurd (none-some e))
  where
    none-some : {r : Ready} → None ≡ Some r → ⊥
    none-some h = cc
told-list p s k (suc n) =
    let first = lanes_are_told p s k in
    let rest = told-list p s (k + 1) n in
    (first.0 ∷ rest.0, ap suc rest.1, each first.0 first.1 rest.0 rest.2)
  where
    each : (r : Ready) → Tells p s k r → (rs : List Ready) → ((place : ℕ) (x : Ready) → slice_get rs place ≡ Some x → Tells p s (place + (k + 1)) x)
        → (place : ℕ) (x : Ready) → slice_get (r ∷ rs) place ≡ Some x → Tells p s (place + k) x
    each r t rs ts zero x e = let z : k ≡ 0 + k = omega arith in subst (λ (l : ℕ). Tells p s l x) z (subst (Tells p s k) (some-one e) t)
      where
        some-one : {a b : Ready} → Some a ≡ Some b → a ≡ b
        some-one h = cc
    each r t rs ts (suc place) x e = let z : place + (k + 1) ≡ suc place + k = omega arith in subst (λ (l : ℕ). Tells p s l x) z (ts place x e)

ready-lanes-there : (p : Task) (s : Search) → IsPeopled p.game → AreFacts p.game s → (lanes : List ℕ) × AreReadyLanes p s lanes
ready-lanes-there p s peopled facts =
    let told = told-list p s 1 (length s.lanes) in
    let nobody = λ (n : ℕ) (b : Fraction). ⊥ in
    (lanes_from 1 told.0, lanes-ready nobody told.0 p s (record { peopled = peopled; facts = facts; lanes = told.1; told = told.2; ranks = λ n b f. absurd f }))

next-there : (p : Task) (s : Search) (before x : ℕ) (xs : List ℕ) → AreReadyLanes p s (x ∷ xs) → (lane : ℕ) × HasEvent p s lane × IsNextLane p s before lane
next-there p s before x xs ready =
    let q = least-of (lanes_on (length s.lanes) before) x xs in
    (q.0, (ready.each q.0).0 q.1, record { has = (ready.each q.0).0 q.1; next = λ other has. q.2 other ((ready.each other).1 has) })

lane-there : (walk : Walk) (p : Task) (s : Search) (before : ℕ) (words : ChaCha) (x : ℕ) (xs : List ℕ) → AreReadyLanes p s (x ∷ xs) → (lane : ℕ) × HasEvent p s lane × IsLaneBy walk p s before words lane
lane-there File p s before words x xs ready = next-there p s before x xs ready
lane-there Best p s before words x xs ready = next-there p s before x xs ready
lane-there Seeded p s before words x xs ready =
    let n = word_drawn words % length (x ∷ xs) in
    let lt = mod-lt (word_drawn words) {m = length (x ∷ xs)} (omega arith) in
    let at = at-place (x ∷ xs) n 0 lt in
    (get_or (x ∷ xs) n 0, (ready.each (get_or (x ∷ xs) n 0)).0 (at-in (x ∷ xs) n (get_or (x ∷ xs) n 0) at), (x ∷ xs, ready, at))

-- a choice, of the first of the greatest rank
best-there : (p : Task) (s : Search) → IsPeopled p.game → AreFacts p.game s → (x : Fix) (xs : List Fix) → AreChoices (MayChoose p s) (x ∷ xs) → (n : ℕ) × (n < length (x ∷ xs)) × IsBestChoice p s (x ∷ xs) n
best-there p s peopled facts x xs choices =
    let q = leader-there ranked (length xs) each in
    let l = q.2 in
    let low = l.below in (
      q.0,
      omega (arith, low),
      record {
        node = l.ranked.0;
        rank = q.1;
        place = l.ranked.1;
        ranked = l.ranked.2;
        greatest = λ m other b at is below.
            let lt = place-below (x ∷ xs) m other at in
            let o = l.greatest m (omega (arith, lt)) in
            o.3 (subst (IsBelow q.1) (rank-is m other b o.0 at is o.1) below);
        first = λ m other b lt at is.
            let o = l.first m lt in
            subst (λ (f : Fraction). IsBelow f q.1) (sym (rank-is m other b o.0 at is o.1)) o.3;
      },
    )
  where
    ranked : ℕ → Fraction → Type 0
    ranked m b = (node : Fix) × (slice_get (x ∷ xs) m ≡ Some node) × IsRank p s node b

    each : (m : ℕ) → m < length xs + 1 → (b : Fraction) × ranked m b × (pos 1 ≤ℤ b.den)
    each m lt =
        let node = get_or (x ∷ xs) m x in
        let at = at-place (x ∷ xs) m x (omega (arith, lt)) in
        let r = rank-there p s node ((choices.each node).0 (at-in (x ∷ xs) m node at)) in
        (r.0, (node, at, r.1), rank-positive p s peopled facts node r.0 r.1)

    rank-is : (m : ℕ) (other : Fix) (b c : Fraction) → slice_get (x ∷ xs) m ≡ Some other → IsRank p s other b → ranked m c → b ≡ c
    rank-is m other b c at is r = rank-one p s r.0 b c (subst (λ (w : Fix). IsRank p s w b) (place-one (x ∷ xs) m other r.0 at r.1) is) r.2

choice-there : (walk : Walk) (p : Task) (s : Search) → IsPeopled p.game → AreFacts p.game s → (words : ChaCha) (x : Fix) (xs : List Fix) → AreChoices (MayChoose p s) (x ∷ xs)
    → (n : ℕ) × (n < length (x ∷ xs)) × IsChoiceBy walk p s words (x ∷ xs) n
choice-there File p s peopled facts words x xs choices = (0, omega arith, refl)
choice-there Best p s peopled facts words x xs choices = best-there p s peopled facts x xs choices
choice-there Seeded p s peopled facts words x xs choices = (word_drawn (words_behind words) % length (x ∷ xs), mod-lt (word_drawn (words_behind words)) {m = length (x ∷ xs)} (omega arith), refl)

event-there : (walk : Walk) (p : Task) (s : Search) → IsPeopled p.game → AreFacts p.game s → (words : ChaCha) (e : Event) → IsEnabled p s e → (f : Event) × (lane_of f ≡ lane_of e) × IsEnabled p s f × IsChosenBy walk p s words f
event-there walk p s peopled facts words (Turn lane) h = (Turn lane, refl, h, tt)
event-there walk p s peopled facts words (Finish lane) h = (Finish lane, refl, h, tt)
event-there walk p s peopled facts words (Begin lane n) h = by (choices_are_there p s).0 (choices_are_there p s).1
  where
    by : (nodes : List Fix) → AreChoices (MayChoose p s) nodes → (f : Event) × (lane_of f ≡ lane) × IsEnabled p s f × IsChosenBy walk p s words f
    by [] choices =
        let q = ((enabled_means p s lane).begin n).0 h in
        let lt = place-below [] n q.1.0 (choice-at p s [] choices n q.1.0 q.1.1) in
        absurd (omega (arith, lt))
    by (x ∷ xs) choices =
        let q = ((enabled_means p s lane).begin n).0 h in
        let m = choice-there walk p s peopled facts words x xs choices in
        let node = get_or (x ∷ xs) m.0 x in
        (Begin lane m.0, refl, enabled-begin p s lane m.0 node q.0 (record { nodes = x ∷ xs; choices = choices; place = at-place (x ∷ xs) m.0 x m.1 }), (x ∷ xs, choices, m.2))

pub event_is_named : EventIsNamed
event_is_named p peopled s facts c e enabled = by (ready-lanes-there p s peopled facts).0 (ready-lanes-there p s peopled facts).1
  where
    by : (lanes : List ℕ) → AreReadyLanes p s lanes → (f : Event) × (d : SelectionState) × Selects p s c f d
    by [] ready = absurd (none-in ((ready.each (lane_of e)).1 (e, refl, enabled)))
    by (x ∷ xs) ready =
        let lane = lane-there c.walk p s c.lane_before c.words x xs ready in
        let f = event-there c.walk p s peopled facts c.words lane.1.0 lane.1.2 in
        (f.0, after_event c f.0, record { enabled = f.2; lane = subst (IsLaneBy c.walk p s c.lane_before c.words) (sym (f.1 ∙ lane.1.1)) lane.2; choice = f.3; after = refl })
