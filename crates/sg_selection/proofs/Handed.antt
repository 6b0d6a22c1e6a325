-- What a selection is handed, as what may happen in a search.
use Rattle.std.proofs.Common.{◌≡◌, ℕ, ◌+◌, ◌-◌, ◌<◌, ◌≤◌, ◌%◌, true, true≢false, List, length, take, count_by, Some, None, sym, ◌∙◌, ap, subst, refl, arith, Contains}
use Rattle.std.specs.Prelude.{slice_get, slice_index_or}
use Rattle.std.proofs.Math.Nat.{mod-lt}
use Rattle.rand_chacha.specs.ChaCha.{ChaCha}
use Rattle.sg_options.specs.declared.order.Walk.{Walk}
use Rattle.sg_options.specs.declared.order.Walk.TheVariants.{File, Best, Seeded}
use Rattle.sg_frac.specs.Fractions.{Fraction}
use Rattle.sg_frac.specs.Order.{IsBelow}
use Rattle.sg_tree.specs.declared.fix.Fix.{Fix}
use Rattle.sg_search.specs.declared.event.Event.{Event}
use Rattle.sg_search.specs.declared.event.Event.TheVariants.{Begin, Turn, Finish}
use Rattle.sg_search.specs.declared.event.Ready.{Ready}
use Rattle.sg_search.specs.Searches.{Task, Search}
use Rattle.sg_search.specs.Events.{Allows, AreChoices, IsEnabled, IsEnd, IsRank, MayChoose, Tells, lane_of}
use Rattle.sg_search.proofs.Chosen.{choice-at}
use Rattle.sg_search.proofs.Told.{at-in, choices_are_there, enabled_means, told-begin, told_once}
use Rattle.sg_selection.specs.Selections.{AreReadyLanes, HasEvent, IsBestChoice, IsChoiceBy, IsChosenBy, IsDrawnLane, IsLaneBy, IsNextLane, SelectionState, Selects, after_event, lanes_on, word_drawn, words_after, words_behind}
use Rattle.sg_selection.specs.Handing.{IsHanded, IsRankOf}
use Rattle.sg_selection.specs.Ranking.{IsLeader, IsNumberBy}
use Rattle.sg_selection.specs.Readiness.{IsNextReady, IsPlaceBy, IsReadyOfNumber, NoneReady, is_ready, is_ready_at}
use Rattle.sg_selection.proofs.Below.{below-lowered, below-raised}
use Rattle.sg_selection.proofs.Lists.{at-place, place-below, place-one}
use Rattle.sg_selection.proofs.Places.{IsReadyFrom, lane-at, lane-in, lanes-count, lanes-rise, lanes_from}
use Rattle.sg_selection.proofs.Ranks.{rank-one, rank-positive}

-- ---- lanes of events

-- an event that is enabled is of one of the lanes
pub event-range : (p : Task) (s : Search) (e : Event) → IsEnabled p s e → (1 ≤ lane_of e) × (lane_of e ≤ length s.lanes)
event-range p s (Begin lane n) h = let q = ((enabled_means p s lane).begin n).0 h in (q.0.free.from_one, q.0.free.in_range)
event-range p s (Turn lane) h = let q = (enabled_means p s lane).turn.0 h in (q.1.from_one, q.1.in_range)
event-range p s (Finish lane) h = let q = (enabled_means p s lane).finish.0 h in (q.1.from_one, q.1.in_range)

pub lane-range : (p : Task) (s : Search) (lane : ℕ) → HasEvent p s lane → (1 ≤ lane) × (lane ≤ length s.lanes)
lane-range p s lane h = subst (λ (k : ℕ). (1 ≤ k) × (k ≤ length s.lanes)) h.1 (event-range p s h.0 h.2)

-- who is told nothing has no event
allows-ready : (r : Ready) (e : Event) → Allows r e → is_ready r ≡ true
allows-ready Ready.Nothing (Begin lane n) a = absurd a
allows-ready Ready.Nothing (Turn lane) a = absurd a
allows-ready Ready.Nothing (Finish lane) a = absurd a
allows-ready (Ready.Begin count) e a = refl
allows-ready Ready.Turn e a = refl
allows-ready Ready.Finish e a = refl

-- who is told something has one
ready-allows : (r : Ready) (lane : ℕ) → ((count : ℕ) → r ≡ Ready.Begin count → 1 ≤ count) → is_ready r ≡ true → (e : Event) × (lane_of e ≡ lane) × Allows r e
ready-allows Ready.Nothing lane some h = absurd (true≢false (sym h))
ready-allows (Ready.Begin count) lane some h = let k = some count refl in (Begin lane 0, refl, omega (arith, k))
ready-allows Ready.Turn lane some h = (Turn lane, refl, tt)
ready-allows Ready.Finish lane some h = (Finish lane, refl, tt)

-- a place that was named is there, and its lane is told this
pub place-in : (ready : List Ready) (walk : Walk) (before : ℕ) (words left : ChaCha) (place : ℕ) → IsPlaceBy walk ready before words left (Some place) → place < length ready
place-in ready File before words left place n = n.0.0
place-in ready Best before words left place n = n.0.0
place-in ready Seeded before words left place n = n.0.0

pub place-told : (ready : List Ready) (walk : Walk) (before : ℕ) (words left : ChaCha) (place : ℕ) (r : Ready) → IsPlaceBy walk ready before words left (Some place) → slice_index_or ready place Ready.Nothing ≡ r → slice_get ready place ≡ Some r
place-told ready walk before words left place r n e = at-place ready place Ready.Nothing (place-in ready walk before words left place n) ∙ ap (λ (x : Ready). Some x) e

-- a selection is what it keeps
keeps : (v w : Walk) (m n : ℕ) (x y : ChaCha) → v ≡ w → m ≡ n → x ≡ y
    → (let a : SelectionState = record { walk = v; lane_before = m; words = x } in let b : SelectionState = record { walk = w; lane_before = n; words = y } in a ≡ b)
keeps v w m n x y e f k = cc

state-is : (c d : SelectionState) → d.walk ≡ c.walk → d.lane_before ≡ c.lane_before → d.words ≡ c.words → d ≡ c
state-is c d e f k = keeps d.walk c.walk d.lane_before c.lane_before d.words c.words e f k

module _ (is_rank : ℕ → Fraction → Type 0) (ready : List Ready) (p : Task) (s : Search) (h : IsHanded is_rank ready p s) where
  -- what the lane of a place is told
  pub told-at : (place : ℕ) (r : Ready) → place < length ready → slice_index_or ready place Ready.Nothing ≡ r → Tells p s (place + 1) r
  told-at place r lt e = h.told place r (at-place ready place Ready.Nothing lt ∙ ap (λ (x : Ready). Some x) e)

  pub ready-has : (place : ℕ) → place < length ready → is_ready_at ready place ≡ true → HasEvent p s (place + 1)
  ready-has place lt e =
      let r = slice_index_or ready place Ready.Nothing in
      let t = told-at place r lt refl in
      let q = ready-allows r (place + 1) t.some e in
      (q.0, q.1, (t.each q.0 q.1).1 q.2)

  pub has-ready : (lane : ℕ) → HasEvent p s lane → IsReadyFrom 1 ready lane
  has-ready lane has =
      let range = lane-range p s lane has in
      let low = range.0 in
      let high = range.1 in
      let many = h.lanes in
      let lt : lane - 1 < length ready = omega (arith, low, high, many) in
      let is : lane ≡ lane - 1 + 1 = omega (arith, low) in
      let r = slice_index_or ready (lane - 1) Ready.Nothing in
      let t = told-at (lane - 1) r lt refl in
      record { place = lane - 1; lane_is = omega (arith, low); within = lt; ready = allows-ready r has.0 ((t.each has.0 (has.1 ∙ is)).0 has.2) }

  pub lanes-ready : AreReadyLanes p s (lanes_from 1 ready)
  lanes-ready = record {
    rising = lanes-rise 1 ready;
    each = λ lane. (
      λ at. let q = lane-in 1 ready lane at in
          let is = q.lane_is in
          let e : q.place + 1 ≡ lane = omega (arith, is) in
          subst (HasEvent p s) e (ready-has q.place q.within q.ready),
      λ has. let q = has-ready lane has in
          let at = lane-at 1 ready q.place q.within q.ready in
          subst (Contains (lanes_from 1 ready)) (sym q.lane_is) (in-list (lanes_from 1 ready) (count_by is_ready (take q.place ready)) (1 + q.place) at),
    );
  }
    where
      in-list : (xs : List ℕ) (n x : ℕ) → slice_get xs n ≡ Some x → Contains xs x
      in-list xs n x e = at-in xs n x e

  next-lane : (before place : ℕ) → IsNextReady ready before (Some place) → IsNextLane p s before (place + 1)
  next-lane before place n = record {
    has = ready-has place n.0 n.1;
    next = λ other has.
        let q = has-ready other has in
        let is = q.lane_is in
        let e : q.place + 1 ≡ other = omega (arith, is) in
        subst (λ (k : ℕ). lanes_on k before (place + 1) ≤ lanes_on k before other) h.lanes
        (subst (λ (k : ℕ). lanes_on (length ready) before (place + 1) ≤ lanes_on (length ready) before k) e (n.2 q.place q.within q.ready));
  }

  drawn-lane : (word place : ℕ) → IsReadyOfNumber ready (word % count_by is_ready ready) (Some place) → IsDrawnLane p s word (place + 1)
  drawn-lane word place n =
      let at = lane-at 1 ready place n.0 n.1 in
      let number : word % length (lanes_from 1 ready) ≡ count_by is_ready (take place ready) = ap (λ (k : ℕ). word % k) (lanes-count 1 ready) ∙ sym n.2 in
      let one : 1 + place ≡ place + 1 = omega arith in
      (lanes_from 1 ready, lanes-ready, ap (slice_get (lanes_from 1 ready)) number ∙ at ∙ ap (λ (k : ℕ). Some k) one)

  -- the lane of the place that was named
  pub lane-named : (walk : Walk) (before : ℕ) (words left : ChaCha) (place : ℕ) → IsPlaceBy walk ready before words left (Some place) → IsLaneBy walk p s before words (place + 1)
  lane-named File before words left place n = next-lane before place n.0
  lane-named Best before words left place n = next-lane before place n.0
  lane-named Seeded before words left place n = drawn-lane (word_drawn words) place n.0

  none-ready : NoneReady ready 0 (length ready) → IsEnd p s
  none-ready none e enabled =
      let q = has-ready (lane_of e) (e, refl, enabled) in
      true≢false (sym q.ready ∙ none q.place (omega arith) q.within)

  none-counted : count_by is_ready ready ≡ 0 → IsEnd p s
  none-counted none e enabled =
      let q = has-ready (lane_of e) (e, refl, enabled) in
      let below = place-below (lanes_from 1 ready) (count_by is_ready (take q.place ready)) (1 + q.place) (lane-at 1 ready q.place q.within q.ready) in
      let many = lanes-count 1 ready in
      omega (arith, below, many, none)

  -- where no place was named
  pub none-named : (walk : Walk) (before : ℕ) (words left : ChaCha) → IsPlaceBy walk ready before words left None → IsEnd p s
  none-named File before words left n = none-ready n.0
  none-named Best before words left n = none-ready n.0
  none-named Seeded before words left n = none-counted n.0

  -- ---- choices

  pub count-is : (lane count : ℕ) (nodes : List Fix) → Tells p s lane (Ready.Begin count) → AreChoices (MayChoose p s) nodes → count ≡ length nodes
  count-is lane count nodes t choices =
      let some = t.some count refl in
      let q = ((enabled_means p s lane).begin 0).0 ((t.each (Begin lane 0) refl).1 (omega (arith, some))) in
      let below = place-below nodes 0 q.1.0 (choice-at p s nodes choices 0 q.1.0 q.1.1) in
      counts (told_once p s lane (Ready.Begin count) (Ready.Begin (length nodes)) t (told-begin p s lane nodes q.0 choices (omega (arith, below))))
    where
      counts : {a b : ℕ} → Ready.Begin a ≡ Ready.Begin b → a ≡ b
      counts e = cc

  best-choice : (count n : ℕ) (rank : Fraction) (nodes : List Fix) → AreChoices (MayChoose p s) nodes → count ≡ length nodes → IsLeader is_rank count n rank → IsBestChoice p s nodes n
  best-choice count n rank nodes choices many l =
      let r = h.ranks n rank l.ranked in
      let positive = rank-positive p s h.peopled h.facts in
      record {
        node = r.node;
        rank = r.bound;
        place = choice-at p s nodes choices n r.node r.choice;
        ranked = r.rank;
        greatest = λ m other b at is below.
            let lt = place-below nodes m other at in
            let q = l.greatest m (omega (arith, lt, many)) in
            let o = h.ranks m q.0 q.1 in
            let same = bound-is m other b at is o in
            q.3 (below-lowered r.bound o.bound rank q.0 (positive r.node r.bound r.rank) (positive o.node o.bound o.rank) r.equal o.equal (subst (IsBelow r.bound) same below));
        first = λ m other b lt at is.
            let q = l.first m lt in
            let o = h.ranks m q.0 q.1 in
            let same = bound-is m other b at is o in
            subst (λ (x : Fraction). IsBelow x r.bound) (sym same) (below-raised o.bound r.bound q.0 rank (positive o.node o.bound o.rank) (positive r.node r.bound r.rank) o.equal r.equal q.3);
      }
    where
      bound-is : (m : ℕ) (other : Fix) (b : Fraction) → slice_get nodes m ≡ Some other → IsRank p s other b → {f : Fraction} (o : IsRankOf p s m f) → b ≡ o.bound
      bound-is m other b at is o = rank-one p s o.node b o.bound (subst (λ (x : Fix). IsRank p s x b) (place-one nodes m other o.node at (choice-at p s nodes choices m o.node o.choice)) is) o.rank

  number-below : (walk : Walk) (count : ℕ) (words left : ChaCha) (n : ℕ) → 1 ≤ count → IsNumberBy walk is_rank count words left n → n < count
  number-below File count words left n some by = let e = by.0 in omega (arith, some, e)
  number-below Best count words left n some by = by.0.1.below
  number-below Seeded count words left n some by = let e = by.0 in let lt = mod-lt (word_drawn words) {m = count} (omega (arith, some)) in omega (arith, e, lt)

  -- the words that are left for the choice
  abbrev pub words_for : Walk → ChaCha → ChaCha
  words_for File words = words
  words_for Best words = words
  words_for Seeded words = words_behind words

  choice-named : (walk : Walk) (count : ℕ) (words left : ChaCha) (nodes : List Fix) (n : ℕ) → AreChoices (MayChoose p s) nodes → count ≡ length nodes → IsNumberBy walk is_rank count (words_for walk words) left n → IsChoiceBy walk p s words nodes n
  choice-named File count words left nodes n choices many by = by.0
  choice-named Best count words left nodes n choices many by = best-choice count n by.0.0 nodes choices many by.0.1
  choice-named Seeded count words left nodes n choices many by = by.0 ∙ ap (λ (k : ℕ). word_drawn (words_behind words) % k) many

  pub begin-enabled : (walk : Walk) (lane count : ℕ) (words left : ChaCha) (n : ℕ) → Tells p s lane (Ready.Begin count) → IsNumberBy walk is_rank count words left n → IsEnabled p s (Begin lane n)
  begin-enabled walk lane count words left n t by = (t.each (Begin lane n) refl).1 (number-below walk count words left n (t.some count refl) by)

  pub begin-chosen : (walk : Walk) (lane count : ℕ) (words left : ChaCha) (n : ℕ) → Tells p s lane (Ready.Begin count) → IsNumberBy walk is_rank count (words_for walk words) left n → IsChosenBy walk p s words (Begin lane n)
  begin-chosen walk lane count words left n t by =
      let q = choices_are_there p s in
      (q.0, q.1, choice-named walk count words left q.0 n q.1 (count-is lane count q.0 t q.1) by)

  -- ---- events

  left-is : (walk : Walk) (before : ℕ) (words left : ChaCha) (place : ℕ) → IsPlaceBy walk ready before words left (Some place) → left ≡ words_for walk words
  left-is File before words left place n = n.1
  left-is Best before words left place n = n.1
  left-is Seeded before words left place n = n.1

  one-word : (walk : Walk) (lane : ℕ) (words : ChaCha) → (words_for walk words ≡ words_after walk (Turn lane) words) × (words_for walk words ≡ words_after walk (Finish lane) words)
  one-word File lane words = (refl, refl)
  one-word Best lane words = (refl, refl)
  one-word Seeded lane words = (refl, refl)

  two-words : (walk : Walk) (lane count : ℕ) (words end : ChaCha) (n : ℕ) → IsNumberBy walk is_rank count (words_for walk words) end n → end ≡ words_after walk (Begin lane n) words
  two-words File lane count words end n by = by.1
  two-words Best lane count words end n by = by.1
  two-words Seeded lane count words end n by = by.1

  pub turn-selects : (c d : SelectionState) (left : ChaCha) (place : ℕ) → IsPlaceBy c.walk ready c.lane_before c.words left (Some place) → slice_index_or ready place Ready.Nothing ≡ Ready.Turn
      → d.walk ≡ c.walk → d.lane_before ≡ place + 1 → d.words ≡ left → Selects p s c (Turn (place + 1)) d
  turn-selects c d left place named is walk lane words =
      let t = told-at place Ready.Turn (place-in ready c.walk c.lane_before c.words left place named) is in
      record {
        enabled = (t.each (Turn (place + 1)) refl).1 tt;
        lane = lane-named c.walk c.lane_before c.words left place named;
        choice = tt;
        after = state-is (after_event c (Turn (place + 1))) d walk lane (words ∙ left-is c.walk c.lane_before c.words left place named ∙ (one-word c.walk (place + 1) c.words).0);
      }

  pub finish-selects : (c d : SelectionState) (left : ChaCha) (place : ℕ) → IsPlaceBy c.walk ready c.lane_before c.words left (Some place) → slice_index_or ready place Ready.Nothing ≡ Ready.Finish
      → d.walk ≡ c.walk → d.lane_before ≡ place + 1 → d.words ≡ left → Selects p s c (Finish (place + 1)) d
  finish-selects c d left place named is walk lane words =
      let t = told-at place Ready.Finish (place-in ready c.walk c.lane_before c.words left place named) is in
      record {
        enabled = (t.each (Finish (place + 1)) refl).1 tt;
        lane = lane-named c.walk c.lane_before c.words left place named;
        choice = tt;
        after = state-is (after_event c (Finish (place + 1))) d walk lane (words ∙ left-is c.walk c.lane_before c.words left place named ∙ (one-word c.walk (place + 1) c.words).1);
      }

  pub begin-selects : (c d : SelectionState) (left : ChaCha) (place count n : ℕ) → IsPlaceBy c.walk ready c.lane_before c.words left (Some place) → slice_index_or ready place Ready.Nothing ≡ Ready.Begin count
      → IsNumberBy c.walk is_rank count left d.words n → d.walk ≡ c.walk → d.lane_before ≡ place + 1 → Selects p s c (Begin (place + 1) n) d
  begin-selects c d left place count n named is number walk lane =
      let t = told-at place (Ready.Begin count) (place-in ready c.walk c.lane_before c.words left place named) is in
      let by = subst (λ (x : ChaCha). IsNumberBy c.walk is_rank count x d.words n) (left-is c.walk c.lane_before c.words left place named) number in
      record {
        enabled = begin-enabled c.walk (place + 1) count left d.words n t number;
        lane = lane-named c.walk c.lane_before c.words left place named;
        choice = begin-chosen c.walk (place + 1) count c.words d.words n t by;
        after = state-is (after_event c (Begin (place + 1) n)) d walk lane (two-words c.walk (place + 1) count c.words d.words n by);
      }
