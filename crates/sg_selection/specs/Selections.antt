-- Which event of a search comes next, by the order that was chosen: of which lane, and where the lane begins a node, of which.
use Rattle.std.specs.Prelude.{◌≡◌, ◌↔◌, ℕ, ◌+◌, ◌-◌, ◌<◌, ◌≤◌, ◌%◌, nat_lt, if◌then◌else◌, List, length, slice_get, AllPairs, Contains, Some}
use Rattle.rand_chacha.specs.ChaCha.{ChaCha, next_word}
use Rattle.sg_seed.specs.Seeds.{generator_of_seed}
use Rattle.sg_options.specs.declared.order.Order.{Order}
use Rattle.sg_options.specs.declared.order.Walk.{Walk}
use Rattle.sg_options.specs.declared.order.Walk.TheVariants.{File, Best, Seeded}
use Rattle.sg_frac.specs.Fractions.{Fraction}
use Rattle.sg_frac.specs.Order.{IsBelow}
use Rattle.sg_tree.specs.declared.fix.Fix.{Fix}
use Rattle.sg_search.specs.declared.event.Event.{Event}
use Rattle.sg_search.specs.declared.event.Event.TheVariants.{Begin, Turn, Finish}
use Rattle.sg_search.specs.Searches.{Task, Search}
use Rattle.sg_search.specs.Events.{AreChoices, IsEnabled, IsRank, MayChoose, lane_of}

-- ---- what is kept from event to event

pub record SelectionState : Type 0 where
  pub walk : Walk
  -- the lane of the event before, and 0 at first
  pub lane_before : ℕ
  -- the words of the seed that are not drawn yet
  pub words : ChaCha

-- at first no event was, and no word is drawn
abbrev pub first_selection : Order → SelectionState
first_selection o = record { walk = o.walk; lane_before = 0; words = generator_of_seed o.seed }

-- the word of 32 bits that is drawn next, and what is left behind it: ChaCha with 20 rounds, which are 10 double ones
unfoldable pub word_drawn : ChaCha → ℕ
word_drawn words = (next_word 10 words).0

unfoldable pub words_behind : ChaCha → ChaCha
words_behind words = (next_word 10 words).1

-- a seeded walk draws a word for the lane, and where it begins a node a second one for the choice; the others draw none
abbrev pub words_after : Walk → Event → ChaCha → ChaCha
words_after File e words = words
words_after Best e words = words
words_after Seeded (Begin lane n) words = words_behind (words_behind words)
words_after Seeded (Turn lane) words = words_behind words
words_after Seeded (Finish lane) words = words_behind words

-- after an event
abbrev pub after_event : SelectionState → Event → SelectionState
after_event c e = record { walk = c.walk; lane_before = lane_of e; words = words_after c.walk e c.words }

-- ---- the lane

-- a lane that some enabled event is of
abbrev pub HasEvent : Task → Search → ℕ → Type 0
HasEvent p s lane = (e : Event) × (lane_of e ≡ lane) × IsEnabled p s e

-- how many lanes one stands behind another, counted on from that with lane 1 after the last of so many; behind 0 as many as its number
abbrev pub lanes_on : ℕ → ℕ → ℕ → ℕ
lanes_on last from lane = if nat_lt from lane then lane - from else last - from + lane

-- of the lanes that have an enabled event the next one, counted on from a lane
pub record IsNextLane (p : Task) (s : Search) (from lane : ℕ) : Type 0 where
  pub has : HasEvent p s lane
  pub next : (other : ℕ) → HasEvent p s other → lanes_on (length s.lanes) from lane ≤ lanes_on (length s.lanes) from other

-- exactly the lanes that have an enabled event, by rising number
pub record AreReadyLanes (p : Task) (s : Search) (lanes : List ℕ) : Type 0 where
  pub rising : AllPairs (λ (a b : ℕ). a < b) lanes
  pub each : (lane : ℕ) → Contains lanes lane ↔ HasEvent p s lane

-- the one of these that a word draws, by its rest where it is divided by their number
abbrev pub IsDrawnLane : Task → Search → ℕ → ℕ → Type 0
IsDrawnLane p s word lane = (lanes : List ℕ) × AreReadyLanes p s lanes × (slice_get lanes (word % length lanes) ≡ Some lane)

abbrev pub IsLaneBy : Walk → Task → Search → ℕ → ChaCha → ℕ → Type 0
IsLaneBy File p s before words lane = IsNextLane p s before lane
IsLaneBy Best p s before words lane = IsNextLane p s before lane
IsLaneBy Seeded p s before words lane = IsDrawnLane p s (word_drawn words) lane

-- ---- the choice

-- among these choices, numbered from 0, one of the greatest rank: the first of them
pub record IsBestChoice (p : Task) (s : Search) (nodes : List Fix) (n : ℕ) : Type 0 where
  pub node : Fix
  pub rank : Fraction
  pub place : slice_get nodes n ≡ Some node
  pub ranked : IsRank p s node rank
  pub greatest : (m : ℕ) (other : Fix) (b : Fraction) → slice_get nodes m ≡ Some other → IsRank p s other b → ¬ (IsBelow rank b)
  pub first : (m : ℕ) (other : Fix) (b : Fraction) → m < n → slice_get nodes m ≡ Some other → IsRank p s other b → IsBelow b rank

abbrev pub IsChoiceBy : Walk → Task → Search → ChaCha → List Fix → ℕ → Type 0
IsChoiceBy File p s words nodes n = n ≡ 0
IsChoiceBy Best p s words nodes n = IsBestChoice p s nodes n
IsChoiceBy Seeded p s words nodes n = n ≡ word_drawn (words_behind words) % length nodes

-- where an event begins a node, its number is that of the choice
abbrev pub IsChosenBy : Walk → Task → Search → ChaCha → Event → Type 0
IsChosenBy walk p s words (Begin lane n) = (nodes : List Fix) × AreChoices (MayChoose p s) nodes × IsChoiceBy walk p s words nodes n
IsChosenBy walk p s words (Turn lane) = Unit {0}
IsChosenBy walk p s words (Finish lane) = Unit {0}

-- ---- the event

-- at state s a selection names this event, and is d after it
pub record Selects (p : Task) (s : Search) (c : SelectionState) (e : Event) (d : SelectionState) : Type 0 where
  pub enabled : IsEnabled p s e
  pub lane : IsLaneBy c.walk p s c.lane_before c.words (lane_of e)
  pub choice : IsChosenBy c.walk p s c.words e
  pub after : d ≡ after_event c e
