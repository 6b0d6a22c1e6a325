-- Searches whose events are those that an order names.
use Rattle.std.specs.Prelude.{◌≡◌, ℕ, ◌+◌, List, [], ◌∷◌, map}
use Rattle.sg_options.specs.declared.order.Walk.{Walk}
use Rattle.sg_options.specs.declared.order.Walk.TheVariants.{File, Best, Seeded}
use Rattle.sg_search.specs.declared.event.Event.{Event}
use Rattle.sg_search.specs.declared.event.Event.TheVariants.{Begin, Turn, Finish}
use Rattle.sg_search.specs.Searches.{Task, Search}
use Rattle.sg_search.specs.Changes.{Change, Goes}
use Rattle.sg_search.specs.Events.{IsOf}
use Rattle.sg_selection.specs.Selections.{SelectionState, Selects, after_event}

-- an event that was made, and the change that it came to
pub record MadeEvent : Type 0 where
  pub event : Event
  pub change : Change

-- from a selection and a state the order names these events, one after the other, each comes to its change, and they lead to
-- a selection and a state
abbrev pub SelectedRuns : Task → SelectionState → Search → List MadeEvent → SelectionState → Search → Type 0
SelectedRuns p c s [] d t = (c ≡ d) × (s ≡ t)
SelectedRuns p c s (m ∷ ms) d t =
    (b : SelectionState) × (u : Search) × Selects p s c m.event b × IsOf p s m.event m.change × Goes p s m.change u × SelectedRuns p b u ms d t

abbrev pub changes_of : List MadeEvent → List Change
changes_of ms = map (λ (m : MadeEvent). m.change) ms

-- the selection that events lead to
abbrev pub after_events : SelectionState → List MadeEvent → SelectionState
after_events c [] = c
after_events c (m ∷ ms) = after_events (after_event c m.event) ms

-- how many words are drawn for an event, and for all of these
abbrev pub event_words : Walk → Event → ℕ
event_words File e = 0
event_words Best e = 0
event_words Seeded (Begin lane n) = 2
event_words Seeded (Turn lane) = 1
event_words Seeded (Finish lane) = 1

abbrev pub words_count : Walk → List MadeEvent → ℕ
words_count walk [] = 0
words_count walk (m ∷ ms) = event_words walk m.event + words_count walk ms

-- a turn or the finish of a node is answered; which node a lane begins is fixed by the number of its choice
abbrev pub IsAnswered : Event → Type 0
IsAnswered (Begin lane n) = ⊥
IsAnswered (Turn lane) = Unit {0}
IsAnswered (Finish lane) = Unit {0}

-- as many events, where the same turn or finish in the same place comes to the same
abbrev pub HaveSameAnswers : List MadeEvent → List MadeEvent → Type 0
HaveSameAnswers [] [] = Unit {0}
HaveSameAnswers [] (n ∷ ns) = ⊥
HaveSameAnswers (m ∷ ms) [] = ⊥
HaveSameAnswers (m ∷ ms) (n ∷ ns) = (m.event ≡ n.event → IsAnswered m.event → m.change ≡ n.change) × HaveSameAnswers ms ns
