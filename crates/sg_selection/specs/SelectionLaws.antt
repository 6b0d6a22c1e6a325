-- At each state at which an event is enabled an order names one, and lists of named events are runs of a search.
use Rattle.std.specs.Prelude.{◌≡◌, ◌%◌, ◌^◌, List, [], ◌∷◌, ◌++◌}
use Rattle.rand_chacha.specs.ChaCha.{key_of, word_at}
use Rattle.sg_seed.specs.Seeds.{key_of_seed}
use Rattle.sg_options.specs.declared.order.Order.{Order}
use Rattle.sg_model.specs.Payoffs.{IsPeopled}
use Rattle.sg_search.specs.declared.event.Event.{Event}
use Rattle.sg_search.specs.Searches.{Task, Search}
use Rattle.sg_search.specs.Changes.{Goes, Runs}
use Rattle.sg_search.specs.Events.{IsEnabled, IsEnd, IsOf}
use Rattle.sg_search.specs.TreeLaws.{AreFacts}
use Rattle.sg_selection.specs.Selections.{SelectionState, Selects, first_selection, word_drawn}
use Rattle.sg_selection.specs.SelectedRuns.{HaveSameAnswers, MadeEvent, SelectedRuns, after_events, changes_of, words_count}

-- where some event is enabled, the order names one
abbrev pub EventIsNamed : Type 0
EventIsNamed = (p : Task) → IsPeopled p.game → (s : Search) → AreFacts p.game s → (c : SelectionState) (e : Event) → IsEnabled p s e
    → (f : Event) × (d : SelectionState) × Selects p s c f d

-- and no other
abbrev pub NamedOnce : Type 0
NamedOnce = (p : Task) (s : Search) (c : SelectionState) (e f : Event) (b d : SelectionState) → Selects p s c e b → Selects p s c f d → (e ≡ f) × (b ≡ d)

-- it is enabled
abbrev pub NamedIsEnabled : Type 0
NamedIsEnabled = (p : Task) (s : Search) (c : SelectionState) (e : Event) (d : SelectionState) → Selects p s c e d → IsEnabled p s e

-- so where none is enabled, none is named
abbrev pub NoneAtTheEnd : Type 0
NoneAtTheEnd = (p : Task) (s : Search) → IsEnd p s → (c : SelectionState) (e : Event) (d : SelectionState) → ¬ (Selects p s c e d)

-- the changes of named events are a run of the search
abbrev pub SelectedAreRuns : Type 0
SelectedAreRuns = (p : Task) (c : SelectionState) (s : Search) (ms : List MadeEvent) (d : SelectionState) (t : Search) → SelectedRuns p c s ms d t → Runs p s (changes_of ms) t

-- one named event more
abbrev pub SelectedGoOn : Type 0
SelectedGoOn = (p : Task) (c : SelectionState) (s : Search) (ms : List MadeEvent) (b : SelectionState) (t : Search) → SelectedRuns p c s ms b t
    → (m : MadeEvent) (d : SelectionState) (u : Search) → Selects p t b m.event d → IsOf p t m.event m.change → Goes p t m.change u → SelectedRuns p c s (ms ++ m ∷ []) d u

-- what a selection keeps is fixed by the events before
abbrev pub SelectionIsOfEvents : Type 0
SelectionIsOfEvents = (p : Task) (c : SelectionState) (s : Search) (ms : List MadeEvent) (d : SelectionState) (t : Search) → SelectedRuns p c s ms d t → d ≡ after_events c ms

-- where the programs of nodes answer the same, the events are the same, and so is the end
abbrev pub SameAnswersSameRun : Type 0
SameAnswersSameRun = (p : Task) (c : SelectionState) (s : Search) (ms ns : List MadeEvent) (b d : SelectionState) (t u : Search) → SelectedRuns p c s ms b t → SelectedRuns p c s ns d u
    → HaveSameAnswers ms ns → (ms ≡ ns) × (b ≡ d) × (t ≡ u)

-- the word that is drawn next is the one at the place of the seed's stream that tells how many were drawn; behind 2^68 of them the stream begins anew
abbrev pub WordsAreInTurn : Type 0
WordsAreInTurn = (o : Order) (ms : List MadeEvent) → word_drawn (after_events (first_selection o) ms).words ≡ word_at 10 (key_of (key_of_seed o.seed)) 0 (words_count o.walk ms % 2 ^ 68)
