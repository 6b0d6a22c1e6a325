-- Places of a list of what each lane is told: lane 1 has place 0.
use Rattle.std.specs.Prelude.{◌≡◌, ℕ, ◌+◌, ◌<◌, ◌≤◌, ◌%◌, Bool, true, false, List, length, take, count_by, slice_index_or, Option, Some, None}
use Rattle.sg_search.specs.declared.event.Ready.{Ready}
use Rattle.rand_chacha.specs.ChaCha.{ChaCha}
use Rattle.sg_options.specs.declared.order.Walk.{Walk}
use Rattle.sg_options.specs.declared.order.Walk.TheVariants.{File, Best, Seeded}
use Rattle.sg_selection.specs.Selections.{lanes_on, word_drawn, words_behind}

-- whether a lane is told that something may happen in it
abbrev pub is_ready : Ready → Bool
is_ready Ready.Nothing = false
is_ready (Ready.Begin count) = true
is_ready Ready.Turn = true
is_ready Ready.Finish = true

-- whether the lane of this place is told so
abbrev pub is_ready_at : List Ready → ℕ → Bool
is_ready_at ready place = is_ready (slice_index_or ready place Ready.Nothing)

-- no lane is told so whose place is `from` at least and below `end`
abbrev pub NoneReady : List Ready → ℕ → ℕ → Type 0
NoneReady ready from end = (place : ℕ) → from ≤ place → place < end → is_ready_at ready place ≡ false

-- the first place from here on, or none
abbrev pub IsFirstReady : List Ready → ℕ → Option ℕ → Type 0
IsFirstReady ready from None = NoneReady ready from (length ready)
IsFirstReady ready from (Some place) = (from ≤ place) × (place < length ready) × (is_ready_at ready place ≡ true) × NoneReady ready from place

-- the next lane behind one, counted on with lane 1 after the last, or none
abbrev pub IsNextReady : List Ready → ℕ → Option ℕ → Type 0
IsNextReady ready before None = NoneReady ready 0 (length ready)
IsNextReady ready before (Some place) =
    (place < length ready) × (is_ready_at ready place ≡ true)
    × ((other : ℕ) → other < length ready → is_ready_at ready other ≡ true → lanes_on (length ready) before (place + 1) ≤ lanes_on (length ready) before (other + 1))

-- the place of number n among those that are told so, from 0, or none where they are not as many
abbrev pub IsReadyOfNumber : List Ready → ℕ → Option ℕ → Type 0
IsReadyOfNumber ready n None = count_by is_ready ready ≤ n
IsReadyOfNumber ready n (Some place) = (place < length ready) × (is_ready_at ready place ≡ true) × (count_by is_ready (take place ready) ≡ n)

-- the place that is named, and the words that are left then: none are drawn where none is named
abbrev pub IsPlaceBy : Walk → List Ready → ℕ → ChaCha → ChaCha → Option ℕ → Type 0
IsPlaceBy File ready before words left place = IsNextReady ready before place × (left ≡ words)
IsPlaceBy Best ready before words left place = IsNextReady ready before place × (left ≡ words)
IsPlaceBy Seeded ready before words left None = (count_by is_ready ready ≡ 0) × (left ≡ words)
IsPlaceBy Seeded ready before words left (Some place) = IsReadyOfNumber ready (word_drawn words % count_by is_ready ready) (Some place) × (left ≡ words_behind words)
