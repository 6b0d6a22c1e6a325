-- The words of a seed are drawn one after the other.
use Rattle.std.proofs.Common.{◌≡◌, ℕ, ◌+◌, ◌%◌, ◌^◌, List, [], ◌∷◌, ◌∙◌, ap, refl, arith}
use Rattle.std.proofs.Math.Nat.{mod-add-mod}
use Rattle.rand_chacha.specs.ChaCha.{ChaCha, key_of, word_at}
use Rattle.sg_seed.specs.Seeds.{key_of_seed}
use Rattle.sg_options.specs.declared.order.Walk.{Walk}
use Rattle.sg_options.specs.declared.order.Walk.TheVariants.{File, Best, Seeded}
use Rattle.sg_search.specs.declared.event.Event.{Event}
use Rattle.sg_search.specs.declared.event.Event.TheVariants.{Begin, Turn, Finish}
use Rattle.sg_selection.specs.Selections.{SelectionState, after_event, first_selection, word_drawn, words_after, words_behind}
use Rattle.sg_selection.specs.SelectedRuns.{MadeEvent, after_events, event_words, words_count}
use Rattle.sg_selection.specs.SelectionLaws.{WordsAreInTurn}

-- the stream of a key from a place on
abbrev from_place : List ℕ → ℕ → ChaCha
from_place key k = record { key = key; stream = 0; word_pos = k % 2 ^ 68 }

behind-one : (key : List ℕ) (k : ℕ) → words_behind (from_place key k) ≡ from_place key (k + 1)
unfolding words_behind
behind-one key k = ap (λ (n : ℕ). (let g : ChaCha = record { key = key; stream = 0; word_pos = n } in g)) (mod-add-mod k (2 ^ 68) 1)

drawn-at : (key : List ℕ) (k : ℕ) → word_drawn (from_place key k) ≡ word_at 10 key 0 (k % 2 ^ 68)
unfolding word_drawn
drawn-at key k = refl

event-moves : (walk : Walk) (e : Event) (key : List ℕ) (k : ℕ) → words_after walk e (from_place key k) ≡ from_place key (k + event_words walk e)
event-moves File e key k = let z : k ≡ k + 0 = omega arith in ap (from_place key) z
event-moves Best e key k = let z : k ≡ k + 0 = omega arith in ap (from_place key) z
event-moves Seeded (Begin lane n) key k = let z : k + 1 + 1 ≡ k + 2 = omega arith in ap words_behind (behind-one key k) ∙ behind-one key (k + 1) ∙ ap (from_place key) z
event-moves Seeded (Turn lane) key k = behind-one key k
event-moves Seeded (Finish lane) key k = behind-one key k

all-move : (ms : List MadeEvent) (c : SelectionState) (key : List ℕ) (k : ℕ) → c.words ≡ from_place key k → (after_events c ms).words ≡ from_place key (k + words_count c.walk ms)
all-move [] c key k e = let z : k ≡ k + 0 = omega arith in e ∙ ap (from_place key) z
all-move (m ∷ ms) c key k e =
    let z : k + event_words c.walk m.event + words_count c.walk ms ≡ k + (event_words c.walk m.event + words_count c.walk ms) = omega arith in
    all-move ms (after_event c m.event) key (k + event_words c.walk m.event) (ap (words_after c.walk m.event) e ∙ event-moves c.walk m.event key k) ∙ ap (from_place key) z

pub words_in_turn : WordsAreInTurn
words_in_turn o ms =
    let key = key_of (key_of_seed o.seed) in
    let z : 0 + words_count o.walk ms ≡ words_count o.walk ms = omega arith in
    ap word_drawn (all-move ms (first_selection o) key 0 refl ∙ ap (from_place key) z) ∙ drawn-at key (words_count o.walk ms)
