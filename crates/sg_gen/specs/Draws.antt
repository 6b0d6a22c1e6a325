-- The words that a seed gives: the key stream of ChaCha with 20 rounds, stream 0, from its start.
use Rattle.std.specs.Prelude.{ℕ, ◌+◌, ◌*◌, List, map}
use Rattle.sg_model.specs.Sums.{numbers_from}
use Rattle.rand_chacha.specs.ChaCha.{ChaCha, key_of, word_at}
use Rattle.sg_seed.specs.Seeds.{key_of_seed}

-- the word at place k
unfoldable pub word_of_seed : ℕ → ℕ → ℕ
word_of_seed seed k = word_at 10 (key_of (key_of_seed seed)) 0 k

-- the generator that gives the word at place k next
unfoldable pub generator_at : ℕ → ℕ → ChaCha
generator_at seed k = record { key = key_of (key_of_seed seed); stream = 0; word_pos = k }

-- n things by their numbers from 0, each made of so many words, one after another from place k
abbrev pub by_number : {X : Type 0} → (ℕ → ℕ → ℕ → X) → ℕ → ℕ → ℕ → ℕ → List X
by_number f each n seed k = map (λ i. f i seed (k + i * each)) (numbers_from 0 n)

-- the same where they don't depend on their numbers
abbrev pub in_turn : {X : Type 0} → (ℕ → ℕ → X) → ℕ → ℕ → ℕ → ℕ → List X
in_turn f each n seed k = by_number (λ i. f) each n seed k
