-- The generator of a seed.
use Rattle.std.specs.Prelude.{ℕ, List, ◌++◌, replicate}
use Rattle.std.specs.Int.{w64, to_le_bytes}
use Rattle.rand_core.specs.Stream.{Stream}
use Rattle.rand_core.specs.Steps.{stream_of, steps_u32}
use Rattle.rand_chacha.specs.ChaCha.{ChaCha, next_word, of_seed}

-- the key of a seed: its eight bytes, low byte first, and 24 zero bytes
abbrev pub key_of_seed : ℕ → List ℕ
key_of_seed seed = to_le_bytes w64 seed ++ replicate 24 0

-- the start of stream 0 of ChaCha with this key
abbrev pub generator_of_seed : ℕ → ChaCha
generator_of_seed seed = of_seed (key_of_seed seed)

-- what it gives with 20 rounds
abbrev pub seeded : ℕ → Stream
seeded seed = stream_of (steps_u32 (next_word 10)) (generator_of_seed seed)
