-- The bytes that a sink took, which it may tell or not, before and after a piece was put.
use Rattle.std.specs.Prelude.{◌≡◌, ℕ, List, ◌++◌, take, Option, option_map}

-- The piece was added, where the bytes are told. They are told after it where they were before.
abbrev pub Takes : Option (List ℕ) → Option (List ℕ) → List ℕ → Type 0
Takes before after piece = after ≡ option_map (λ taken. taken ++ piece) before

-- A front of the piece was added.
abbrev pub TakesFront : Option (List ℕ) → Option (List ℕ) → List ℕ → Type 0
TakesFront before after piece = (n : ℕ) × Takes before after (take n piece)
