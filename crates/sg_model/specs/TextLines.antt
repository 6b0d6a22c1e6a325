-- Lines of text: words and numbers with a space between each two.
use Rattle.std.specs.Prelude.{ℕ, List, [], ◌∷◌, ◌++◌, flat_map}

-- a line: a word, then each field after one space, then a newline
abbrev pub field_line : List ℕ → List (List ℕ) → List ℕ
field_line word fields = word ++ (flat_map (λ field. 32 ∷ field) fields ++ (10 ∷ []))
