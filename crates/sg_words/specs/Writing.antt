-- How pieces are written as words: reading turned round.
use Rattle.std.specs.Prelude.{◌≡◌, ◌⊎◌, ◌↔◌, true, false, List, [], ◌∷◌, ◌++◌, map, All, Option, Some, None, codes}
use Rattle.sg_words.specs.Words.{Text, Piece, positional_word, given_option, begins_with_hyphen, has_name, pieces_of}
use Rattle.sg_words.specs.Usages.{is_option_name}

-- `--name`, and `--name=value`
abbrev pub apart : Text → Text
apart name = codes "--" ++ name

abbrev pub joined_option : Text → Text → Text
joined_option name value = codes "--" ++ (name ++ (codes "=" ++ value))

-- The words that are written before a first `--`, and those behind it, where there is one. A positional word before it doesn't begin
-- with a hyphen; an option of the command is written with its value joined to it, or in the next word, which doesn't begin with a
-- hyphen. Behind it all words are positional.
pub data Spells (names : List Text) : List Piece → List Text → Type 0 where
  done : Spells names [] []
  ended : (words : List Text) → Spells names (map positional_word words) (codes "--" ∷ words)
  plain : (word : Text) (pieces : List Piece) (words : List Text) → begins_with_hyphen word ≡ false
      → Spells names pieces words → Spells names (positional_word word ∷ pieces) (word ∷ words)
  with_apart : (name value : Text) (pieces : List Piece) (words : List Text) → has_name names name ≡ true → begins_with_hyphen value ≡ false
      → Spells names pieces words → Spells names (given_option name value ∷ pieces) (apart name ∷ value ∷ words)
  with_joined : (name value : Text) (pieces : List Piece) (words : List Text) → has_name names name ≡ true
      → Spells names pieces words → Spells names (given_option name value ∷ pieces) (joined_option name value ∷ words)
