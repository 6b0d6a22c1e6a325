-- How the words behind a command's name are read: positional words, and options with their values.
use Rattle.std.specs.Prelude.{ℕ, Bool, true, false, ◌==◌, ◌&&◌, not, List, [], ◌∷◌, ◌++◌, map, Option, Some, None, option_map, codes, if◌then◌else◌}
use Rattle.std.specs.List.{list_any}
use Rattle.std.specs.Str.{bytes_eq, byte}
use Rattle.clap.specs.Lexer.{long_of}

-- a word, as its bytes
abbrev pub Text : Type 0
Text = List ℕ

-- the word `--`, after whose first use all words are positional
abbrev pub is_end_of_options : Text → Bool
is_end_of_options word = bytes_eq word (codes "--")

-- the word begins with a hyphen, as an option does
abbrev pub begins_with_hyphen : Text → Bool
begins_with_hyphen [] = false
begins_with_hyphen (first ∷ others) = first == byte "-"

-- what one or two words say: a positional word, or an option with its value
pub data Piece : Type 0 where
  positional_word : (word : Text) → Piece
  given_option : (name value : Text) → Piece

-- one of the names is this one, whole
abbrev pub has_name : List Text → Text → Bool
has_name names name = list_any (λ (known : Text). bytes_eq known name) names

-- this piece first, where the words behind it can be read
abbrev pub with_piece : Piece → Option (List Piece) → Option (List Piece)
with_piece piece = option_map (λ (pieces : List Piece). piece ∷ pieces)

-- An option with the value that is joined to it, or one that waits for the next word. `rest` is what the words behind it
-- give, by the option that waits.
abbrev pub value_read : Text → Option Text → (Option Text → Option (List Piece)) → Option (List Piece)
value_read name None rest = rest (Some name)
value_read name (Some value) rest = with_piece (given_option name value) (rest None)

-- a word written as `--name` or `--name=value`, where the command has an option of that name
abbrev pub option_read : List Text → Option (Text × Option Text) → (Option Text → Option (List Piece)) → Option (List Piece)
option_read names None rest = None
option_read names (Some written) rest = if has_name names written.0 then value_read written.0 written.1 rest else None

-- What the words say, for a command with options of these names, where this option waits for its value, if any does. The value
-- is a word that doesn't begin with a hyphen. Behind the first `--` all words are positional; before it a word that begins with
-- a hyphen is an option of the command.
unfoldable pub pieces_of : List Text → List Text → Option Text → Option (List Piece)
pieces_of names [] None = Some []
pieces_of names [] (Some name) = None
pieces_of names (word ∷ words) (Some name) =
    if begins_with_hyphen word then None else with_piece (given_option name word) (pieces_of names words None)
pieces_of names (word ∷ words) None =
    if is_end_of_options word then Some (map positional_word words)
    else (if begins_with_hyphen word then option_read names (long_of word) (pieces_of names words)
    else with_piece (positional_word word) (pieces_of names words None))

-- the positional words among the pieces, in their order
abbrev pub positional_words : List Piece → List Text
positional_words [] = []
positional_words (positional_word word ∷ pieces) = word ∷ positional_words pieces
positional_words (given_option name value ∷ pieces) = positional_words pieces

-- the values that the pieces give to the option of this name, in their order
abbrev pub values_of : Text → List Piece → List Text
values_of name [] = []
values_of name (positional_word word ∷ pieces) = values_of name pieces
values_of name (given_option other value ∷ pieces) = if bytes_eq other name then value ∷ values_of name pieces else values_of name pieces
