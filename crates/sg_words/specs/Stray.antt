-- The words that are refused before the parse.
use Rattle.std.specs.Prelude.{Bool, true, false, ◌&&◌, ◌||◌, not, List, [], ◌∷◌, Option, Some, None, if◌then◌else◌}
use Rattle.clap.specs.Lexer.{long_of}
use Rattle.sg_words.specs.Words.{Text, is_end_of_options, begins_with_hyphen, has_name}

-- the name is one of these
abbrev pub is_known : List Text → Option (Text × Option Text) → Bool
is_known names None = false
is_known names (Some written) = has_name names written.0

-- the word is `--name` or `--name=value`, of one of these names
abbrev pub is_written : List Text → Text → Bool
is_written names word = is_known names (long_of word)

-- the word begins with a hyphen and is no option of one of these names
abbrev pub is_stray : List Text → Text → Bool
is_stray names word = begins_with_hyphen word && not (is_written names word)

-- one of the words before the first `--` is such a word
abbrev pub has_stray : List Text → List Text → Bool
has_stray names [] = false
has_stray names (word ∷ words) = if is_end_of_options word then false else is_stray names word || has_stray names words
