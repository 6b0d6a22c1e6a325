-- Words read by a made-up table, as worked out by hand, and which words are refused.
use Rattle.std.specs.Prelude.{◌≡◌, ◌<◌, ℕ, true, List, [], ◌∷◌, length, Option, Some, None, codes, option_map}
use Rattle.std.specs.List.{Contains}
use Rattle.sg_words.specs.Words.{Text, Piece, values_of}
use Rattle.sg_words.specs.Kinds.{any, fixed, number, choice}
use Rattle.sg_words.specs.Usages.{Setting, Usage, arguments_of, option_names, reading_of, usage_named}
use Rattle.sg_words.specs.Stray.{has_stray}

-- `list NAME NAME [--seed N]`, with a number from 0 to 2^64 - 1, and `try game NAME [--lanes N] [--order WORD]`, with a number from 2 to 8
abbrev pub sample : List Usage
sample = record {
  name = codes "list";
  positionals = any ∷ any ∷ [];
  options = record { name = codes "seed"; kind = number 0 18446744073709551615; default = codes "0" } ∷ [];
}
    ∷ record {
      name = codes "try";
      positionals = fixed (codes "game") ∷ any ∷ [];
      options = record { name = codes "lanes"; kind = number 2 8; default = codes "2" }
          ∷ record { name = codes "order"; kind = choice (codes "file" ∷ codes "best" ∷ []); default = codes "file" } ∷ [];
    }
    ∷ []

-- the arguments that words behind `list`, and behind `try`, give
abbrev pub listed_words : List Text → Option (List Text)
listed_words words = option_map (λ (given : Text × List Text). given.1) (reading_of sample (codes "list" ∷ words))

abbrev pub tried : List Text → Option (List Text)
tried words = option_map (λ (given : Text × List Text). given.1) (reading_of sample (codes "try" ∷ words))

-- names and values
pub record WorkedOptions : Type 0 where
  pub default : listed_words (codes "g" ∷ codes "r" ∷ []) ≡ Some (codes "g" ∷ codes "r" ∷ codes "0" ∷ [])
  pub apart : listed_words (codes "g" ∷ codes "--seed" ∷ codes "3" ∷ codes "r" ∷ []) ≡ Some (codes "g" ∷ codes "r" ∷ codes "3" ∷ [])
  pub joined : listed_words (codes "--seed=3" ∷ codes "g" ∷ codes "r" ∷ []) ≡ Some (codes "g" ∷ codes "r" ∷ codes "3" ∷ [])
  pub last : listed_words (codes "g" ∷ codes "r" ∷ codes "--seed=18446744073709551615" ∷ []) ≡ Some (codes "g" ∷ codes "r" ∷ codes "18446744073709551615" ∷ [])
  pub past : listed_words (codes "g" ∷ codes "r" ∷ codes "--seed=18446744073709551616" ∷ []) ≡ None
  pub leading_zero : listed_words (codes "g" ∷ codes "r" ∷ codes "--seed=03" ∷ []) ≡ None
  pub signed : listed_words (codes "g" ∷ codes "r" ∷ codes "--seed=+3" ∷ []) ≡ None
  pub empty : listed_words (codes "g" ∷ codes "r" ∷ codes "--seed=" ∷ []) ≡ None
  pub valueless : listed_words (codes "g" ∷ codes "r" ∷ codes "--seed" ∷ []) ≡ None
  pub twice : listed_words (codes "g" ∷ codes "r" ∷ codes "--seed=3" ∷ codes "--seed" ∷ codes "3" ∷ []) ≡ None
  pub front : listed_words (codes "g" ∷ codes "r" ∷ codes "--see" ∷ codes "3" ∷ []) ≡ None
  pub hyphen : listed_words (codes "g" ∷ codes "r" ∷ codes "--seed" ∷ codes "-1" ∷ []) ≡ None
  pub other : listed_words (codes "g" ∷ codes "r" ∷ codes "--lanes" ∷ codes "2" ∷ []) ≡ None

-- positional words, and what stands behind `--`
pub record WorkedPositionals : Type 0 where
  pub ended : listed_words (codes "g" ∷ codes "--" ∷ codes "--seed=3" ∷ []) ≡ Some (codes "g" ∷ codes "--seed=3" ∷ codes "0" ∷ [])
  pub end_is_no_value : listed_words (codes "g" ∷ codes "r" ∷ codes "--seed" ∷ codes "--" ∷ codes "3" ∷ []) ≡ None
  pub few : listed_words (codes "g" ∷ []) ≡ None
  pub many : listed_words (codes "g" ∷ codes "r" ∷ codes "x" ∷ []) ≡ None
  pub single_hyphen : listed_words (codes "g" ∷ codes "-" ∷ []) ≡ None
  pub fixed : tried (codes "game" ∷ codes "f" ∷ []) ≡ Some (codes "game" ∷ codes "f" ∷ codes "2" ∷ codes "file" ∷ [])
  pub not_fixed : tried (codes "f" ∷ codes "game" ∷ []) ≡ None
  pub least : tried (codes "game" ∷ codes "f" ∷ codes "--lanes=2" ∷ []) ≡ Some (codes "game" ∷ codes "f" ∷ codes "2" ∷ codes "file" ∷ [])
  pub greatest : tried (codes "game" ∷ codes "f" ∷ codes "--lanes=8" ∷ []) ≡ Some (codes "game" ∷ codes "f" ∷ codes "8" ∷ codes "file" ∷ [])
  pub below : tried (codes "game" ∷ codes "f" ∷ codes "--lanes=1" ∷ []) ≡ None
  pub above : tried (codes "game" ∷ codes "f" ∷ codes "--lanes=9" ∷ []) ≡ None
  pub chosen : tried (codes "game" ∷ codes "f" ∷ codes "--order" ∷ codes "best" ∷ []) ≡ Some (codes "game" ∷ codes "f" ∷ codes "2" ∷ codes "best" ∷ [])
  pub no_choice : tried (codes "game" ∷ codes "f" ∷ codes "--order" ∷ codes "bes" ∷ []) ≡ None

pub record WorkedWords : Type 0 where
  pub options : WorkedOptions
  pub positionals : WorkedPositionals

-- ---- what is refused

-- a word before `--` that begins with a hyphen and is no option of the command
abbrev pub StrayIsRefused : Type 0
StrayIsRefused = (usages : List Usage) (name : Text) (words : List Text) (usage : Usage) → usage_named usages name ≡ Some usage
    → has_stray (option_names usage) words ≡ true → reading_of usages (name ∷ words) ≡ None

-- an option with two values or more
abbrev pub TwiceIsRefused : Type 0
TwiceIsRefused = (usage : Usage) (setting : Setting) (pieces : List Piece) → Contains usage.options setting → 1 < length (values_of setting.name pieces)
    → arguments_of usage pieces ≡ None

pub record RefusedWords : Type 0 where
  pub stray : StrayIsRefused
  pub twice : TwiceIsRefused
