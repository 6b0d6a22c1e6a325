-- Worked words, and what is refused.
use Rattle.std.proofs.Common.{◌≡◌, ◌∙◌, ℕ, zero, suc, ◌<◌, Bool, true, false, List, [], ◌∷◌, ◌++◌, length, slice_index_or, Option, Some, None, refl, sym, ap, subst, arith}
use Rattle.std.specs.Prelude.{option_map, option_and_then, if◌then◌else◌}
use Rattle.sg_words.specs.Words.{Text, Piece, pieces_of, positional_words, values_of}
use Rattle.sg_words.specs.Usages.{Setting, Usage, are_of, arguments_by, arguments_given, arguments_of, option_names, option_value, reading_of, usage_named, values_by}
use Rattle.sg_words.specs.Stray.{has_stray}
use Rattle.sg_words.specs.WorkedWords.{RefusedWords, StrayIsRefused, TwiceIsRefused, WorkedOptions, WorkedPositionals, WorkedWords}
use Rattle.sg_words.proofs.Finds.{pieces_of-stray}

worked_options : WorkedOptions
unfolding pieces_of
worked_options = record {
  default = refl;
  apart = refl;
  joined = refl;
  last = refl;
  past = refl;
  leading_zero = refl;
  signed = refl;
  empty = refl;
  valueless = refl;
  twice = refl;
  front = refl;
  hyphen = refl;
  other = refl;
}

worked_positionals : WorkedPositionals
unfolding pieces_of
worked_positionals = record {
  ended = refl;
  end_is_no_value = refl;
  few = refl;
  many = refl;
  single_hyphen = refl;
  fixed = refl;
  not_fixed = refl;
  least = refl;
  greatest = refl;
  below = refl;
  above = refl;
  chosen = refl;
  no_choice = refl;
}

pub worked_words : WorkedWords
worked_words = record { options = worked_options; positionals = worked_positionals }

-- ---- what is refused

stray_is_refused : StrayIsRefused
stray_is_refused usages name words usage found stray =
    ap (option_and_then (λ (u : Usage). option_map (λ (arguments : List Text). (u.name, arguments)) (arguments_given u words))) found
    ∙ ap (λ (pieces : Option (List Piece)). option_map (λ (arguments : List Text). (usage.name, arguments)) (option_and_then (arguments_of usage) pieces))
    (pieces_of-stray (option_names usage) words stray)

two_values : (setting : Setting) (values : List Text) → 1 < length values → option_value setting values ≡ None
two_values setting [] many = absurd (omega (arith, many))
two_values setting (value ∷ []) many = absurd (omega (arith, many))
two_values setting (value ∷ second ∷ values) many = refl

nothing_joined : (o : Option Text) → option_and_then (λ (value : Text). option_map (λ (values : List Text). value ∷ values) None) o ≡ None
nothing_joined None = refl
nothing_joined (Some value) = refl

no_values : (settings : List Setting) (setting : Setting) (given : Text → List Text) (k : ℕ) → k < length settings → slice_index_or settings k setting ≡ setting → 1 < length (given setting.name)
    → values_by settings given ≡ None
no_values [] setting given k lt at many = absurd (omega (arith, lt))
no_values (first ∷ settings) setting given zero lt at many =
    ap (option_and_then (λ (value : Text). option_map (λ (values : List Text). value ∷ values) (values_by settings given)))
    (subst (λ (s : Setting). option_value s (given s.name) ≡ None) (sym at) (two_values setting (given setting.name) many))
no_values (first ∷ settings) setting given (suc k) lt at many =
    ap (λ (o : Option (List Text)). option_and_then (λ (value : Text). option_map (λ (values : List Text). value ∷ values) o) (option_value first (given first.name)))
    (no_values settings setting given k (omega (arith, lt)) at many)
    ∙ nothing_joined (option_value first (given first.name))

twice_is_refused : TwiceIsRefused
twice_is_refused usage setting pieces in_them many = go (are_of usage.positionals (positional_words pieces))
  where
    none : values_by usage.options (λ (name : Text). values_of name pieces) ≡ None
    none = no_values usage.options setting (λ (name : Text). values_of name pieces) in_them.0 in_them.1 in_them.2 many

    go : (b : Bool) → (if b then option_map (λ (values : List Text). positional_words pieces ++ values) (values_by usage.options (λ (name : Text). values_of name pieces)) else None) ≡ None
    go true = ap (option_map (λ (values : List Text). positional_words pieces ++ values)) none
    go false = refl

pub refused_words : RefusedWords
refused_words = record { stray = stray_is_refused; twice = twice_is_refused }
