-- What a positional word or an option's value must be.
use Rattle.std.specs.Prelude.{ℕ, ◌^◌, Bool, true, false, ◌==◌, ◌&&◌, ◌||◌, not, List, [], ◌∷◌, length, nat_le, nat_lt, map, Option, Some, None, unwrap_or, if◌then◌else◌}
use Rattle.std.specs.List.{list_all, list_any}
use Rattle.std.specs.Str.{bytes_eq, byte}
use Rattle.std.specs.Str.Parse.{digits_value}
use Rattle.sg_words.specs.Words.{Text}
use Rattle.sg_words.specs.declared.kind.Kind.{Kind as CodeKind}
use Rattle.sg_words.specs.declared.kind.Kind.TheVariants.{Any, Fixed, Number, Choice}

-- any text, this word, a number in this range, or one of these words
pub data Kind : Type 0 where
  any : Kind
  fixed : (word : Text) → Kind
  number : (least greatest : ℕ) → Kind
  choice : (words : List Text) → Kind

-- a decimal digit
abbrev pub is_decimal_digit : ℕ → Bool
is_decimal_digit code = nat_le (byte "0") code && nat_le code (byte "9")

-- the text begins with the digit `0` and goes on
abbrev pub has_leading_zero : Text → Bool
has_leading_zero [] = false
has_leading_zero (first ∷ []) = false
has_leading_zero (first ∷ second ∷ others) = first == byte "0"

-- 1 to 20 decimal digits, with no sign, and no leading zero but in `0` itself
abbrev pub is_number : Text → Bool
is_number text = nat_le 1 (length text) && (nat_le (length text) 20 && (list_all is_decimal_digit text && not (has_leading_zero text)))

-- the number that the digits write
abbrev pub value_of_digits : Text → ℕ
value_of_digits text = digits_value 10 text

-- the number that a text writes in its one spelling, if it fits 64 bits
abbrev pub number_in : Text → Option ℕ
number_in text = if is_number text && nat_lt (value_of_digits text) (2 ^ 64) then Some (value_of_digits text) else None

-- the same, and 0 for a text that writes none
abbrev pub number_read : Text → ℕ
number_read text = unwrap_or (number_in text) 0

-- the text is of this kind
abbrev pub is_of : Kind → Text → Bool
is_of any text = true
is_of (fixed word) text = bytes_eq word text
is_of (number least greatest) text = is_number text && (nat_le least (value_of_digits text) && nat_le (value_of_digits text) greatest)
is_of (choice words) text = list_any (λ (word : Text). bytes_eq word text) words

-- the kind that the code writes
abbrev pub kind_written : CodeKind → Kind
kind_written Any = any
kind_written (Fixed word) = fixed word.now
kind_written (Number least greatest) = number least greatest
kind_written (Choice words) = choice (map (λ word. word.now) words.now)
