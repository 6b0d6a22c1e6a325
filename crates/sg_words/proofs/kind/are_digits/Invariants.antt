use Rattle.std.proofs.Common.{◌≡◌, drop}
use Rattle.std.specs.List.{list_all}
use Rattle.sg_words.specs.Kinds.{is_decimal_digit}
use Rattle.sg_words.proofs.kind.are_digits.Given as goal

abbrev pub invariant-loop-code : goal.invariant-loop-code
invariant-loop-code l = list_all is_decimal_digit (drop l.code-index l.text) ≡ list_all is_decimal_digit l.text
