-- The texts of small games.
use Rattle.std.proofs.Common.{◌≡◌, ◌∷◌, [], decimal, refl, arith}
use Rattle.std.proofs.lemmas.Fmt.{decimal_digit}
use Rattle.sg_format.specs.GameText.{game_text}
use Rattle.sg_format.specs.GameTextLaws.{WorkedTexts}

pub worked_texts : WorkedTexts
unfolding game_text
worked_texts =
    let zero : decimal 0 ≡ 48 ∷ [] = decimal_digit 0 (omega arith) in
    let one : decimal 1 ≡ 49 ∷ [] = decimal_digit 1 (omega arith) in
    let two : decimal 2 ≡ 50 ∷ [] = decimal_digit 2 (omega arith) in
    let three : decimal 3 ≡ 51 ∷ [] = decimal_digit 3 (omega arith) in
    let four : decimal 4 ≡ 52 ∷ [] = decimal_digit 4 (omega arith) in
    let five : decimal 5 ≡ 53 ∷ [] = decimal_digit 5 (omega arith) in
    record {
      listed = rw (zero, one) refl;
      scaled = rw (zero, one, two, four) refl;
      matrix = rw (zero, one, two, three, four) refl;
      empty = rw (zero, one, five) refl;
    }
