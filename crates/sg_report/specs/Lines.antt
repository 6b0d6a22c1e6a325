-- The lines of a table, from what they show.
use Rattle.std.specs.Prelude.{ℕ, List, [], ◌∷◌, ◌++◌, ℤ, Option, codes}
use Rattle.std.specs.Option.{option_map_or}
use Rattle.std.specs.Fmt.{signed_decimal}
use Rattle.sg_model.specs.Games.{Game, attacker}
use Rattle.sg_model.specs.TextLines.{field_line}
use Rattle.sg_model.specs.Sums.{nth}
use Rattle.sg_frac.specs.Fractions.{Fraction, fraction_text}
use Rattle.sg_game.specs.Counts.{action_name}

-- target n with its count
abbrev pub target_text : Game → ℕ → ℤ → List ℕ
target_text g n count = field_line (codes "target") (nth g.goals n [] ∷ signed_decimal count ∷ [])

-- type l with the action that it takes
abbrev pub answer_line : Game → ℕ → Option ℕ → List ℕ
answer_line g l answer = field_line (codes "type") ((attacker g l).name ∷ codes "attacks" ∷ option_map_or (action_name g l) answer [] ∷ [])

-- the lines above those of the targets
abbrev pub head_text : Fraction → Fraction → ℤ → List ℕ
head_text value upper total =
    field_line (codes "value") (fraction_text value ∷ []) ++ (field_line (codes "upper") (fraction_text upper ∷ []) ++ field_line (codes "tickets") (signed_decimal total ∷ []))
