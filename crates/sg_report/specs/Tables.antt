-- A report as a table for people: the lines, one after another.
use Rattle.std.specs.Prelude.{◌≡◌, ℕ, if◌then◌else◌, List, [], ◌∷◌, ◌++◌, map, flat_map, length, codes, ◌*ℤ◌}
use Rattle.std.specs.Option.{option_map_or}
use Rattle.std.specs.Fmt.{signed_decimal}
use Rattle.sg_model.specs.declared.ticket.Ticket.{Ticket}
use Rattle.sg_model.specs.Sums.{nth, numbers}
use Rattle.sg_model.specs.Games.{Game, attacker, is_matrix, prior_total}
use Rattle.sg_model.specs.Commitments.{cover_count, weight_on, weight_total, worth}
use Rattle.sg_model.specs.TextLines.{field_line}
use Rattle.sg_frac.specs.Fractions.{Fraction, IsReducedForm, fraction_text}
use Rattle.sg_game.specs.Counts.{action_name}
use Rattle.sg_commit.specs.Answers.{answer}

-- a target with the tickets that cover it
abbrev pub target_line : Game → List Ticket → ℕ → List ℕ
target_line g k t = field_line (codes "target") (nth g.goals t [] ∷ signed_decimal (cover_count g k t) ∷ [])

-- a row with its tickets
abbrev pub row_line : Game → List Ticket → ℕ → List ℕ
row_line g k i = field_line (codes "row") (nth g.goals i [] ∷ signed_decimal (weight_on k (i ∷ [])) ∷ [])

-- a target, or in matrix form a row
abbrev pub goal_line : Game → List Ticket → ℕ → List ℕ
goal_line g k n = if is_matrix g then row_line g k n else target_line g k n

-- a type of attacker with its answer
abbrev pub type_line : Game → List Ticket → ℕ → List ℕ
type_line g k l =
    field_line (codes "type") ((attacker g l).name ∷ codes "attacks" ∷ option_map_or (action_name g l) (answer g k l) [] ∷ [])

-- the lines: value, upper bound and number of tickets, then each target or row, then each type
abbrev pub table_lines : Game → List Ticket → Fraction → Fraction → List (List ℕ)
table_lines g k value upper =
    field_line (codes "value") (fraction_text value ∷ [])
    ∷ field_line (codes "upper") (fraction_text upper ∷ [])
    ∷ field_line (codes "tickets") (signed_decimal (weight_total k) ∷ [])
    ∷ map (goal_line g k) (numbers (length g.goals)) ++ map (type_line g k) (numbers (length g.types))

-- the text: its lines, one after another
abbrev pub table_text : Game → List Ticket → Fraction → Fraction → List ℕ
table_text g k value upper = flat_map (λ text. text) (table_lines g k value upper)

-- the text shows the tickets with this upper bound and with their value, in lowest terms
pub record IsReportTable (g : Game) (k : List Ticket) (upper : Fraction) (text : List ℕ) : Type 0 where
  pub value : Fraction
  pub reduced : IsReducedForm (worth g k) (weight_total k *ℤ prior_total g) value
  pub shown : text ≡ table_text g k value upper
