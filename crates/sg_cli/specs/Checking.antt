-- The command `check GAME REPORT`.
use Rattle.std.specs.Prelude.{◌≡◌, ◌++◌, ℕ, false, List, [], ◌∷◌, codes, if◌then◌else◌}
use Rattle.std.specs.Fmt.{signed_decimal}
use Rattle.sg_frac.specs.Fractions.{Fraction}
use Rattle.sg_tree.specs.declared.report.Report.{Report}
use Rattle.sg_bounds.specs.Accepted.{is_optimal}
use Rattle.sg_cli.specs.Inputs.{Content, game, report}
use Rattle.sg_cli.specs.Commands.{Command}
use Rattle.sg_cli.specs.Judging.{judging}

-- a fraction as two numbers, and what follows them
abbrev pub parts_text : Fraction → List ℕ → List ℕ
parts_text f rest = signed_decimal f.num ++ (codes " " ++ (signed_decimal f.den ++ rest))

-- the line that accepts a report whose bounds meet: its value
abbrev pub optimal_text : Fraction → List ℕ
optimal_text value = codes "yes optimal " ++ parts_text value (codes "\n")

-- the line that accepts one whose bounds don't: its value and its upper bound
abbrev pub gap_text : Fraction → Fraction → List ℕ
gap_text value upper = codes "yes gap " ++ parts_text value (codes " " ++ parts_text upper (codes "\n"))

-- the line that accepts a report
abbrev pub yes_text : Report → List ℕ
yes_text r = if is_optimal r.ending then optimal_text r.value else gap_text r.value r.upper

-- the status that accepts it
abbrev pub yes_status : Report → ℕ
yes_status r = if is_optimal r.ending then 0 else 10

-- the status tells whether the report's bounds meet
abbrev pub ends_yes : List Content → ℕ → Type 0
ends_yes (game g ∷ report r ∷ []) status = status ≡ yes_status r
ends_yes _ status = ⊥

-- and the yes to it is written
abbrev pub writes_yes : List Content → ℕ → List ℕ → Type 0
writes_yes (game g ∷ report r ∷ []) status text = text ≡ yes_text r
writes_yes _ status text = ⊥

-- the command
abbrev pub checking : List ℕ → List ℕ → Command
checking name named = record { plan = judging name named; ends = ends_yes; writes = writes_yes; is_formed_late = false }
