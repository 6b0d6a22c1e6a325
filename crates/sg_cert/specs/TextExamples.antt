-- Reports of one water level and their texts, written out by hand.
use Rattle.std.specs.Prelude.{◌≡◌, ℕ, List, [], ◌∷◌, ◌++◌, flat_map, codes, ℤ, pos}
use Rattle.sg_model.specs.declared.level.Level.{Level}
use Rattle.sg_model.specs.declared.level.Level.TheVariants.{Resources, Target}
use Rattle.sg_model.specs.Examples.{minus, two_tickets}
use Rattle.sg_cert.specs.WaterText.{WaterReport, water_report_text}

-- two tickets of one choice each, with a value, a level and a bound
abbrev pub told : ℤ → ℤ → ℤ → ℤ → Level → ℤ → ℤ → WaterReport
told a b c d why e f =
    record { tickets = two_tickets; value_num = a; value_den = b; level_num = c; level_den = d; why = why; upper_num = e; upper_den = f }

-- lines, each with its newline
abbrev pub lines : List (List ℕ) → List ℕ
lines texts = flat_map (λ text. text ++ (10 ∷ [])) texts

-- the text of a report, with either reason, and with a level below 0 and other numbers everywhere
pub record AreTexts : Type 0 where
  pub by_resources : water_report_text (told (pos 2) (pos 3) (pos 4) (pos 3) Resources (pos 2) (pos 3)) ≡ lines
      (codes "patrol-report 1" ∷ codes "tickets 2 3" ∷ codes "t 2 1" ∷ codes "t 1 2" ∷ codes "value 2 3" ∷ codes "water 4 3 resources" ∷ codes "upper 2 3"
      ∷ codes "verdict optimal" ∷ codes "end" ∷ [])
  pub by_target : water_report_text (told (minus 10) (pos 11) (minus 12) (pos 13) (Target 14) (pos 15) (pos 16)) ≡ lines
      (codes "patrol-report 1" ∷ codes "tickets 2 3" ∷ codes "t 2 1" ∷ codes "t 1 2" ∷ codes "value -10 11" ∷ codes "water -12 13 target 14" ∷ codes "upper 15 16"
      ∷ codes "verdict optimal" ∷ codes "end" ∷ [])
