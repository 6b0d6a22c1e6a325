-- The text of a report that has one water-level fact.
use Rattle.std.specs.Prelude.{ℕ, List, [], ◌∷◌, ◌++◌, map, flat_map, length, ℤ, codes, decimal}
use Rattle.std.specs.Fmt.{signed_decimal}
use Rattle.sg_model.specs.declared.level.Level.{Level}
use Rattle.sg_model.specs.declared.level.Level.TheVariants.{Resources, Target}
use Rattle.sg_model.specs.declared.ticket.Ticket.{Ticket}
use Rattle.sg_model.specs.Commitments.{weight_total}
use Rattle.sg_model.specs.TextLines.{field_line}

-- what a report says of a game of identical patrols: the tickets, their value, the level with its reason, and the upper bound
pub record WaterReport : Type 0 where
  pub tickets : List Ticket
  pub value_num : ℤ
  pub value_den : ℤ
  pub level_num : ℤ
  pub level_den : ℤ
  pub why : Level
  pub upper_num : ℤ
  pub upper_den : ℤ

-- a ticket: its weight, then its choices
abbrev pub ticket_line : Ticket → List ℕ
ticket_line x = field_line (codes "t") (signed_decimal x.weight ∷ map decimal x.play.code)

-- the fields that tell why a level holds
abbrev pub reason_fields : Level → List (List ℕ)
reason_fields Resources = codes "resources" ∷ []
reason_fields (Target j) = codes "target" ∷ decimal j ∷ []

-- the lines, one after another
abbrev pub water_report_text : WaterReport → List ℕ
water_report_text r =
    field_line (codes "patrol-report") (codes "1" ∷ [])
    ++ (field_line (codes "tickets") (decimal (length r.tickets) ∷ signed_decimal (weight_total r.tickets) ∷ [])
    ++ (flat_map ticket_line r.tickets
    ++ (field_line (codes "value") (signed_decimal r.value_num ∷ signed_decimal r.value_den ∷ [])
    ++ (field_line (codes "water") (signed_decimal r.level_num ∷ signed_decimal r.level_den ∷ reason_fields r.why)
    ++ (field_line (codes "upper") (signed_decimal r.upper_num ∷ signed_decimal r.upper_den ∷ [])
    ++ (field_line (codes "verdict") (codes "optimal" ∷ [])
    ++ field_line (codes "end") []))))))
