use Rattle.std.proofs.Common.{◌≡◌, ℕ, List, [], ◌∷◌, ◌++◌, map, refl, ap, ◌∙◌, append_assoc}
use Rattle.std.proofs.Common.{length}
use Rattle.std.specs.Prelude.{codes, decimal}
use Rattle.std.specs.Fmt.{signed_decimal}
use Rattle.sg_model.specs.Commitments.{weight_total}
use Rattle.std.specs.List.{flat_map}
use Rattle.sg_model.specs.declared.ticket.Ticket.{Ticket}
use Rattle.sg_model.specs.TextLines.{field_line}
use Rattle.sg_tree.specs.declared.fact.Fact.{Fact}
use Rattle.sg_tree.specs.declared.fact.Fact.TheVariants.{Water}
use Rattle.sg_cert.specs.Laws.{report_of_water}
use Rattle.sg_cert.specs.WaterText.{WaterReport, ticket_line, water_report_text}
use Rattle.sg_cert.specs.Text.{FieldRow, text_of, fraction_row, ticket_row, fact_rows, tail_rows, head_rows, report_text}
use Rattle.sg_cert.proofs.Rows.{text_then}
use Rattle.sg_cert.proofs.Trees.{rows_closed}
use Rattle.sg_cert.proofs.laws.water_text_agrees.Goals as goal

ticket_lines : (ts : List Ticket) → text_of (map ticket_row ts) ≡ flat_map ticket_line ts
ticket_lines [] = refl
ticket_lines (t ∷ ts) = ap (λ (rest : List ℕ). ticket_line t ++ rest) (ticket_lines ts)

agrees : (r : WaterReport) → report_text (report_of_water r) ≡ water_report_text r
agrees r =
    let f : Fact = Water (record { num = r.level_num; den = r.level_den }) r.why in
    let value : FieldRow = fraction_row (codes "value") (record { num = r.value_num; den = r.value_den }) in
    let behind : List FieldRow = fact_rows f ++ tail_rows (report_of_water r) in
    let tickets : text_of ((map ticket_row r.tickets ++ value ∷ []) ++ behind) ≡ flat_map ticket_line r.tickets ++ text_of (value ∷ behind) =
    ap text_of (append_assoc (map ticket_row r.tickets) (value ∷ []) behind) ∙ text_then (map ticket_row r.tickets) (value ∷ behind) ∙ ap (λ (t : List ℕ). t ++ text_of (value ∷ behind)) (ticket_lines r.tickets) in
    ap (λ (rows : List FieldRow). text_of (head_rows (report_of_water r) ++ (rows ++ tail_rows (report_of_water r)))) (rows_closed f)
    ∙ ap (λ (t : List ℕ). field_line (codes "patrol-report") (codes "1" ∷ []) ++ (field_line (codes "tickets") (decimal (length r.tickets) ∷ signed_decimal (weight_total r.tickets) ∷ []) ++ t)) tickets

pub returns : goal.returns
returns c = agrees
