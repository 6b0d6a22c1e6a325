-- What stands in a report's text at the line that each test of the report names.
use Rattle.std.specs.Prelude.{◌≡◌, ℕ, ℤ, List, [], ◌∷◌, length, All, Contains, codes, decimal}
use Rattle.std.specs.Fmt.{signed_decimal}
use Rattle.std.specs.List.{AllByRecursion}
use Rattle.sg_model.specs.declared.ticket.Ticket.{Ticket}
use Rattle.sg_model.specs.Sums.{nth}
use Rattle.sg_model.specs.Games.{Game}
use Rattle.sg_tree.specs.declared.fact.Fact.{Fact}
use Rattle.sg_tree.specs.declared.report.Cap.{Cap}
use Rattle.sg_tree.specs.declared.report.Report.{Report}
use Rattle.sg_cert.specs.Text.{FieldRow, ticket_row, fact_rows, cap_row, fraction_row, node_rows, report_rows, spell, split_row, verdict_row}
use Rattle.sg_report_laws.specs.Faults.{newlines}
use Rattle.sg_bounds.specs.Checking.{Stop, Test, legal, weights_fit, totalled, lowest, value_fits, valued, capped, cap_within, caps_end, rooted, leveled, forks, sized, holds, bounded, topped, judged, stops_of}

-- a row whose fields hold no newline is spelled as one line
abbrev pub RowsAreLines : Type 0
RowsAreLines = (row : FieldRow) → AllByRecursion (λ (field : List ℕ). newlines field ≡ 0) row → newlines (spell row) ≡ 1

-- the first of some rows
abbrev pub first_row : List FieldRow → FieldRow
first_row rows = nth rows 1 []

-- the row of the number of tickets and their total
abbrev pub total_row : Report → FieldRow
total_row r = codes "tickets" ∷ decimal (length r.tickets.tickets) ∷ signed_decimal r.tickets.total ∷ []

-- what the row is on the line that a test names
abbrev pub IsRowOf : Report → Test → FieldRow → Type 0
IsRowOf r (legal play) row = (t : Ticket) × Contains r.tickets.tickets t × (t.play.code ≡ play) × (row ≡ ticket_row t)
IsRowOf r weights_fit row = row ≡ total_row r
IsRowOf r totalled row = row ≡ total_row r
IsRowOf r lowest row = row ≡ total_row r
IsRowOf r value_fits row = row ≡ fraction_row (codes "value") r.value
IsRowOf r valued row = row ≡ fraction_row (codes "value") r.value
IsRowOf r (capped l c) row = Contains r.caps c × (row ≡ cap_row c)
IsRowOf r (cap_within l v fs) row = (c : Cap) × Contains r.caps c × (c.v ≡ v) × (c.proof ≡ fs) × (row ≡ cap_row c)
IsRowOf r caps_end row = row ≡ first_row (node_rows r.tree)
IsRowOf r rooted row = row ≡ first_row (node_rows r.tree)
IsRowOf r leveled row = row ≡ first_row (node_rows r.tree)
IsRowOf r (forks acts l count) row = row ≡ split_row l count
IsRowOf r (sized fix f) row = row ≡ first_row (fact_rows f)
IsRowOf r (holds fix f) row = row ≡ first_row (fact_rows f)
IsRowOf r (bounded n f) row = row ≡ first_row (fact_rows f)
IsRowOf r topped row = row ≡ fraction_row (codes "upper") r.upper
IsRowOf r judged row = row ≡ verdict_row r.ending

-- each test names the line on which what it is about stands
abbrev pub StopLines : Type 0
StopLines = (g : Game) (r : Report) → All (λ (s : Stop). IsRowOf r s.test (nth (report_rows r) s.line [])) (stops_of g r)

-- the row of a cap's bound spells that bound, and that it is plain or has as many facts as the test is about
abbrev pub CapRowsSpell : Type 0
CapRowsSpell = (r : Report) (l : ℕ) (v : ℤ) (fs : List Fact) (row : FieldRow) → IsRowOf r (cap_within l v fs) row → (k : ℕ) × (row ≡ cap_row (record { l = k; v = v; proof = fs }))
