-- The text of a report: its lines, each a list of fields, with one spelling for each number.
use Rattle.std.specs.Prelude.{ℕ, List, [], ◌∷◌, ◌++◌, length, map, Option, Some, None, codes, decimal}
use Rattle.std.specs.Fmt.{signed_decimal}
use Rattle.std.specs.List.{flat_map}
use Rattle.sg_model.specs.declared.ticket.Ticket.{Ticket}
use Rattle.sg_model.specs.TextLines.{field_line}
use Rattle.sg_cert.specs.WaterText.{reason_fields}
use Rattle.sg_frac.specs.Fractions.{Fraction}
use Rattle.sg_num.specs.declared.step.Op.{Op}
use Rattle.sg_num.specs.declared.step.Op.TheVariants.{Sum, Less, Times}
use Rattle.sg_tree.specs.Claims.{Claimed}
use Rattle.sg_tree.specs.declared.fact.Mark.{Mark}
use Rattle.sg_tree.specs.declared.fact.Line.{Line}
use Rattle.sg_tree.specs.declared.fact.Fact.{Fact}
use Rattle.sg_tree.specs.declared.fact.Fact.TheVariants.{Plays, Cover, Water}
use Rattle.sg_tree.specs.declared.fix.Fix.{Fix}
use Rattle.sg_tree.specs.declared.tree.Tree.{Tree}
use Rattle.sg_tree.specs.declared.tree.Tree.TheOpen.{Tree-F}
use Rattle.sg_tree.specs.declared.tree.Tree.TheFolds.{fold-Tree}
use Rattle.sg_tree.specs.declared.report.Cap.{Cap}
use Rattle.sg_tree.specs.declared.report.Cause.{Cause}
use Rattle.sg_tree.specs.declared.report.Cause.TheVariants as causes
use Rattle.sg_tree.specs.declared.report.Ending.{Ending}
use Rattle.sg_tree.specs.declared.report.Ending.TheVariants.{Optimal, Gap}
use Rattle.sg_tree.specs.declared.report.Report.{Report}

-- a line is its fields
abbrev pub FieldRow : Type 0
FieldRow = List (List ℕ)

-- a fraction behind a word
abbrev pub fraction_row : List ℕ → Fraction → FieldRow
fraction_row word f = word ∷ signed_decimal f.num ∷ signed_decimal f.den ∷ []

-- a ticket: its weight, then its choices
abbrev pub ticket_row : Ticket → FieldRow
ticket_row t = codes "t" ∷ signed_decimal t.weight ∷ map decimal t.play.code

-- how many plays the tickets have and their total, then the tickets
abbrev pub claim_rows : Claimed → List FieldRow
claim_rows c = (codes "tickets" ∷ decimal (length c.tickets) ∷ signed_decimal c.total ∷ []) ∷ map ticket_row c.tickets

abbrev pub mark_row : Mark → FieldRow
mark_row m = codes "m" ∷ decimal m.l ∷ decimal m.a ∷ signed_decimal m.v ∷ []

abbrev pub line_row : Line → FieldRow
line_row c = codes "c" ∷ decimal c.row ∷ signed_decimal c.v ∷ []

-- a fact: its kind with its numbers, then its multipliers
abbrev pub fact_rows : Fact → List FieldRow
fact_rows (Plays rho mu marks) = (codes "plays" ∷ signed_decimal rho ∷ signed_decimal mu ∷ decimal (length marks) ∷ []) ∷ map mark_row marks
fact_rows (Cover rho mu lines) = (codes "cover" ∷ signed_decimal rho ∷ signed_decimal mu ∷ decimal (length lines) ∷ []) ∷ map line_row lines
fact_rows (Water level reason) = (codes "water" ∷ signed_decimal level.num ∷ signed_decimal level.den ∷ reason_fields reason) ∷ []

-- a cap: plain where it has no facts, else its facts behind their number
abbrev pub cap_row : Cap → FieldRow
cap_row c = kind c.proof
  where
    kind : List Fact → FieldRow
    kind [] = codes "cap" ∷ decimal c.l ∷ codes "plain" ∷ signed_decimal c.v ∷ []
    kind (f ∷ fs) = codes "cap" ∷ decimal c.l ∷ codes "proved" ∷ signed_decimal c.v ∷ decimal (length (f ∷ fs)) ∷ []

abbrev pub cap_rows : Cap → List FieldRow
cap_rows c = cap_row c ∷ flat_map fact_rows c.proof

-- a base: open, or a fact
abbrev pub base_rows : Option Fact → List FieldRow
base_rows None = (codes "open" ∷ []) ∷ []
base_rows (Some f) = fact_rows f

abbrev pub split_row : ℕ → ℕ → FieldRow
split_row l n = codes "split" ∷ decimal l ∷ decimal n ∷ []

-- one node, with the rows of each part in its place
abbrev pub rows_of_node : Tree-F (List FieldRow) → List FieldRow
rows_of_node Tree-F.Unproved = base_rows None
rows_of_node (Tree-F.Closed f) = fact_rows f
rows_of_node (Tree-F.Split l base parts) = (split_row l (length parts) ∷ base_rows base) ++ flat_map (λ rows. rows) parts

-- a node: open, a fact, or a split with its base and its parts behind it
abbrev pub node_rows : Tree → List FieldRow
node_rows = fold-Tree (List FieldRow) rows_of_node

-- the first type, the number of actions and the actions
abbrev pub fix_fields : Fix → FieldRow
fix_fields f = decimal f.first ∷ decimal (length f.acts) ∷ map decimal f.acts

abbrev pub op_word : Op → List ℕ
op_word Sum = codes "sum"
op_word Less = codes "less"
op_word Times = codes "times"

abbrev pub cause_fields : Cause → FieldRow
cause_fields (causes.Nodes n) = codes "nodes" ∷ decimal n ∷ []
cause_fields (causes.Pivots n fix) = codes "pivots" ∷ decimal n ∷ fix_fields fix
cause_fields (causes.Looks n step fix) = codes "looks" ∷ decimal n ∷ decimal step ∷ fix_fields fix
cause_fields (causes.Wide name wide step fix) = codes "wide" ∷ decimal name ∷ op_word wide.op ∷ signed_decimal wide.left ∷ signed_decimal wide.right ∷ decimal step ∷ fix_fields fix

abbrev pub verdict_row : Ending → FieldRow
verdict_row Optimal = codes "verdict" ∷ codes "optimal" ∷ []
verdict_row (Gap cause) = codes "verdict" ∷ codes "gap" ∷ cause_fields cause

-- the lines up to the caps, and those behind the tree
abbrev pub head_rows : Report → List FieldRow
head_rows r = (codes "patrol-report" ∷ codes "1" ∷ []) ∷ (claim_rows r.tickets ++ fraction_row (codes "value") r.value ∷ [])

abbrev pub tail_rows : Report → List FieldRow
tail_rows r = fraction_row (codes "upper") r.upper ∷ verdict_row r.ending ∷ (codes "end" ∷ []) ∷ []

-- all lines of a report
abbrev pub report_rows : Report → List FieldRow
report_rows r = head_rows r ++ (flat_map cap_rows r.caps ++ (node_rows r.tree ++ tail_rows r))

-- the bytes of a line: a space before each field but the first, and a newline at the end
abbrev pub spell : FieldRow → List ℕ
spell [] = 10 ∷ []
spell (word ∷ fs) = field_line word fs

abbrev pub text_of : List FieldRow → List ℕ
text_of rows = flat_map spell rows

-- the text of a report
abbrev pub report_text : Report → List ℕ
report_text r = text_of (report_rows r)

-- fields, each behind a space
abbrev pub spaced : List (List ℕ) → List ℕ
spaced fs = flat_map (λ f. 32 ∷ f) fs
