-- The status of each refusal, and the line that tells it.
use Rattle.std.specs.Prelude.{ℕ, List, ◌++◌, codes, decimal}
use Rattle.std.specs.Fmt.{signed_decimal}
use Rattle.sg_model.specs.declared.fault.Place.{Place}
use Rattle.sg_model.specs.declared.fault.Place.TheVariants as places
use Rattle.sg_cli.specs.declared.input.InputKind.{InputKind}
use Rattle.sg_cli.specs.declared.input.InputKind.TheVariants as kinds
use Rattle.sg_cli.specs.declared.input.InputFault.{InputFault}
use Rattle.sg_cli.specs.declared.input.InputFault.TheVariants as faults
use Rattle.sg_cli.specs.declared.refusal.CommandRefusal.{CommandRefusal}
use Rattle.sg_cli.specs.declared.refusal.CommandRefusal.TheVariants.{NotYet, ReportWrong, RosterTooLong, NoShape}
use Rattle.sg_cli.specs.declared.refusal.Refusal.{Refusal}
use Rattle.sg_cli.specs.declared.refusal.Refusal.TheVariants.{Words, NotRead, TooLong, Refused, Own, NotWritten, Memory}

-- ---- statuses

-- of a file that holds nothing of its kind
abbrev pub fault_status : InputFault → ℕ
fault_status (faults.Game fault) = 6
fault_status (faults.Report fault) = 7

-- of a command's own refusal
abbrev pub own_status : CommandRefusal → ℕ
own_status NotYet = 3
own_status (ReportWrong line reason) = 7
own_status (RosterTooLong total) = 8
own_status NoShape = 2

-- the status with which a run ends
abbrev pub status_of : Refusal → ℕ
status_of Words = 2
status_of (NotRead kind) = 4
status_of (TooLong kind) = 5
status_of (Refused fault) = fault_status fault
status_of (Own own) = own_status own
status_of NotWritten = 9
status_of Memory = 11

-- ---- lines

-- what a line calls a file
abbrev pub kind_text : InputKind → List ℕ
kind_text kinds.Game = codes "game"
kind_text kinds.Report = codes "report"

-- where a game file breaks a rule
abbrev pub place_text : Place → List ℕ
place_text places.Document = codes "document"
place_text (places.Target n) = codes "target " ++ decimal n
place_text (places.Row n) = codes "row " ++ decimal n
place_text (places.Schedule n) = codes "schedule " ++ decimal n
place_text (places.Resource n) = codes "resource " ++ decimal n
place_text (places.Attacker n) = codes "type " ++ decimal n

-- a reason and the line of a report
abbrev pub at_line_text : ℕ → ℕ → List ℕ
at_line_text reason line = decimal reason ++ (codes " at line " ++ (decimal line ++ codes "\n"))

abbrev pub fault_line : InputFault → List ℕ
fault_line (faults.Game fault) = codes "game refused " ++ (decimal fault.reason ++ (codes " at " ++ (place_text fault.place ++ codes "\n")))
fault_line (faults.Report fault) = codes "report refused " ++ at_line_text fault.reason fault.line

abbrev pub own_line : CommandRefusal → List ℕ
own_line NotYet = codes "not yet\n"
own_line (ReportWrong line reason) = codes "no " ++ at_line_text reason line
own_line (RosterTooLong total) = codes "roster too long " ++ (signed_decimal total ++ codes "\n")
own_line NoShape = codes "words refused\n"

-- the line that tells it
abbrev pub line_of : Refusal → List ℕ
line_of Words = codes "words refused\n"
line_of (NotRead kind) = kind_text kind ++ codes " not read\n"
line_of (TooLong kind) = kind_text kind ++ codes " too long\n"
line_of (Refused fault) = fault_line fault
line_of (Own own) = own_line own
line_of NotWritten = codes "write failed\n"
line_of Memory = codes "want of memory\n"

-- the line holds numbers, so that it takes memory
abbrev pub own_has_numbers : CommandRefusal → Type 0
own_has_numbers NotYet = ⊥
own_has_numbers (ReportWrong line reason) = Unit {0}
own_has_numbers (RosterTooLong total) = Unit {0}
own_has_numbers NoShape = ⊥

abbrev pub HasNumbers : Refusal → Type 0
HasNumbers (Refused fault) = Unit {0}
HasNumbers (Own own) = own_has_numbers own
HasNumbers _ = ⊥
