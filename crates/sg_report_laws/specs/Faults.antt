-- Which line and reason reading tells, by how the bytes go on.
use Rattle.std.specs.Prelude.{◌≡◌, ◌≢◌, ℕ, suc, ◌+◌, ◌<◌, ◌≤◌, ◌==◌, if◌then◌else◌, List, [], ◌∷◌, ◌++◌, Ok, Err, codes}
use Rattle.sg_tree.specs.declared.report.Report.{Report}
use Rattle.sg_cert.specs.declared.fault.ReportFault.{ReportFault}
use Rattle.sg_cert.specs.Reading.{report_of}

-- how many newlines there are
abbrev pub newlines : List ℕ → ℕ
newlines [] = 0
newlines (b ∷ bs) = if b == 10 then suc (newlines bs) else newlines bs

-- a fault other than a missing line is told of the bytes however they go on
abbrev pub FaultStays : Type 0
FaultStays = (bytes more : List ℕ) (f : ReportFault) → report_of bytes ≡ Err f → f.reason ≢ 2 → report_of (bytes ++ more) ≡ Err f

-- a missing line is told at the line behind the last newline
abbrev pub EarlyEnd : Type 0
EarlyEnd = (bytes : List ℕ) (f : ReportFault) → report_of bytes ≡ Err f → f.reason ≡ 2 → f.line ≡ newlines bytes + 1

-- a fault is told as soon as its line is ended
abbrev pub FaultOfItsLine : Type 0
FaultOfItsLine = (bytes more : List ℕ) (f : ReportFault) → report_of (bytes ++ more) ≡ Err f → f.line ≤ newlines bytes → report_of bytes ≡ Err f

-- as long as the line of a fault isn't ended, just a line is missing; but bytes behind a report are refused before their line is ended
abbrev pub LinesBefore : Type 0
LinesBefore = (bytes more : List ℕ) (f : ReportFault) → report_of (bytes ++ more) ≡ Err f → f.reason ≢ 9 → newlines bytes < f.line
    → report_of bytes ≡ Err (record { line = newlines bytes + 1; reason = 2 })

-- bytes behind a report are refused, at the line behind it
abbrev pub NothingBehind : Type 0
NothingBehind = (bytes more : List ℕ) (r : Report) → report_of bytes ≡ Ok r → more ≢ [] → report_of (bytes ++ more) ≡ Err (record { line = newlines bytes + 1; reason = 9 })

-- a first line that isn't just so is told, whatever follows
abbrev pub OtherFirstLine : Type 0
OtherFirstLine = (first more : List ℕ) → newlines first ≡ 0 → first ≢ codes "patrol-report 1" → report_of (first ++ 10 ∷ more) ≡ Err (record { line = 1; reason = 1 })
