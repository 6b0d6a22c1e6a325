-- Lines, and the fault of a line.
use Rattle.std.specs.Prelude.{ℕ, ◌+◌, length, ◌==◌, if◌then◌else◌, List, Option, Some, None, Result, Ok, Err}
use Rattle.std.specs.Option.{option_map}
use Rattle.sg_cert.specs.Place.{Place}
use Rattle.sg_cert.specs.Fields.{split_once}
use Rattle.sg_cert.specs.declared.fault.ReportFault.{ReportFault}

-- before line 1
abbrev pub start : List ℕ → Place
start bytes = record { rest = bytes; line = 0 }

-- the front of the bytes, up to a newline
abbrev pub line_cut : ℕ → Option (List ℕ × List ℕ) → Result (List ℕ × Place) ReportFault
line_cut line None = Err (record { line = line; reason = 2 })
line_cut line (Some parts) = Ok (parts.0, record { rest = parts.1; line = line })

-- the next line, which is there and ended
unfoldable pub line_at : Place → Result (List ℕ × Place) ReportFault
line_at p = line_cut (p.line + 1) (split_once 10 p.rest)

-- the next line, where it is there and ended
abbrev pub next_line : Place → Option (List ℕ)
next_line p = option_map (λ x. x.0) (split_once 10 p.rest)

-- what was read in the last line, or the fault of that line
abbrev pub at_line : {A : Type 0} → Place → Result A ℕ → Result A ReportFault
at_line p (Ok x) = Ok x
at_line p (Err reason) = Err (record { line = p.line; reason = reason })

-- no line is left
abbrev pub ended : Place → Result (Unit {0}) ReportFault
ended p = if length p.rest == 0 then Ok tt else Err (record { line = p.line + 1; reason = 9 })
