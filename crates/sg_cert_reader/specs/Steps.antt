-- What the steps of the reader return, beside what the definitions of `sg_cert` give at the same place.
use Rattle.std.specs.Prelude.{◌≡◌, ℕ, Bool, if◌then◌else◌, List, [], Result, Ok, Err}
use Rattle.sg_cert.specs.declared.fault.ReportFault.{ReportFault}
use Rattle.sg_cert.specs.Place.{Place}
use Rattle.sg_cert.specs.Fields.{fields}
use Rattle.sg_cert_reader.specs.declared.error.ReportError.{ReportError}
use Rattle.sg_cert_reader.specs.declared.error.ReportError.TheVariants as errors

-- the fields from here on, none at the end
abbrev pub fields_left : List ℕ → Bool → List (List ℕ)
fields_left rest ended = if ended then [] else fields rest

-- what a call that moves on within a line returned, and where it then stands, is what reading gives
abbrev pub Steps : {A P E : Type 0} → Result A E → P → Result (A × P) E → Type 0
Steps (Ok x) after read = read ≡ Ok (x, after)
Steps (Err e) after read = read ≡ Err e

-- what a call that moves on by lines returned, and where it then stands, is what reading gives
abbrev pub ReadsLines : {X Y : Type 0} → (X → Y) → Result X ReportFault → Place → Result (Y × Place) ReportFault → Type 0
ReadsLines view (Ok x) after read = read ≡ Ok (view x, after)
ReadsLines view (Err e) after read = read ≡ Err e

-- the same, unless memory ran out
abbrev pub FailsReport : {Y : Type 0} → ReportError → Result Y ReportFault → Type 0
FailsReport errors.Memory read = Unit {0}
FailsReport (errors.Refused f) read = read ≡ Err f

abbrev pub GivesLines : {X Y : Type 0} → (X → Y) → Result X ReportError → Place → Result (Y × Place) ReportFault → Type 0
GivesLines view (Ok x) after read = read ≡ Ok (view x, after)
GivesLines view (Err e) after read = FailsReport e read

-- what a function over all of the bytes returned is what reading gives, unless memory ran out
abbrev pub GivesReport : {X Y : Type 0} → (X → Y) → Result X ReportError → Result Y ReportFault → Type 0
GivesReport view (Ok x) read = read ≡ Ok (view x)
GivesReport view (Err e) read = FailsReport e read
