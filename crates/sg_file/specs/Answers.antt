-- What a step of the reader answers beside what the definition gives.
use Rattle.std.specs.Prelude.{◌≡◌, Result, Ok, Err}
use Rattle.sg_model.specs.declared.fault.GameFault.{GameFault}
use Rattle.sg_file.specs.declared.fault.GameError.{GameError}
use Rattle.sg_file.specs.declared.fault.GameError.TheVariants.{Refused, Memory}

-- the definition gives this fault, unless memory ran out
abbrev pub FailsPart : {Y : Type 0} → GameError → Result Y GameFault → Type 0
FailsPart Memory read = Unit {0}
FailsPart (Refused fault) read = read ≡ Err fault

-- what a step answered, as show sees it, is what the definition gives, unless memory ran out
abbrev pub GivesPart : {X Y : Type 0} → (X → Y) → Result X GameError → Result Y GameFault → Type 0
GivesPart show (Ok x) read = read ≡ Ok (show x)
GivesPart show (Err e) read = FailsPart e read

-- the same for a step that needs no memory
abbrev pub TellsPart : {X Y : Type 0} → (X → Y) → Result X GameFault → Result Y GameFault → Type 0
TellsPart show (Ok x) read = read ≡ Ok (show x)
TellsPart show (Err fault) read = read ≡ Err fault
