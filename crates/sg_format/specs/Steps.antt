-- Reading in steps, each of which gives a value or ends the reading with a fault, and the numbers of the faults.
use Rattle.std.specs.Prelude.{ℕ, Bool, true, false, Option, Some, None, Result, Ok, Err}
use Rattle.sg_model.specs.declared.fault.Place.{Place}
use Rattle.sg_model.specs.declared.fault.GameFault.{GameFault}

-- a fault of this reason at this place
abbrev pub refused : {A : Type 0} → ℕ → Place → Result A GameFault
refused reason place = Err (record { reason = reason; place = place })

-- what is there, or this fault
abbrev pub needed : {A : Type 0} → Option A → ℕ → Place → Result A GameFault
needed (Some x) reason place = Ok x
needed None reason place = refused reason place

-- nothing where the test passes, or this fault
abbrev pub passed : Bool → ℕ → Place → Result (Unit {0}) GameFault
passed true reason place = Ok tt
passed false reason place = refused reason place
