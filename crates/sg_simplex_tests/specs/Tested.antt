-- What the test of a column says.
use Rattle.std.specs.Prelude.{◌≡◌, Bool, true, false, List, Some, None}
use Rattle.sg_num.specs.declared.step.Wide.{Wide}
use Rattle.sg_num.specs.Operations.{first_wide}
use Rattle.sg_simplex_tests.specs.declared.pricing.Test.{Test}
use Rattle.sg_simplex_tests.specs.declared.pricing.Test.TheVariants.{Enters, Stays, Fails}

-- the first operation that doesn't fit, else whether the column enters
abbrev pub TestSays : List Wide → Bool → Test → Type 0
TestSays steps enters Enters = (first_wide steps ≡ None) × (enters ≡ true)
TestSays steps enters Stays = (first_wide steps ≡ None) × (enters ≡ false)
TestSays steps enters (Fails w) = first_wide steps ≡ Some w
