-- What the test of a column says, and what pricing answers by places.
use Rattle.std.specs.Prelude.{◌≡◌, zero, suc, ◌<◌, Bool, true, false, List, length, ℤ, pos, negsuc, Some, None, slice_index_or}
use Rattle.sg_num.specs.declared.step.Wide.{Wide}
use Rattle.sg_num.specs.Operations.{first_wide}
use Rattle.sg_lp.specs.declared.column.Column.{Column}
use Rattle.sg_lp.specs.Pricing.{Answer, clean, found, spent, wide}
use Rattle.sg_dobss.specs.declared.pricing.Tested.{Tested}
use Rattle.sg_dobss.specs.declared.pricing.Tested.TheVariants as says
use Rattle.sg_dobss.specs.declared.pricing.Priced.{Priced}
use Rattle.sg_dobss.specs.declared.pricing.Priced.TheVariants as told

-- whether a number is not 0
abbrev pub is_nonzero : ℤ → Bool
is_nonzero (pos zero) = false
is_nonzero (pos (suc n)) = true
is_nonzero (negsuc n) = true

-- the first operation that doesn't fit, else whether the column enters
abbrev pub Tests : List Wide → Bool → Tested → Type 0
Tests steps enters says.Enters = (first_wide steps ≡ None) × (enters ≡ true)
Tests steps enters says.Stays = (first_wide steps ≡ None) × (enters ≡ false)
Tests steps enters (says.Fails w) = first_wide steps ≡ Some w

-- the answer, with the place of the column that is found
abbrev pub Prices : List Column → Answer → Priced → Type 0
Prices columns answer (told.Found k) = (k < length columns) × ((d : Column) → answer ≡ found (slice_index_or columns k d))
Prices columns answer told.Clean = answer ≡ clean (length columns)
Prices columns answer told.Spent = answer ≡ spent
Prices columns answer (told.Wide w) = answer ≡ wide 2 w
