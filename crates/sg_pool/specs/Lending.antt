-- What a row holds after its places were lent.
use Rattle.std.specs.Prelude.{List, length, take, drop, ◌++◌, ℤ}
use Rattle.std.specs.Borrow.{Array, Lends, MutBor, Fml, i128}
use Rattle.sg_pool.specs.contracts.row.Row.{the_row}

-- a row with other numbers in its places; a row keeps its number of places
abbrev pub with_places : List ℤ → List ℤ → List ℤ
with_places row numbers = take (length row) (numbers ++ drop (length numbers) row)

-- the row ends as what is left in its places
abbrev pub LendsPlaces : MutBor (List ℤ) → MutBor (List ℤ) → Fml
LendsPlaces row places = Lends the_row (Array i128 0) row places (with_places row.now)
