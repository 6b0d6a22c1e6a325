-- Rows with other numbers in their places.
use Rattle.std.proofs.Common.{◌≡◌, List, length, drop}
use Rattle.std.specs.Prelude.{ℤ}
use Rattle.std.proofs.lemmas.List.{take_at}
use Rattle.sg_pool.specs.Lending.{with_places}

-- as many numbers as there are places are what the row then holds
pub with_places-is : (row numbers : List ℤ) → length numbers ≡ length row → with_places row numbers ≡ numbers
with_places-is row numbers same = take_at numbers (drop (length numbers) row) (length row) same
