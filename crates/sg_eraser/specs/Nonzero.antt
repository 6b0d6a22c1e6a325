-- Lists of numbers by those of them that are not 0.
use Rattle.std.specs.Prelude.{ℕ, ◌+◌, if◌then◌else◌, List, [], ◌∷◌, ℤ, ◌+ℤ◌, ◌*ℤ◌}
use Rattle.sg_num.specs.declared.step.Wide.{Wide}
use Rattle.sg_num.specs.Operations.{plus, times}
use Rattle.sg_linear.specs.Sums.{is_zero_int}
use Rattle.sg_rows.specs.Rows.{place}
use Rattle.sg_eraser.specs.declared.sparse.RowEntry.{RowEntry}

-- the numbers other than 0, with their places, of which the first is n
abbrev pub nonzero_from : ℕ → List ℤ → List RowEntry
nonzero_from n [] = []
nonzero_from n (z ∷ zs) = if is_zero_int z then nonzero_from (n + 1) zs else record { row = n; value = z } ∷ nonzero_from (n + 1) zs

-- acc and the products of the numbers with those of a list at their places: each product, and the sum so far with it
abbrev pub nonzero_steps : List ℤ → ℤ → List RowEntry → List Wide
nonzero_steps y acc [] = []
nonzero_steps y acc (x ∷ xs) = times (place y x.row) x.value ∷ plus acc (place y x.row *ℤ x.value) ∷ nonzero_steps y (acc +ℤ (place y x.row *ℤ x.value)) xs

-- the value of that
abbrev pub nonzero_sum : List ℤ → ℤ → List RowEntry → ℤ
nonzero_sum y acc [] = acc
nonzero_sum y acc (x ∷ xs) = nonzero_sum y (acc +ℤ (place y x.row *ℤ x.value)) xs
