-- The rows and columns of small programs, worked out by hand.
use Rattle.std.specs.Prelude.{◌≡◌, ℕ, List, [], ◌∷◌, ℤ, pos, map}
use Rattle.sg_model.specs.Examples.{minus, three_rows, two_thieves}
use Rattle.sg_tree.specs.declared.fix.Fix.{Fix}
use Rattle.sg_bounds.specs.Regions.{prefix}
use Rattle.sg_bounds.specs.PlayRows.{comparisons, play_entry, play_row_count}
use Rattle.sg_bounds.specs.Coverage.{always, chooses, columns, covering}

-- type 1, of two actions, is fixed to the second, and type 2, of three, to the first
abbrev pub both_fixed : Fix
both_fixed = prefix (2 ∷ 1 ∷ [])

pub record AreWorkedRows : Type 0 where
  -- one other action of type 1, and two of type 2
  pub compared : comparisons three_rows both_fixed ≡ (1, 1) ∷ (2, 2) ∷ (2, 3) ∷ []
  pub count : play_row_count three_rows both_fixed ≡ 4
  -- 1 in row 0; then 1 - 0, 1 - 2 and 0 - 2 where the first row is played, and 0 - 2, 1 - 0 and 3 - 0 where the second is
  pub first_play : map (play_entry three_rows both_fixed (1 ∷ [])) (0 ∷ 1 ∷ 2 ∷ 3 ∷ []) ≡ pos 1 ∷ pos 1 ∷ minus 1 ∷ minus 2 ∷ []
  pub second_play : map (play_entry three_rows both_fixed (2 ∷ [])) (0 ∷ 1 ∷ 2 ∷ 3 ∷ []) ≡ pos 1 ∷ minus 2 ∷ pos 1 ∷ pos 3 ∷ []
  -- the whole, the one choice of the first resource and the two of the second, and both targets
  pub table_columns : columns two_thieves ≡ always ∷ chooses 1 1 ∷ chooses 2 1 ∷ chooses 2 2 ∷ covering 1 ∷ covering 2 ∷ []
