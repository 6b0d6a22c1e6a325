-- A family that lists all legal plays of a node, with their costs and entries.
use Rattle.std.specs.Prelude.{◌≡◌, ℕ, ◌≤◌, List, ℤ, pos}
use Rattle.sg_model.specs.Games.{Game}
use Rattle.sg_model.specs.PlayLists.{play_count}
use Rattle.sg_tree.specs.declared.fix.Fix.{Fix}
use Rattle.sg_bounds.specs.Regions.{IsFix}
use Rattle.sg_dobss.specs.Tables.{AreTables}

-- a node of a game without a scale and with few plays, and the tables of its plays
pub record IsListing (g : Game) (fix : Fix) (count : ℕ) (costs : List ℤ) (rows : List (List ℤ)) : Type 0 where
  pub unscaled : g.scale ≡ pos 0
  pub is_fix : IsFix g fix
  pub counted : count ≡ play_count g
  pub few : count ≤ 4096
  pub tables : AreTables g fix costs rows
