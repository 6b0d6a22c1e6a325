-- Runs of the simplex method on a family of columns.
use Rattle.std.specs.Prelude.{◌≡◌, ℕ}
use Rattle.sg_lp.specs.Programs.{IsBounded, IsWithinLimits, Program}
use Rattle.sg_lp.specs.States.{IsTableau, Tableau}
use Rattle.sg_lp.specs.Moves.{Runs}

-- a family, the state and the width of its rows, how many moves were made, and how many moves and looks may be
pub record NodeView (F : Type 0) : Type 0 where
  pub family : F
  pub tableau : Tableau
  pub width : ℕ
  pub steps : ℕ
  pub pivots : ℕ
  pub looks : ℕ

-- what every node keeps: its family keeps its laws, and it stands at that state of the run to which so many moves come
pub record IsProgramNode (p : Program) (t : Tableau) (steps : ℕ) : Type 0 where
  pub sized : IsWithinLimits p
  pub bounded : IsBounded p
  pub run : Runs p steps t
  pub state : IsTableau p t

-- the same, with room for a member's entries and for its products with the lists
pub record IsKept (p : Program) (t : Tableau) (steps entries products : ℕ) : Type 0 where
  pub node : IsProgramNode p t steps
  pub entries_long : entries ≡ p.height
  pub products_long : products ≡ p.height
