-- What a family of a node's columns belongs to.
use Rattle.sg_model.specs.Games.{Game}
use Rattle.sg_tree.specs.declared.fix.Fix.{Fix}

-- the game and the node
pub record NodeOf : Type 0 where
  pub game : Game
  pub fix : Fix
