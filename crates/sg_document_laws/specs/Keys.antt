-- That the documents are tables as TOML reads them: keys ascend in each.
use Rattle.std.specs.Prelude.{◌≡◌, true}
use Rattle.toml.specs.Data.{members_are_sorted}
use Rattle.sg_model.specs.Games.{Game}
use Rattle.sg_game.specs.declared.parts.Parts.{Parts}
use Rattle.sg_document_laws.specs.Documents.{game_table, parts_table}

-- in the documents of parts and of games, the keys of each table ascend
pub record AscendingKeys : Type 0 where
  pub parts : (p : Parts) → members_are_sorted (parts_table p) ≡ true
  pub games : (g : Game) → members_are_sorted (game_table g) ≡ true
