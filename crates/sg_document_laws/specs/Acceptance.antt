-- Which games have a document, and a file, that is accepted.
use Rattle.std.specs.Prelude.{◌≡◌, ◌↔◌, ℕ, List, Ok}
use Rattle.toml.specs.Data.{Members}
use Rattle.sg_model.specs.Games.{Game}
use Rattle.sg_model.specs.Limits.{IsGame}
use Rattle.sg_format.specs.GameFiles.{game_of_bytes, game_of_table}
use Rattle.sg_document_laws.specs.Documents.{game_table}

-- a game that keeps every promise is the game of the document that spells it
abbrev pub DocumentOfGame : Type 0
DocumentOfGame = (g : Game) → IsGame g → game_of_table (game_table g) ≡ Ok g

-- the games of the documents that are accepted are exactly those that keep every promise
abbrev pub AcceptedGames : Type 0
AcceptedGames = (g : Game) → IsGame g ↔ ((table : Members) × (game_of_table table ≡ Ok g))

-- the games of the files that are accepted are exactly those that keep every promise
abbrev pub AcceptedFiles : Type 0
AcceptedFiles = (g : Game) → IsGame g ↔ ((bytes : List ℕ) × (game_of_bytes bytes ≡ Ok g))
