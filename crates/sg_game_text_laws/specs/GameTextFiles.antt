-- That the canonical text of a game is a game file of just that game.
use Rattle.std.specs.Prelude.{◌≡◌, Ok}
use Rattle.sg_model.specs.Games.{Game}
use Rattle.sg_model.specs.Limits.{IsGame}
use Rattle.sg_format.specs.Documents.{document_of}
use Rattle.sg_format.specs.GameFiles.{game_of_bytes}
use Rattle.sg_format.specs.GameText.{game_text}
use Rattle.sg_document_laws.specs.Documents.{game_table}

-- TOML reads the text of a game that keeps every promise as the document that spells the game
abbrev pub GameTextIsDocument : Type 0
GameTextIsDocument = (g : Game) → IsGame g → document_of (game_text g) ≡ Ok (game_table g)

-- the text of a game that keeps every promise is a file of that game
abbrev pub GameTextIsFile : Type 0
GameTextIsFile = (g : Game) → IsGame g → game_of_bytes (game_text g) ≡ Ok g

-- games that keep every promise and have the same text are the same
abbrev pub GameTextTellsGame : Type 0
GameTextTellsGame = (g h : Game) → IsGame g → IsGame h → game_text g ≡ game_text h → g ≡ h
