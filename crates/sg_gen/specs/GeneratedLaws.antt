-- What holds of every generated game, and of the texts of shapes.
use Rattle.std.specs.Prelude.{◌≡◌, ℕ, Ok}
use Rattle.sg_model.specs.Limits.{IsGame}
use Rattle.sg_format.specs.GameFiles.{game_of_bytes}
use Rattle.sg_format.specs.GameText.{game_text}
use Rattle.sg_gen.specs.declared.shape.Shape.{Shape}
use Rattle.sg_gen.specs.Generated.{made_game}
use Rattle.sg_gen.specs.Shapes.{IsShape, shape_text}

-- the game keeps every promise of a game file, and its canonical text is a file of that game
pub record IsAcceptedGame (shape : Shape) (seed : ℕ) : Type 0 where
  pub promises : IsGame (made_game shape seed)
  pub file : game_of_bytes (game_text (made_game shape seed)) ≡ Ok (made_game shape seed)

-- each generated game does and is
abbrev pub MadeGamesAreAccepted : Type 0
MadeGamesAreAccepted = (shape : Shape) → IsShape shape → (seed : ℕ) → IsAcceptedGame shape seed

-- a text spells at most one shape
abbrev pub TextsAreApart : Type 0
TextsAreApart = (one two : Shape) → IsShape one → IsShape two → shape_text one ≡ shape_text two → one ≡ two
