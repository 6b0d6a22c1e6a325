-- What every accepted game file promises.
use Rattle.std.specs.Prelude.{◌≡◌, ℕ, List, Ok}
use Rattle.sg_model.specs.Games.{Game}
use Rattle.sg_model.specs.Limits.{IsGame}
use Rattle.sg_format.specs.GameFiles.{game_of_bytes}

-- the game of a file keeps everything that a game file promises
abbrev pub AcceptedIsGame : Type 0
AcceptedIsGame = (bytes : List ℕ) (g : Game) → game_of_bytes bytes ≡ Ok g → IsGame g
