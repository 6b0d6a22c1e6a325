-- The command `make SHAPE SEED`.
use Rattle.std.specs.Prelude.{◌≡◌, ℕ, false, List, [], Ok}
use Rattle.sg_format.specs.GameFiles.{game_of_bytes}
use Rattle.sg_format.specs.GameText.{game_text}
use Rattle.sg_gen.specs.declared.shape.Shape.{Shape}
use Rattle.sg_gen.specs.Generated.{made_game}
use Rattle.sg_gen.specs.Shapes.{IsShape, shape_text}
use Rattle.sg_cli.specs.Inputs.{Content}
use Rattle.sg_cli.specs.Commands.{Command}
use Rattle.sg_cli.specs.declared.refusal.CommandRefusal.{CommandRefusal}
use Rattle.sg_cli.specs.declared.refusal.CommandRefusal.TheVariants.{NoShape}

-- the text of a shape in its ranges
pub record SpellsShape (text : List ℕ) : Type 0 where
  pub shape : Shape
  pub in_range : IsShape shape
  pub spelled : text ≡ shape_text shape

-- nothing is read, and the text is taken where it is that of a shape
abbrev pub takes_shape : List ℕ → List Content → Type 0
takes_shape text [] = SpellsShape text
takes_shape text _ = ⊥

-- or else it is no shape
abbrev pub refuses_text : List ℕ → List Content → CommandRefusal → Type 0
refuses_text text [] NoShape = ¬ (SpellsShape text)
refuses_text text _ _ = ⊥

-- with success
abbrev pub ends_made : List Content → ℕ → Type 0
ends_made [] status = status ≡ 0
ends_made _ status = ⊥

-- the canonical text of the game of the shape and the seed, which is a file of that game
pub record IsMadeText (text : List ℕ) (seed : ℕ) (written : List ℕ) : Type 0 where
  pub of : SpellsShape text
  pub is_text : written ≡ game_text (made_game of.shape seed)
  pub is_file : game_of_bytes written ≡ Ok (made_game of.shape seed)

-- is written
abbrev pub writes_made : List ℕ → ℕ → List Content → ℕ → List ℕ → Type 0
writes_made text seed [] status written = IsMadeText text seed written
writes_made text seed _ status written = ⊥

-- the command
abbrev pub making : List ℕ → ℕ → Command
making text seed = record { plan = record { inputs = []; takes = takes_shape text; refuses = refuses_text text }; ends = ends_made; writes = writes_made text seed; is_formed_late = false }
