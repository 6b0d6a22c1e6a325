-- Each generated game keeps every promise of a game file.
use Rattle.std.proofs.Common.{ℕ}
use Rattle.sg_model.specs.Limits.{IsGame}
use Rattle.sg_gen.specs.declared.shape.Shape.{Shape}
use Rattle.sg_gen.specs.declared.shape.Shape.TheVariants.{Blocks, Free, Table}
use Rattle.sg_gen.specs.Generated.{made_game}
use Rattle.sg_gen.specs.Shapes.{IsShape}
use Rattle.sg_gen.proofs.BlockGames.{blocks-is-game}
use Rattle.sg_gen.proofs.FreeGames.{free-is-game}
use Rattle.sg_gen.proofs.TableGames.{table-is-game}

pub made-is-game : (shape : Shape) (seed : ℕ) → IsShape shape → IsGame (made_game shape seed)
made-is-game (Free targets patrols) seed h = free-is-game seed targets patrols h.0.at_least h.0.at_most h.1.at_most
made-is-game (Blocks resources width span) seed h = blocks-is-game resources width h.0.at_least h.0.at_most h.1.at_least h.1.at_most seed span h.2.at_least h.2.at_most
made-is-game (Table rows actions types) seed h = table-is-game seed rows actions types h.0.at_least h.0.at_most h.1.at_least h.1.at_most h.2.at_least h.2.at_most
