-- The numbers of a game that its facts are measured by.
use Rattle.std.specs.Prelude.{◌≡◌, ◌+◌, ◌^◌, pos, ◌-ℤ◌}
use Rattle.sg_model.specs.Games.{Game}
use Rattle.sg_model.specs.Limits.{IsWithin}
use Rattle.sg_model.specs.Payoffs.{shift_of}
use Rattle.sg_bounds.specs.Sizes.{attacker_most, defender_most}
use Rattle.sg_plays_fact.specs.declared.measures.Measures.{Measures}

-- the shift, the most of the defender and the most of an attacker, in their ranges
pub record AreMeasures (g : Game) (m : Measures) : Type 0 where
  pub shift : m.shift ≡ shift_of g
  pub defender_most : m.defender_most ≡ defender_most g
  pub attacker_most : m.attacker_most ≡ attacker_most g
  pub shift_range : IsWithin (pos 1 -ℤ pos (2 ^ 30)) (pos (2 ^ 30 + 1)) m.shift
  pub attacker_range : IsWithin (pos 1) (pos (2 ^ 31)) m.attacker_most
