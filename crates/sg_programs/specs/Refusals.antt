-- Each operation of a fact's values and of a point's as the first that doesn't fit, worked out by hand.
use Rattle.std.specs.Prelude.{◌≡◌, ◌+◌, ◌-◌, ◌^◌, [], ◌∷◌, ℤ, pos, negsuc, Some}
use Rattle.sg_num.specs.declared.step.Wide.{Wide}
use Rattle.sg_num.specs.Operations.{first_wide, plus, times}
use Rattle.sg_model.specs.Examples.{one_player, two_players}
use Rattle.sg_tree.specs.declared.fix.Fix.{Fix}
use Rattle.sg_model.specs.Games.{Game}
use Rattle.sg_tree.specs.declared.fact.Fact.{Fact}
use Rattle.sg_bounds.specs.Regions.{prefix}
use Rattle.sg_bounds.specs.Examples.{mark, over_plays}
use Rattle.sg_bounds.specs.SizeSteps.{size_steps}
use Rattle.sg_lp.specs.declared.column.Enter.TheVariants.{Col}
use Rattle.sg_lp.specs.States.{Tableau}
use Rattle.sg_programs.specs.Examples.{second}
use Rattle.sg_programs.specs.Plays.{column_of}
use Rattle.sg_programs.specs.Points.{point_steps}
use Rattle.sg_programs.specs.Shown.{both_bounds}

-- the two columns in both rows: (1, -2) in row 0 and (1, 1) in row 1, each with a list of two places
abbrev pub with_lists : (a b c d : ℤ) → Tableau
with_lists a b c d = record {
  basis = Col (column_of (2 ∷ [])) ∷ Col (column_of (1 ∷ [])) ∷ [];
  rows = (a ∷ b ∷ []) ∷ (c ∷ d ∷ []) ∷ [];
  y = pos 1 ∷ pos 0 ∷ [];
  rho = pos 1;
}

abbrev pub PointStopsAt : Tableau → Wide → Type 0
PointStopsAt t w = first_wide (point_steps second t) ≡ Some w

abbrev pub SizeStopsAt : Fact → Wide → Type 0
SizeStopsAt f w = first_wide (size_steps one_player (prefix (2 ∷ [])) f) ≡ Some w

abbrev pub BoundsStopAt : Game → Fix → Fact → Wide → Type 0
BoundsStopAt g fix f w = first_wide (both_bounds g fix f) ≡ Some w

-- of the size sum: the denominator times the prior, that times the greatest payoff in size, the sum of the marks, twice it, and the sum of both
pub record SizeRefusals : Type 0 where
  pub prior : SizeStopsAt (over_plays (2 ^ 127) 0 []) (times (pos (2 ^ 127)) (pos 1))
  pub payoff : SizeStopsAt (over_plays (2 ^ 125) 0 []) (times (pos (2 ^ 125)) (pos 4))
  pub marks : SizeStopsAt (over_plays 1 0 (mark 1 1 (2 ^ 126) ∷ mark 1 1 (2 ^ 126) ∷ [])) (plus (pos (2 ^ 126)) (pos (2 ^ 126)))
  pub twice : SizeStopsAt (over_plays 1 0 (mark 1 1 (2 ^ 126) ∷ [])) (times (pos (2 ^ 126)) (pos 2))
  pub both : SizeStopsAt (over_plays (2 ^ 124) 0 (mark 1 1 (2 ^ 125) ∷ [])) (plus (pos (2 ^ 126)) (pos (2 ^ 126)))

-- of the bounds: the denominator times what the open types add, mu and that, and the denominator times the sum of the priors
pub record BoundRefusals : Type 0 where
  pub rest : BoundsStopAt two_players (prefix (1 ∷ [])) (over_plays (2 ^ 125) 1 []) (times (pos (2 ^ 125)) (pos 4))
  pub sum : BoundsStopAt two_players (prefix (1 ∷ [])) (over_plays (2 ^ 124) (2 ^ 126) []) (plus (pos (2 ^ 126)) (pos (2 ^ 126)))
  pub priors : BoundsStopAt one_player (prefix (2 ∷ [])) (over_plays (2 ^ 127) 1 []) (times (pos (2 ^ 127)) (pos 1))

-- of the point: a product of a list with its column and its running total; the multiple of 2^64 + 1 and 2^64; a third of a numerator over 3 * 2^64;
-- and the total of two weights over 1
pub record PointRefusals : Type 0 where
  pub product : PointStopsAt (with_lists (pos 1) (pos (2 ^ 126 + 1)) (pos 1) (pos 0)) (times (pos (2 ^ 126 + 1)) (negsuc 1))
  pub running : PointStopsAt (with_lists (pos (2 ^ 126)) (negsuc (2 ^ 125 - 1)) (pos 1) (pos 0)) (plus (pos (2 ^ 126)) (pos (2 ^ 126)))
  pub multiple : PointStopsAt (with_lists (pos 1) (negsuc (2 ^ 63 - 1)) (pos 1) (pos (2 ^ 64 - 1))) (times (pos (2 ^ 64 + 1)) (pos (2 ^ 64)))
  pub weight : PointStopsAt (with_lists (pos (2 ^ 100 + 1)) (pos (2 ^ 99 - 1)) (pos 1) (pos (2 ^ 64 - 1))) (times (pos (2 ^ 100 + 1)) (pos (2 ^ 64)))
  pub total : PointStopsAt (with_lists (pos (2 ^ 126 + 1)) (pos (2 ^ 125)) (pos (2 ^ 126)) (negsuc (2 ^ 126 - 2))) (plus (pos (2 ^ 126 + 1)) (pos (2 ^ 126)))

pub record RefusalsAreWorked : Type 0 where
  pub size : SizeRefusals
  pub bounds : BoundRefusals
  pub point : PointRefusals
