-- The ends of a list of payoffs.
use Rattle.std.specs.Prelude.{◌≡◌, ◌≢◌, List, [], ℤ}
use Rattle.sg_model.specs.Limits.{IsPay}
use Rattle.sg_model.specs.Sums.{greatest, least}
use Rattle.sg_game.specs.declared.spread.Spread.{Spread}

-- the least and the greatest of some payoffs
pub record AreEnds (low high : ℤ) (xs : List ℤ) : Type 0 where
  pub some : xs ≢ []
  pub least : low ≡ least xs
  pub greatest : high ≡ greatest xs
  pub low_range : IsPay low
  pub high_range : IsPay high

-- those of a spread
abbrev pub IsSpread : Spread → List ℤ → Type 0
IsSpread s xs = AreEnds s.least s.greatest xs
