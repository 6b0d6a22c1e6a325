-- What testing a fact over plays asks of each play.
use Rattle.std.specs.Prelude.{List, ℕ, ℤ, pos, ◌-ℤ◌, ◌*ℤ◌, ◌≤ℤ◌, All}
use Rattle.sg_model.specs.Games.{Game}
use Rattle.sg_model.specs.Plays.{IsLegal}
use Rattle.sg_num.specs.Exact.{Fits}
use Rattle.sg_tree.specs.declared.fact.Fact.TheVariants.{Plays}
use Rattle.sg_tree.specs.declared.fact.Mark.{Mark}
use Rattle.sg_tree.specs.declared.fix.Fix.{Fix}
use Rattle.sg_bounds.specs.Facts.{IsMarkOf, cost, regret}
use Rattle.sg_bounds.specs.Regions.{IsFix}
use Rattle.sg_bounds.specs.Sizes.{size_sums}
use Rattle.sg_plays_fact.specs.declared.stated.Stated.{Stated}

-- rho times the worth of the play, less its regret
abbrev pub play_sum : Game → Fix → ℤ → List Mark → List ℕ → ℤ
play_sum g fix rho marks play = (rho *ℤ cost g fix play) -ℤ regret g fix marks play

-- it is at most mu for each legal play
abbrev pub NonePlaysAbove : Game → Fix → Stated → List Mark → Type 0
NonePlaysAbove g fix s marks = (play : List ℕ) → IsLegal g play → play_sum g fix s.rho marks play ≤ℤ s.mu

-- a fact with marks that may stand at its node, whose size sum fits: then every sum over a play fits
pub record IsSizedFact (g : Game) (fix : Fix) (s : Stated) (marks : List Mark) : Type 0 where
  pub is_fix : IsFix g fix
  pub rho : pos 1 ≤ℤ s.rho
  pub marked : All (IsMarkOf g fix) marks
  pub size : All Fits (size_sums g fix (Plays s.rho s.mu marks))
