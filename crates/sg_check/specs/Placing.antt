-- The actions that lead to a node of the tree, and the numbers of a game that its bounds are formed of.
use Rattle.std.specs.Prelude.{◌≡◌, ◌≤◌, ◌+◌, ◌^◌, ◌-ℤ◌, ◌*ℤ◌, ◌+ℤ◌, ℕ, ℤ, List, All, length, pos}
use Rattle.sg_model.specs.Games.{Game, action_count, prior_total}
use Rattle.sg_model.specs.Limits.{IsWithin}
use Rattle.sg_model.specs.Payoffs.{shift_of}
use Rattle.sg_tree.specs.declared.report.Report.{Report}
use Rattle.sg_num.specs.Exact.{Fits}
use Rattle.sg_bounds.specs.Regions.{fixed, prefix}
use Rattle.sg_plays_fact.specs.Measuring.{AreMeasures}
use Rattle.sg_check.specs.declared.numbers.Numbers.{Numbers}
use Rattle.sg_check.specs.declared.quotient.Quotient.{Quotient}

-- actions of the first types
pub record AreActions (g : Game) (acts : List ℕ) : Type 0 where
  pub few : length acts ≤ length g.types
  pub each : All (λ (p : ℕ × ℕ). (1 ≤ p.1) × (p.1 ≤ action_count g p.0)) (fixed (prefix acts))

-- the numbers of a game, in their ranges
pub record AreNumbersOf (g : Game) (m : Numbers) : Type 0 where
  pub shift : m.shift ≡ shift_of g
  pub priors : m.priors ≡ prior_total g
  pub measures : AreMeasures g m.measures
  pub shift_range : IsWithin (pos 1 -ℤ pos (2 ^ 30)) (pos (2 ^ 30 + 1)) m.shift
  pub priors_range : IsWithin (pos 1) (pos (2 ^ 23)) m.priors

-- a game with its numbers, and a report with a cap for each type from 2
pub record IsSetting (g : Game) (r : Report) (m : Numbers) : Type 0 where
  pub numbers : AreNumbersOf g m
  pub caps : length r.caps + 1 ≡ length g.types

-- the numbers under the bound of a fact fit: rho times the rest, mu with it, and rho times the priors
pub record BoundFits (rho mu rest priors : ℤ) : Type 0 where
  pub share : Fits (rho *ℤ rest)
  pub num : Fits (mu +ℤ (rho *ℤ rest))
  pub den : Fits (rho *ℤ priors)

-- the parts of that bound
pub record IsBoundOf (b : Quotient) (rho mu rest priors : ℤ) : Type 0 where
  pub num : b.num ≡ mu +ℤ (rho *ℤ rest)
  pub den : b.den ≡ rho *ℤ priors
