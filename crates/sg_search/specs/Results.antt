-- What a node's work gives: a fact that holds for it and, unless its region is empty, a commitment of its region that reaches the fact's bound.
use Rattle.std.specs.Prelude.{◌≡◌, ℕ, ◌-◌, List, [], map, length, ℤ, pos, ◌-ℤ◌, ◌*ℤ◌, ◌<ℤ◌, All, IfSome, Option, Some, None}
use Rattle.sg_model.specs.declared.ticket.Ticket.{Ticket}
use Rattle.sg_model.specs.Sums.{numbers_from}
use Rattle.sg_model.specs.Games.{Game}
use Rattle.sg_model.specs.Commitments.{IsCommitment, weight_total, AreLowest}
use Rattle.sg_model.specs.Payoffs.{greatest_of, shift_of}
use Rattle.sg_commit.specs.Committed.{Committed, IsCommitted}
use Rattle.sg_tree.specs.declared.fact.Fact.{Fact}
use Rattle.sg_tree.specs.declared.fix.Fix.{Fix}
use Rattle.sg_tree.specs.declared.report.Cap.{Cap}
use Rattle.sg_tree.specs.declared.worked.Worked.{Worked}
use Rattle.sg_bounds.specs.Regions.{IsInRegion, IsNode}
use Rattle.sg_bounds.specs.Facts.{HoldsFor, mu_of, rho_of, shifted_sum}
use Rattle.sg_num.specs.Exact.{Fits}
use Rattle.sg_bounds.specs.Sizes.{bound_sums, size_sums, value_sums}

-- a commitment of the node's region that reaches the bound of the fact
pub record Reaches (g : Game) (node : Fix) (f : Fact) (k : List Ticket) : Type 0 where
  pub commitment : IsCommitment g k
  pub region : IsInRegion g node k
  pub equal : rho_of f *ℤ shifted_sum g node k ≡ mu_of f *ℤ weight_total k

-- there is no point just where the fact says that the region is empty
abbrev pub IsPointOf : Game → Fix → Fact → Option Committed → Type 0
IsPointOf g node f None = mu_of f ≡ pos 0
IsPointOf g node f (Some k) = (pos 0 <ℤ mu_of f) × IsCommitted k × Reaches g node f k.tickets

-- the same bound v of each type from 2, without a proof
abbrev pub caps_by : Game → (ℕ → ℤ) → List Cap
caps_by g v = map (λ l. record { l = l; v = v l; proof = [] }) (numbers_from 2 (length g.types - 1))

-- the greatest caps that a search has: the greatest payoff against each type
abbrev pub most_caps : Game → List Cap
most_caps g = caps_by g (greatest_of g)

-- the least: a payoff with the shift is at least 1
abbrev pub least_caps : Game → List Cap
least_caps g = caps_by g (λ l. pos 1 -ℤ shift_of g)

-- the numbers that are formed of a result fit 128 bits: the size sum; of a prefix the bound, under the greatest caps and under the least; the worth of the point, and its total times the priors
pub record IsNarrow (g : Game) (node : Fix) (f : Fact) (point : Option Committed) : Type 0 where
  pub size : All Fits (size_sums g node f)
  pub most : node.first ≡ 1 → All Fits (bound_sums g (most_caps g) (length node.acts) f)
  pub least : node.first ≡ 1 → All Fits (bound_sums g (least_caps g) (length node.acts) f)
  pub value : IfSome point (λ k. All Fits (value_sums g k.tickets))

-- what a worked node gave
pub record IsResult (g : Game) (w : Worked) : Type 0 where
  pub node : IsNode g w.fix
  pub fact : HoldsFor g w.fix w.fact
  pub point : IsPointOf g w.fix w.fact w.point
  pub narrow : IsNarrow g w.fix w.fact w.point

-- a first commitment: in lowest terms, with numbers under its value that fit 128 bits
pub record IsFirst (g : Game) (k : List Ticket) : Type 0 where
  pub commitment : IsCommitment g k
  pub lowest : AreLowest k
  pub narrow : All Fits (value_sums g k)
