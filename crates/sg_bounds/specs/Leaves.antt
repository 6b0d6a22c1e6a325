-- The bounds of a tree's leaves, as fractions that need not be reduced.
use Rattle.std.specs.Prelude.{ℕ, ◌+◌, ◌-◌, if◌then◌else◌, List, [], ◌∷◌, ◌++◌, length, ℤ, pos, ◌+ℤ◌, ◌-ℤ◌, ◌*ℤ◌, int_lt, Option, Some, None}
use Rattle.sg_model.specs.Sums.{total, numbers, numbers_from}
use Rattle.sg_model.specs.Games.{Game, attacker, prior_total}
use Rattle.sg_model.specs.Payoffs.{greatest_of, shift_of}
use Rattle.sg_model.specs.Origami.{water_bound}
use Rattle.sg_frac.specs.Fractions.{Fraction}
use Rattle.sg_tree.specs.declared.fact.Fact.{Fact}
use Rattle.sg_tree.specs.declared.fact.Fact.TheVariants.{Water}
use Rattle.sg_tree.specs.declared.report.Cap.{Cap}
use Rattle.sg_bounds.specs.Facts.{mu_of, rho_of}
use Rattle.sg_bounds.specs.Caps.{cap_of}
use Rattle.sg_bounds.specs.Trees.{Node, unproved, closed, split, Parts, end, part}

-- where types 1 to n are fixed: the caps of the open types with their priors, less the shift of the fixed ones
abbrev pub rest_of : Game → List Cap → ℕ → ℤ
rest_of g caps n =
    total (λ l. (attacker g l).prior *ℤ (cap_of caps l).v) (numbers_from (n + 1) (length g.types - n))
    -ℤ (shift_of g *ℤ total (λ l. (attacker g l).prior) (numbers n))

-- the bound of a fact that fixes n types, and none where its region is empty
abbrev pub fact_bound : Game → List Cap → ℕ → Fact → Option Fraction
fact_bound g caps n f =
    if int_lt (pos 0) (mu_of f) then Some (record { num = mu_of f +ℤ (rho_of f *ℤ rest_of g caps n); den = rho_of f *ℤ prior_total g }) else None

-- an open base has the bound of the base above
abbrev pub base_bound : Game → List Cap → ℕ → Option Fraction → Option Fact → Option Fraction
base_bound g caps n above None = above
base_bound g caps n above (Some f) = fact_bound g caps n f

-- a bound that is there
abbrev pub listed : Option Fraction → List Fraction
listed None = []
listed (Some b) = b ∷ []

-- the bounds of the leaves of a node that fixes n types, under the bound of the base above: a node without a fact has that bound
abbrev mutual
  pub leaf_bounds : Game → List Cap → ℕ → Option Fraction → Node → List Fraction
  leaf_bounds g caps n above unproved = listed above
  leaf_bounds g caps n above (closed f) = listed (fact_bound g caps n f)
  leaf_bounds g caps n above (split l base parts) = part_bounds g caps (n + 1) (base_bound g caps n above base) parts

  pub part_bounds : Game → List Cap → ℕ → Option Fraction → Parts → List Fraction
  part_bounds g caps n above end = []
  part_bounds g caps n above (part t rest) = leaf_bounds g caps n above t ++ part_bounds g caps n above rest

-- the bound of the root's open base: the greatest payoff of each type, times its prior
abbrev pub root_bound : Game → Fraction
root_bound g = record { num = total (λ l. (attacker g l).prior *ℤ greatest_of g l) (numbers (length g.types)); den = prior_total g }

-- the bounds of all leaves: a water level has its own
abbrev pub tree_bounds_of : Game → List Cap → Node → List Fraction
tree_bounds_of g caps (closed (Water level why)) = record { num = water_bound g level.num level.den; den = level.den *ℤ g.scale } ∷ []
tree_bounds_of g caps t = leaf_bounds g caps 0 (Some (root_bound g)) t
