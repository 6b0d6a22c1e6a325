-- The bound of a fact as it is formed, and the greatest of bounds, in lowest terms.
use Rattle.std.specs.Prelude.{◌≡◌, ℕ, ◌+◌, ◌≤◌, List, [], ◌∷◌, ◌++◌, ℤ, pos, ◌≤ℤ◌, ◌+ℤ◌, ◌*ℤ◌, All, Option, Some, None, Result, Ok, Err}
use Rattle.sg_num.specs.declared.step.Wide.{Wide}
use Rattle.sg_num.specs.Operations.{first_wide, plus, times}
use Rattle.sg_frac.specs.Fractions.{Fraction, IsReduced, IsReducedForm}
use Rattle.sg_model.specs.Games.{Game}
use Rattle.sg_tree.specs.declared.fact.Fact.{Fact}
use Rattle.sg_tree.specs.declared.report.Cap.{Cap}
use Rattle.sg_bounds.specs.Accepted.{IsGreatest}
use Rattle.sg_bounds.specs.Facts.{rho_of}
use Rattle.sg_bounds.specs.Leaves.{base_bound, fact_bound, leaf_bounds, listed, part_bounds}
use Rattle.sg_bounds.specs.SizeSteps.{bound_steps}
use Rattle.sg_bounds.specs.Trees.{IsRoot, IsTreeOf, Node, Parts, closed, end, part, split, unproved}
use Rattle.sg_upper.specs.declared.leaf.Quotient.{Quotient}
use Rattle.sg_upper.specs.TreeSteps.{base_bound_steps, node_steps, part_steps}

-- the operations under a bound: its numerator in two, then its denominator
abbrev pub fact_fraction_steps : ℤ → ℤ → ℤ → ℤ → List Wide
fact_fraction_steps rho mu rest priors = times rho rest ∷ plus mu (rho *ℤ rest) ∷ times rho priors ∷ []

-- both parts, where all of them fit, and else the first that doesn't
abbrev pub FormsQuotient : ℤ → ℤ → ℤ → ℤ → Result Quotient Wide → Type 0
FormsQuotient rho mu rest priors (Ok q) = (first_wide (fact_fraction_steps rho mu rest priors) ≡ None) × (q.num ≡ mu +ℤ (rho *ℤ rest)) × (q.den ≡ rho *ℤ priors)
FormsQuotient rho mu rest priors (Err w) = first_wide (fact_fraction_steps rho mu rest priors) ≡ Some w

-- these bounds are none, or one, whose denominator is at least 1 and which this is in lowest terms
abbrev pub AreLowered : List Fraction → Option Fraction → Type 0
AreLowered bounds None = bounds ≡ []
AreLowered bounds (Some b) = (x : Fraction) × (bounds ≡ x ∷ []) × (pos 1 ≤ℤ x.den) × IsReducedForm x.num x.den b

-- the bound of a fact that fixes n types, where the operations under it fit, and else the first that doesn't
abbrev pub FormsBound : Game → List Cap → ℕ → Fact → Result (Option Fraction) Wide → Type 0
FormsBound g caps n f (Ok b) = (first_wide (bound_steps g caps n f) ≡ None) × AreLowered (listed (fact_bound g caps n f)) b
FormsBound g caps n f (Err w) = first_wide (bound_steps g caps n f) ≡ Some w

-- the bound of a base under that of the base above
abbrev pub FormsBase : Game → List Cap → ℕ → Option Fraction → Option Fact → Result (Option Fraction) Wide → Type 0
FormsBase g caps n over base (Ok b) = (first_wide (base_bound_steps g caps n base) ≡ None) × AreLowered (listed (base_bound g caps n over base)) b
FormsBase g caps n over base (Err w) = first_wide (base_bound_steps g caps n base) ≡ Some w

-- the greatest of these bounds, in lowest terms; their denominators are at least 1
pub record IsTop (b : Fraction) (bounds : List Fraction) : Type 0 where
  pub reduced : IsReduced b
  pub greatest : IsGreatest b bounds
  pub positive : All (λ (x : Fraction). pos 1 ≤ℤ x.den) bounds

-- the greatest of some bounds becomes the greatest of these and more
abbrev pub Raises : Fraction → List Fraction → Fraction → Type 0
Raises best more top = (bounds : List Fraction) → IsTop best bounds → IsTop top (bounds ++ more)

-- the greatest of some bounds and those of a node's leaves, where all operations under them fit, and else the first that doesn't
abbrev pub RaisesByNode : Game → List Cap → ℕ → Option Fraction → Fraction → Node → Result Fraction Wide → Type 0
RaisesByNode g caps n above best t (Ok top) = (first_wide (node_steps g caps n t) ≡ None) × Raises best (leaf_bounds g caps n above t) top
RaisesByNode g caps n above best t (Err w) = first_wide (node_steps g caps n t) ≡ Some w

-- the same of parts
abbrev pub RaisesByParts : Game → List Cap → ℕ → Option Fraction → Fraction → Parts → Result Fraction Wide → Type 0
RaisesByParts g caps n above best parts (Ok top) = (first_wide (part_steps g caps n parts) ≡ None) × Raises best (part_bounds g caps n above parts) top
RaisesByParts g caps n above best parts (Err w) = first_wide (part_steps g caps n parts) ≡ Some w

-- a base without a fact, or with a multiplier of at least 1 of what the defender gets
abbrev pub IsStatedBase : Option Fact → Type 0
IsStatedBase None = Unit {0}
IsStatedBase (Some f) = pos 1 ≤ℤ rho_of f

-- the nodes fix at most m types, of which n are fixed already, and each fact has a multiplier of at least 1 of what the defender gets
abbrev mutual
  pub IsStatedNode : ℕ → ℕ → Node → Type 0
  IsStatedNode m n unproved = n ≤ m
  IsStatedNode m n (closed f) = (n ≤ m) × (pos 1 ≤ℤ rho_of f)
  IsStatedNode m n (split l base parts) = (n + 1 ≤ m) × IsStatedBase base × AreStatedParts m (n + 1) parts

  pub AreStatedParts : ℕ → ℕ → Parts → Type 0
  AreStatedParts m n end = Unit {0}
  AreStatedParts m n (part t rest) = IsStatedNode m n t × AreStatedParts m n rest

-- a split by the types in their order with an open base, each of whose facts has a multiplier of at least 1 of what the defender gets
pub record IsBoundedTree (g : Game) (t : Node) : Type 0 where
  pub root : IsRoot t
  pub tree_of : IsTreeOf g (λ fix f. pos 1 ≤ℤ rho_of f) [] t
