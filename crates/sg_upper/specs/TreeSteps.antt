-- What is formed under the bounds of a tree, in the order of its lines.
use Rattle.std.specs.Prelude.{◌≡◌, ℕ, ◌+◌, List, [], ◌++◌, ◌∷◌, Option, Some, None, Result, Ok, Err}
use Rattle.sg_num.specs.declared.step.Wide.{Wide}
use Rattle.sg_num.specs.Operations.{first_wide}
use Rattle.sg_model.specs.Games.{Game}
use Rattle.sg_frac.specs.Fractions.{Fraction, IsReduced}
use Rattle.sg_tree.specs.declared.fact.Fact.{Fact}
use Rattle.sg_tree.specs.declared.report.Cap.{Cap}
use Rattle.sg_bounds.specs.Accepted.{IsGreatest}
use Rattle.sg_bounds.specs.Leaves.{tree_bounds_of}
use Rattle.sg_bounds.specs.SizeSteps.{bound_steps}
use Rattle.sg_bounds.specs.Trees.{Node, Parts, closed, end, part, split, unproved}

-- the operations under the bound of a base
abbrev pub base_bound_steps : Game → List Cap → ℕ → Option Fact → List Wide
base_bound_steps g caps n None = []
base_bound_steps g caps n (Some f) = bound_steps g caps n f

-- of a node that fixes n types: of its fact, or of its base and then of its parts
abbrev mutual
  pub node_steps : Game → List Cap → ℕ → Node → List Wide
  node_steps g caps n unproved = []
  node_steps g caps n (closed f) = bound_steps g caps n f
  node_steps g caps n (split l base parts) = base_bound_steps g caps n base ++ part_steps g caps (n + 1) parts

  pub part_steps : Game → List Cap → ℕ → Parts → List Wide
  part_steps g caps n end = []
  part_steps g caps n (part t rest) = node_steps g caps n t ++ part_steps g caps n rest

-- the greatest of a value and of the bounds of a tree's leaves, in lowest terms, where all operations under them fit; and else the first that doesn't
abbrev pub IsUpper : Game → Fraction → List Cap → Node → Result Fraction Wide → Type 0
IsUpper g value caps t (Ok top) = (first_wide (node_steps g caps 0 t) ≡ None) × IsGreatest top (value ∷ tree_bounds_of g caps t) × IsReduced top
IsUpper g value caps t (Err w) = first_wide (node_steps g caps 0 t) ≡ Some w
