-- The operations under the sums that a report states, with their operands, in the order in which they are formed.
use Rattle.std.specs.Prelude.{◌≡◌, ℕ, if◌then◌else◌, List, [], ◌∷◌, ◌++◌, map, ℤ, pos, ◌+ℤ◌, ◌*ℤ◌, int_lt}
use Rattle.sg_model.specs.declared.ticket.Ticket.{Ticket}
use Rattle.sg_model.specs.Sums.{total}
use Rattle.sg_model.specs.Games.{Game, prior_total}
use Rattle.sg_num.specs.declared.step.Wide.{Wide}
use Rattle.sg_num.specs.Operations.{plus, times, value_of_step}
use Rattle.sg_commit.specs.SumSteps.{base_steps}
use Rattle.sg_tree.specs.declared.fact.Fact.{Fact}
use Rattle.sg_tree.specs.declared.fact.Fact.TheVariants.{Plays, Cover, Water}
use Rattle.sg_tree.specs.declared.fix.Fix.{Fix}
use Rattle.sg_tree.specs.declared.report.Cap.{Cap}
use Rattle.sg_bounds.specs.Facts.{mu_of, rho_of}
use Rattle.sg_bounds.specs.Leaves.{rest_of}
use Rattle.sg_bounds.specs.Sizes.{attacker_most, bound_sums, defender_most, fixed_priors, multipliers_of, size_sums, value_sums, weight_sums}

-- numbers added one after another to z
abbrev pub running_steps : ℤ → List ℤ → List Wide
running_steps z [] = []
running_steps z (x ∷ xs) = plus z x ∷ running_steps (z +ℤ x) xs

-- the running total of the weights
abbrev pub weight_steps : List Ticket → List Wide
weight_steps k = running_steps (pos 0) (map (λ (x : Ticket). x.weight) k)

-- the size sum: rho times the fixed priors, that times the most of the defender, the running sum of the multipliers, that times the most of an
-- attacker, and the sum of the two products
abbrev pub size_list_steps : Game → Fix → Fact → List Wide
size_list_steps g fix f =
    times (rho_of f) (fixed_priors g fix)
    ∷ times (rho_of f *ℤ fixed_priors g fix) (defender_most g)
    ∷ (running_steps (pos 0) (multipliers_of f)
    ++ (times (total (λ v. v) (multipliers_of f)) (attacker_most g)
    ∷ plus ((rho_of f *ℤ fixed_priors g fix) *ℤ defender_most g) (total (λ v. v) (multipliers_of f) *ℤ attacker_most g)
    ∷ []))

-- a water level has no size sum
abbrev pub size_steps : Game → Fix → Fact → List Wide
size_steps g fix (Plays rho mu marks) = size_list_steps g fix (Plays rho mu marks)
size_steps g fix (Cover rho mu lines) = size_list_steps g fix (Cover rho mu lines)
size_steps g fix (Water level why) = []

-- the bound of a fact that fixes n types: rho times the rest, mu and that, rho times the sum of the priors; a fact with mu = 0 has none
abbrev pub bound_steps : Game → List Cap → ℕ → Fact → List Wide
bound_steps g caps n f =
    if int_lt (pos 0) (mu_of f)
    then (times (rho_of f) (rest_of g caps n) ∷ plus (mu_of f) (rho_of f *ℤ rest_of g caps n) ∷ times (rho_of f) (prior_total g) ∷ [])
    else []

-- the stated sums are the results of these operations
pub record AreResults : Type 0 where
  pub weights : (k : List Ticket) → weight_sums k ≡ map value_of_step (weight_steps k)
  pub values : (g : Game) (k : List Ticket) → value_sums g k ≡ map value_of_step (base_steps g k)
  pub sizes : (g : Game) (fix : Fix) (f : Fact) → size_sums g fix f ≡ map value_of_step (size_steps g fix f)
  pub bounds : (g : Game) (caps : List Cap) (n : ℕ) (f : Fact) → bound_sums g caps n f ≡ map value_of_step (bound_steps g caps n f)
