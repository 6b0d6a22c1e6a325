-- The operations under the sums of a commitment, with their operands, in the order in which they are formed.
use Rattle.std.specs.Prelude.{◌≡◌, ℕ, List, [], ◌∷◌, ◌++◌, length, ℤ, pos, ◌+ℤ◌, ◌*ℤ◌, filter, flat_map}
use Rattle.sg_model.specs.declared.ticket.Ticket.{Ticket}
use Rattle.sg_model.specs.Sums.{numbers}
use Rattle.sg_model.specs.Games.{Game, action_count, attacker, prior_total}
use Rattle.sg_model.specs.Plays.{pay_a, pay_d}
use Rattle.sg_model.specs.Commitments.{is_best, sum_a, sum_d, take_of, weight_total, worth}
use Rattle.sg_num.specs.declared.step.Wide.{Wide}
use Rattle.sg_num.specs.Operations.{formed, plus, times}
use Rattle.sg_commit.specs.ExactSums.{exact_base, exact_sum_a, exact_sum_d, exact_take, exact_worth}

-- by rising ticket, its weight times the pay, and that added to what there is
abbrev pub dot_steps : (Ticket → ℤ) → ℤ → List Ticket → List Wide
dot_steps pay acc [] = []
dot_steps pay acc (x ∷ xs) = times x.weight (pay x) ∷ plus acc (x.weight *ℤ pay x) ∷ dot_steps pay (acc +ℤ (x.weight *ℤ pay x)) xs

-- what the defender gets against type l, which takes action a
abbrev pub sum_d_steps : Game → List Ticket → ℕ → ℕ → List Wide
sum_d_steps g k l a = dot_steps (λ (x : Ticket). pay_d g l x.play.code a) (pos 0) k

-- what type l gets from action a
abbrev pub sum_a_steps : Game → List Ticket → ℕ → ℕ → List Wide
sum_a_steps g k l a = dot_steps (λ (x : Ticket). pay_a g l x.play.code a) (pos 0) k

-- what type l gets from each of its actions, and then what the defender gets from each of its best ones
abbrev pub take_steps : Game → List Ticket → ℕ → List Wide
take_steps g k l =
    flat_map (sum_a_steps g k l) (numbers (action_count g l)) ++ flat_map (sum_d_steps g k l) (filter (is_best g k l) (numbers (action_count g l)))

-- for each of these types what it takes, then its prior times that, and that added to what there is
abbrev pub worth_steps : Game → List Ticket → ℤ → List ℕ → List Wide
worth_steps g k acc [] = []
worth_steps g k acc (l ∷ ls) =
    take_steps g k l
    ++ (times (attacker g l).prior (take_of g k l) ∷ plus acc ((attacker g l).prior *ℤ take_of g k l)
    ∷ worth_steps g k (acc +ℤ ((attacker g l).prior *ℤ take_of g k l)) ls)

-- the worth, and then the total times the sum of the priors
abbrev pub base_steps : Game → List Ticket → List Wide
base_steps g k = worth_steps g k (pos 0) (numbers (length g.types)) ++ (times (weight_total k) (prior_total g) ∷ [])

-- each sum comes where all operations under it fit, and else the first of them that doesn't is told, with its operands
pub record AreFormed (g : Game) (k : List Ticket) : Type 0 where
  pub defender : (l a : ℕ) → exact_sum_d g k l a ≡ formed (sum_d_steps g k l a) (sum_d g k l a)
  pub attacker : (l a : ℕ) → exact_sum_a g k l a ≡ formed (sum_a_steps g k l a) (sum_a g k l a)
  pub taken : (l : ℕ) → exact_take g k l ≡ formed (take_steps g k l) (take_of g k l)
  pub worth : exact_worth g k ≡ formed (worth_steps g k (pos 0) (numbers (length g.types))) (worth g k)
  pub base : exact_base g k ≡ formed (base_steps g k) (weight_total k *ℤ prior_total g)

abbrev pub SumsAreFormed : Type 0
SumsAreFormed = (g : Game) (k : List Ticket) → AreFormed g k
