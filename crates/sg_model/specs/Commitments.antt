-- Commitments (mixed strategies with whole-number weights), their sums, the attackers' best responses, and worth.
use Rattle.std.specs.Prelude.{◌≡◌, ◌≢◌, ℕ, Bool, if◌then◌else◌, List, [], map, length, ℤ, pos, ◌*ℤ◌, ◌≤ℤ◌, All, AllPairs, bytes_eq, filter, int_le, unsigned_abs}
use Rattle.std.specs.List.{list_all}
use Rattle.std.specs.Int.{◌∣◌}
use Rattle.sg_model.specs.declared.ticket.Ticket.{Ticket}
use Rattle.sg_model.specs.Sums.{total, greatest, numbers}
use Rattle.sg_model.specs.Games.{Game, attacker, action_count, prior_total}
use Rattle.sg_model.specs.Plays.{IsLegal, covers, pay_d, pay_a}

-- at least one ticket: distinct legal plays, each with a weight of at least 1, which may be any number
pub record IsCommitment (g : Game) (k : List Ticket) : Type 0 where
  pub some : k ≢ []
  pub legal : All (λ (x : Ticket). IsLegal g x.play.code) k
  pub positive : All (λ (x : Ticket). pos 1 ≤ℤ x.weight) k
  pub distinct : AllPairs (λ (x y : Ticket). x.play.code ≢ y.play.code) k

-- the plays of the tickets are legal
abbrev pub AreLegal : Game → List Ticket → Type 0
AreLegal g k = All (λ (x : Ticket). IsLegal g x.play.code) k

-- no number above 1 divides all weights
abbrev pub AreLowest : List Ticket → Type 0
AreLowest k = (d : ℕ) → All (λ (x : Ticket). d ∣ unsigned_abs x.weight) k → d ≡ 1

-- the sum of the weights
abbrev pub weight_total : List Ticket → ℤ
weight_total k = total (λ (x : Ticket). x.weight) k

-- weight times what the defender gets against type l, which takes action a, summed over the tickets
abbrev pub sum_d : Game → List Ticket → ℕ → ℕ → ℤ
sum_d g k l a = total (λ (x : Ticket). x.weight *ℤ pay_d g l x.play.code a) k

-- weight times what type l gets from action a, summed over the tickets
abbrev pub sum_a : Game → List Ticket → ℕ → ℕ → ℤ
sum_a g k l a = total (λ (x : Ticket). x.weight *ℤ pay_a g l x.play.code a) k

-- no action of type l has a greater sum
abbrev pub is_best : Game → List Ticket → ℕ → ℕ → Bool
is_best g k l a = list_all (λ b. int_le (sum_a g k l b) (sum_a g k l a)) (numbers (action_count g l))

-- the defender's greatest sum over the best actions of type l: ties go to the defender
abbrev pub take_of : Game → List Ticket → ℕ → ℤ
take_of g k l = greatest (map (sum_d g k l) (filter (is_best g k l) (numbers (action_count g l))))

-- prior times what is taken, summed over the types
abbrev pub worth : Game → List Ticket → ℤ
worth g k = total (λ l. (attacker g l).prior *ℤ take_of g k l) (numbers (length g.types))

-- the defender value, worth over total weight times the sum of the priors, is num / den
pub record IsValue (g : Game) (k : List Ticket) (num den : ℤ) : Type 0 where
  pub positive : pos 1 ≤ℤ den
  pub same : worth g k *ℤ den ≡ (num *ℤ weight_total k) *ℤ prior_total g

-- the weights of the plays that cover target t
abbrev pub cover_count : Game → List Ticket → ℕ → ℤ
cover_count g k t = total (λ (x : Ticket). if covers g x.play.code t then x.weight else pos 0) k

-- the same plays, each with c times its weight
abbrev pub scaled : ℤ → List Ticket → List Ticket
scaled c k = map (λ (x : Ticket). record x { weight = c *ℤ x.weight }) k

-- the weights of the tickets with this play
abbrev pub weight_on : List Ticket → List ℕ → ℤ
weight_on k play = total (λ (x : Ticket). if bytes_eq x.play.code play then x.weight else pos 0) k
