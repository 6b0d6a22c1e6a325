-- What a water level says of the commitments of a game of identical patrols with one attacker.
use Rattle.std.specs.Prelude.{◌≡◌, ℕ, ◌≤◌, true, List, length, ℤ, ◌*ℤ◌, ◌≤ℤ◌, int_le}
use Rattle.sg_model.specs.declared.level.Level.{Level}
use Rattle.sg_model.specs.declared.ticket.Ticket.{Ticket}
use Rattle.sg_model.specs.Games.{Game, payoff}
use Rattle.sg_model.specs.Commitments.{IsCommitment, IsValue, is_best, weight_total, sum_a}
use Rattle.sg_model.specs.Optimality.{IsOptimal, IsUpperBound}
use Rattle.sg_model.specs.Origami.{IsOrigami, IsWater, AreLevelTickets, water_bound}

-- whatever the defender does, some target pays the attacker the level num / den
abbrev pub LevelIsReached : Type 0
LevelIsReached = (g : Game) → IsOrigami g → (num den : ℤ) (why : Level) → IsWater g num den why → (k : List Ticket) → IsCommitment g k
    → (t : ℕ) × (1 ≤ t) × (t ≤ length g.goals) × ((num *ℤ weight_total k) ≤ℤ (sum_a g k 1 t *ℤ den))

-- the bound that a level gives is an upper bound
abbrev pub WaterBounds : Type 0
WaterBounds = (g : Game) → IsOrigami g → (num den : ℤ) (why : Level) → IsWater g num den why
    → IsUpperBound g (water_bound g num den) (den *ℤ g.scale)

-- a commitment that covers each target of the level in its share, and no other target, has the bound for its value, and is optimal
abbrev pub LevelTicketsAreOptimal : Type 0
LevelTicketsAreOptimal = (g : Game) → IsOrigami g → (num den : ℤ) (why : Level) → IsWater g num den why
    → (k : List Ticket) → IsCommitment g k → AreLevelTickets g num den k
    → IsValue g k (water_bound g num den) (den *ℤ g.scale) × IsOptimal g k

-- such a commitment leaves the attacker no more than the level, which is so the least that any can
abbrev pub LevelIsLeast : Type 0
LevelIsLeast = (g : Game) → IsOrigami g → (num den : ℤ) (why : Level) → IsWater g num den why
    → (k : List Ticket) → IsCommitment g k → AreLevelTickets g num den k
    → (t : ℕ) → 1 ≤ t → t ≤ length g.goals → (sum_a g k 1 t *ℤ den) ≤ℤ (num *ℤ weight_total k)

-- and no water-level fact says more than the level of such a commitment
abbrev pub NoLevelIsAbove : Type 0
NoLevelIsAbove = (g : Game) → IsOrigami g → (num den : ℤ) (why : Level) → IsWater g num den why
    → (k : List Ticket) → IsCommitment g k → AreLevelTickets g num den k
    → (a b : ℤ) (reason : Level) → IsWater g a b reason → (a *ℤ den) ≤ℤ (num *ℤ b)

-- the attacker's best answers to it are just the targets of the level, each of which pays the level
abbrev pub LevelIsBest : Type 0
LevelIsBest = (g : Game) → IsOrigami g → (num den : ℤ) (why : Level) → IsWater g num den why
    → (k : List Ticket) → IsCommitment g k → AreLevelTickets g num den k
    → (t : ℕ) → 1 ≤ t → t ≤ length g.goals
    → (is_best g k 1 t ≡ int_le num ((payoff g 1 t).au *ℤ den)) × (is_best g k 1 t ≡ true → (sum_a g k 1 t *ℤ den) ≡ (num *ℤ weight_total k))

-- so what it pays the attacker at any target is at most what each other commitment pays at some target, ticket for ticket: it leaves the attacker the least
abbrev pub LevelIsMinimax : Type 0
LevelIsMinimax = (g : Game) → IsOrigami g → (num den : ℤ) (why : Level) → IsWater g num den why
    → (k : List Ticket) → IsCommitment g k → AreLevelTickets g num den k
    → (other : List Ticket) → IsCommitment g other
    → (s : ℕ) × (1 ≤ s) × (s ≤ length g.goals) × ((t : ℕ) → 1 ≤ t → t ≤ length g.goals → (sum_a g k 1 t *ℤ weight_total other) ≤ℤ (sum_a g other 1 s *ℤ weight_total k))
