-- What holds of every commitment that is kept, and of those with so few tickets that nothing leaves 128 bits.
use Rattle.std.specs.Prelude.{◌≡◌, ◌^◌, ℕ, List, ℤ, pos, ◌*ℤ◌, ◌≤ℤ◌, All, Ok}
use Rattle.sg_model.specs.declared.ticket.Ticket.{Ticket}
use Rattle.sg_model.specs.Games.{Game, prior_total}
use Rattle.sg_model.specs.Limits.{IsGame}
use Rattle.sg_model.specs.Commitments.{IsCommitment, scaled, sum_a, sum_d, take_of, weight_total, worth, AreLegal}
use Rattle.sg_model.specs.OptimalityLaws.{AreOneMix}
use Rattle.sg_commit.specs.Committed.{Committed, IsCommitted}
use Rattle.sg_commit.specs.Parts.{AreMultiple}
use Rattle.sg_commit.specs.ExactSums.{exact_base, exact_sum_a, exact_sum_d, exact_take, exact_worth}

-- tickets that are kept are distinct plays, so where they are legal they are a commitment
abbrev pub KeptIsCommitment : Type 0
KeptIsCommitment = (g : Game) (c : Committed) → IsCommitted c → AreLegal g c.tickets → IsCommitment g c.tickets

-- and they are legal where they were made of legal parts
abbrev pub LegalPartsStayLegal : Type 0
LegalPartsStayLegal = (g : Game) (parts : List Ticket) (c : Committed) → IsCommitted c → AreMultiple parts c.tickets → AreLegal g parts → AreLegal g c.tickets

-- what is kept is fixed by the shares of the plays: two that are one mix, each with its weights multiplied, are the same
abbrev pub SharesFixKept : Type 0
SharesFixKept = (c other : Committed) → IsCommitted c → IsCommitted other → (m n : ℤ) → pos 1 ≤ℤ m → pos 1 ≤ℤ n
    → AreOneMix (scaled m c.tickets) (scaled n other.tickets) → c ≡ other

-- the total, times the sum of the priors, is at most 2^96
abbrev pub HasSmallTotal : Game → List Ticket → Type 0
HasSmallTotal g k = (weight_total k *ℤ prior_total g) ≤ℤ pos (2 ^ 96)

-- then all that is formed fits, and is what is meant
pub record IsFormed (g : Game) (k : List Ticket) : Type 0 where
  pub defender : (l a : ℕ) → exact_sum_d g k l a ≡ Ok (sum_d g k l a)
  pub attacker : (l a : ℕ) → exact_sum_a g k l a ≡ Ok (sum_a g k l a)
  pub taken : (l : ℕ) → exact_take g k l ≡ Ok (take_of g k l)
  pub worth : exact_worth g k ≡ Ok (worth g k)
  pub base : exact_base g k ≡ Ok (weight_total k *ℤ prior_total g)

abbrev pub SmallIsFormed : Type 0
SmallIsFormed = (g : Game) → IsGame g → (k : List Ticket) → All (λ (x : Ticket). pos 1 ≤ℤ x.weight) k → HasSmallTotal g k → IsFormed g k

-- where a scale is declared, that is so of every total up to 2^96
abbrev pub ScaledIsSmall : Type 0
ScaledIsSmall = (g : Game) → IsGame g → pos 1 ≤ℤ g.scale → (k : List Ticket) → weight_total k ≤ℤ pos (2 ^ 96) → HasSmallTotal g k
