-- What filling a game of identical patrols gives: the least level of the attacker's best payoff, its reason, and the coverage that reaches it.
use Rattle.std.specs.Prelude.{◌≡◌, ℕ, ◌≤◌, ◌<◌, ◌^◌, List, length, ℤ, pos, ◌-ℤ◌, ◌*ℤ◌, ◌≤ℤ◌, All, unsigned_abs}
use Rattle.std.specs.Int.{◌∣◌}
use Rattle.sg_model.specs.declared.level.Level.{Level}
use Rattle.sg_model.specs.declared.level.Level.TheVariants.{Resources, Target}
use Rattle.sg_model.specs.declared.ticket.Ticket.{Ticket}
use Rattle.sg_model.specs.Sums.{total, nth}
use Rattle.sg_model.specs.Games.{Game, payoff, resource_count}
use Rattle.sg_model.specs.Commitments.{IsCommitment, weight_total, sum_a}
use Rattle.sg_model.specs.Limits.{IsWithin}
use Rattle.sg_model.specs.Origami.{IsFullyCovered, IsWater, gap, count_at}
use Rattle.sg_frac.specs.Fractions.{IsReduced}
use Rattle.sg_origami.specs.Heights.{IsHeight}
use Rattle.sg_origami.specs.declared.filling.Filling.{Filling}

-- target j is the first that pays the attacker the level where it is covered for certain
pub record IsFirstFloor (g : Game) (num den : ℤ) (j : ℕ) : Type 0 where
  pub floor : IsFullyCovered g num den j
  pub first : (i : ℕ) → i < j → ¬ (IsFullyCovered g num den i)

-- the reason of a level: the first such target, and the patrols only where there is none
abbrev pub IsReasonOf : Game → ℤ → ℤ → Level → Type 0
IsReasonOf g num den (Target j) = IsFirstFloor g num den j
IsReasonOf g num den Resources = (j : ℕ) → ¬ (IsFullyCovered g num den j)

-- out of so many tickets, counts of those that cover each target, as the level num / den asks
pub record IsCoverage (g : Game) (num den : ℤ) (counts : List ℤ) (tickets : ℤ) : Type 0 where
  -- there is a ticket, and there are at most 2^78
  pub ticket_range : IsWithin (pos 1) (pos (2 ^ 78)) tickets
  -- one count for each target
  pub one_each : length counts ≡ length g.goals
  -- none is below 0 or above the tickets
  pub within : All (IsWithin (pos 0) tickets) counts
  -- together they are no more than the patrols can cover in all the tickets
  pub few : total (λ count. count) counts ≤ℤ (pos (resource_count g) *ℤ tickets)
  -- each target is covered in the share of the tickets that brings it down to the level
  pub shares : (t : ℕ) → 1 ≤ t → t ≤ length g.goals → nth counts t (pos 0) *ℤ (den *ℤ g.scale) ≡ count_at g num den t *ℤ tickets
  -- so covered, no target pays the attacker more than the level
  pub enough : (t : ℕ) → 1 ≤ t → t ≤ length g.goals
      → (((payoff g 1 t).au *ℤ tickets -ℤ gap (payoff g 1 t) *ℤ nth counts t (pos 0)) *ℤ den) ≤ℤ (num *ℤ tickets)
  -- no number above 1 divides the tickets and all the counts
  pub lowest : (d : ℕ) → d ∣ unsigned_abs tickets → All (λ count. d ∣ unsigned_abs count) counts → d ≡ 1

-- the filling of a game
pub record IsFilling (g : Game) (f : Filling) : Type 0 where
  -- the attacker's best payoff can't fall below the level, for this reason
  pub water : IsWater g f.level.num f.level.den f.reason
  -- that is, whatever the defender commits to, some target pays the attacker the level
  pub least : (k : List Ticket) → IsCommitment g k
      → (t : ℕ) × (1 ≤ t) × (t ≤ length g.goals) × ((f.level.num *ℤ weight_total k) ≤ℤ (sum_a g k 1 t *ℤ f.level.den))
  -- the reason is the first target that pays the level where it is covered for certain, else the patrols
  pub reason : IsReasonOf g f.level.num f.level.den f.reason
  -- the level is a fraction in lowest terms, with a denominator of at least 1
  pub reduced : IsReduced f.level
  -- its numerator is from -2^77 to 2^77, its denominator at most 2^46
  pub range : IsHeight f.level
  -- the counts and the total are the coverage that reaches the level
  pub coverage : IsCoverage g f.level.num f.level.den f.counts f.total
