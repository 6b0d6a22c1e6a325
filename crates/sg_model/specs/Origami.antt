-- Games of identical patrols with one attacker, the level that the attacker's best payoff can't fall below, and the bound that a level proves.
use Rattle.std.specs.Prelude.{◌≡◌, ◌≢◌, ℕ, ◌≤◌, if◌then◌else◌, List, [], map, length, ℤ, pos, ◌-ℤ◌, ◌+ℤ◌, ◌*ℤ◌, ◌≤ℤ◌, ◌<ℤ◌, filter, int_le, int_div, int_rem, Some}
use Rattle.sg_model.specs.declared.kind.Kind.TheVariants.{Security}
use Rattle.sg_model.specs.declared.level.Level.{Level}
use Rattle.sg_model.specs.declared.level.Level.TheVariants.{Resources, Target}
use Rattle.sg_model.specs.Sums.{total, greatest, numbers}
use Rattle.sg_model.specs.declared.ticket.Ticket.{Ticket}
use Rattle.sg_model.specs.Games.{Game, Payoff, attacker, payoff, resource_count}
use Rattle.sg_model.specs.Commitments.{weight_total, cover_count}

-- what the attacker loses where a target is covered
abbrev pub gap : Payoff → ℤ
gap p = p.au -ℤ p.ac

-- covering helps the defender and hurts the attacker, and the attacker's gap divides the scale
pub record IsScaled (scale : ℤ) (p : Payoff) : Type 0 where
  pub defender_gains : p.du <ℤ p.dc
  pub attacker_loses : p.ac <ℤ p.au
  pub divides : int_rem scale (gap p) ≡ pos 0

-- one attacker of prior 1, and patrols each of which may cover any one target
pub record IsOrigami (g : Game) : Type 0 where
  pub security : g.kind ≡ Security
  pub identical : g.patrols ≡ Some (resource_count g)
  pub scaled : pos 1 ≤ℤ g.scale
  pub one_type : length g.types ≡ 1
  pub prior_one : (attacker g 1).prior ≡ pos 1
  pub targets : (t : ℕ) → 1 ≤ t → t ≤ length g.goals → IsScaled g.scale (payoff g 1 t)

-- the targets whose uncovered payoff to the attacker is at least num / den
abbrev pub at_level : Game → ℤ → ℤ → List ℕ
at_level g num den = filter (λ t. int_le num ((payoff g 1 t).au *ℤ den)) (numbers (length g.goals))

-- the coverage that brings target t down to the level num / den, which is (au - num / den) / (au - ac), times den and the scale
abbrev pub share : Game → ℤ → ℤ → ℕ → ℤ
share g num den t = int_div g.scale (gap (payoff g 1 t)) *ℤ ((payoff g 1 t).au *ℤ den -ℤ num)

-- the patrols are just enough to bring all targets of the level down to it
pub record SpendsAll (g : Game) (num den : ℤ) : Type 0 where
  pub some : at_level g num den ≢ []
  pub sum : total (share g num den) (at_level g num den) ≡ (pos (resource_count g) *ℤ den) *ℤ g.scale

-- target j, covered for certain, still pays the attacker the level
pub record IsFullyCovered (g : Game) (num den : ℤ) (j : ℕ) : Type 0 where
  pub from_one : 1 ≤ j
  pub in_range : j ≤ length g.goals
  pub pays : (payoff g 1 j).ac *ℤ den ≡ num

-- the reason that holds the level up
abbrev pub IsLevelFor : Game → ℤ → ℤ → Level → Type 0
IsLevelFor g num den Resources = SpendsAll g num den
IsLevelFor g num den (Target j) = IsFullyCovered g num den j

-- the water-level fact: the attacker's best payoff can't fall below num / den, for this reason
pub record IsWater (g : Game) (num den : ℤ) (why : Level) : Type 0 where
  pub positive : pos 1 ≤ℤ den
  pub level : IsLevelFor g num den why

-- the greatest payoff du + (dc - du) * (au - level) / (au - ac) over the targets of the level, times den and the scale
abbrev pub water_bound : Game → ℤ → ℤ → ℤ
water_bound g num den =
    greatest (map (λ t. (payoff g 1 t).du *ℤ (den *ℤ g.scale) +ℤ ((payoff g 1 t).dc -ℤ (payoff g 1 t).du) *ℤ share g num den t) (at_level g num den))

-- how many of den times the scale tickets cover target t: its share, or none where it isn't of the level
abbrev pub count_at : Game → ℤ → ℤ → ℕ → ℤ
count_at g num den t = if int_le num ((payoff g 1 t).au *ℤ den) then share g num den t else pos 0

-- every target is covered in just that proportion of the tickets
abbrev pub AreLevelTickets : Game → ℤ → ℤ → List Ticket → Type 0
AreLevelTickets g num den k = (t : ℕ) → 1 ≤ t → t ≤ length g.goals
    → cover_count g k t *ℤ (den *ℤ g.scale) ≡ count_at g num den t *ℤ weight_total k
