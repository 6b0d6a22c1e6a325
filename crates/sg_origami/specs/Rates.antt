-- What the level of a game of identical patrols is made of.
use Rattle.std.specs.Prelude.{◌≡◌, ℕ, ◌≤◌, length, ℤ, pos, ◌-ℤ◌, ◌*ℤ◌, ◌≤ℤ◌, ◌<ℤ◌, ◌<◌, Bool, int_div, int_le, unsigned_abs}
use Rattle.std.specs.Int.{◌∣◌}
use Rattle.sg_model.specs.Sums.{total}
use Rattle.sg_model.specs.Games.{Game, payoff, resource_count}
use Rattle.sg_model.specs.declared.limit.TheConstants.{SCALE_LIMIT}
use Rattle.sg_model.specs.Limits.{IsPay, IsWithin}
use Rattle.sg_model.specs.Origami.{IsOrigami, gap, share, at_level, count_at}

-- how often a target's gap goes into the scale
abbrev pub multiple : Game → ℕ → ℤ
multiple g t = int_div g.scale (gap (payoff g 1 t))

-- what a target adds to the sums of a level: how often its gap goes into the scale, and what the attacker gets where it is uncovered
pub record RateView : Type 0 where
  pub multiple : ℤ
  pub uncovered : ℤ

-- that of target t
abbrev pub rate_at : Game → ℕ → RateView
rate_at g t = record { multiple = multiple g t; uncovered = (payoff g 1 t).au }

-- a rate within the limits
pub record IsRate (r : RateView) : Type 0 where
  pub multiple : IsWithin (pos 1) SCALE_LIMIT r.multiple
  pub uncovered : IsPay r.uncovered

-- how often the gap goes into the scale
abbrev pub multiple_of : RateView → ℤ
multiple_of r = r.multiple

-- the uncovered payoff
abbrev pub uncovered_of : RateView → ℤ
uncovered_of r = r.uncovered

-- the multiple times the uncovered payoff
abbrev pub weighted_of : RateView → ℤ
weighted_of r = r.multiple *ℤ r.uncovered

-- whether the uncovered payoff is at least the level
abbrev pub is_above : ℤ → ℤ → RateView → Bool
is_above num den r = int_le num (r.uncovered *ℤ den)

-- how much of the scale times the denominator it takes to bring the target down to the level
abbrev pub need_of : ℤ → ℤ → RateView → ℤ
need_of num den r = r.multiple *ℤ (r.uncovered *ℤ den -ℤ num)

-- of targets 1 to m, t is the first of those that pay the attacker most where they are covered
pub record IsFirstMost (g : Game) (m : ℕ) (t : ℕ) (pay : ℤ) : Type 0 where
  pub from_one : 1 ≤ t
  pub in_range : t ≤ m
  pub pays : pay ≡ (payoff g 1 t).ac
  pub most : (j : ℕ) → 1 ≤ j → j ≤ m → (payoff g 1 j).ac ≤ℤ pay
  pub first : (j : ℕ) → 1 ≤ j → j < t → (payoff g 1 j).ac <ℤ pay

-- the patrols can bring each target down to the level: none pays more where it is covered, and the patrols suffice
pub record IsReachable (g : Game) (num den : ℤ) : Type 0 where
  pub positive : pos 1 ≤ℤ den
  pub over : (j : ℕ) → 1 ≤ j → j ≤ length g.goals → ((payoff g 1 j).ac *ℤ den) ≤ℤ num
  pub enough : total (share g num den) (at_level g num den) ≤ℤ ((pos (resource_count g) *ℤ den) *ℤ g.scale)

-- d is the greatest common divisor of a number and of the counts of targets 1 to m at a level
pub record IsCountDivisor (g : Game) (num den : ℤ) (whole m d : ℕ) : Type 0 where
  pub of_whole : d ∣ whole
  pub of_each : (t : ℕ) → 1 ≤ t → t ≤ m → d ∣ unsigned_abs (count_at g num den t)
  pub greatest : (e : ℕ) → e ∣ whole → ((t : ℕ) → 1 ≤ t → t ≤ m → e ∣ unsigned_abs (count_at g num den t)) → e ∣ d
