-- Legal plays (joint schedules, or rows), what they cover, and what they pay.
use Rattle.std.specs.Prelude.{◌≡◌, ℕ, ◌+◌, ◌≤◌, ◌<◌, Bool, false, ◌||◌, if◌then◌else◌, List, [], ◌∷◌, length, ℤ, pos, nat_eq, slice_index, MatchBool}
use Rattle.std.specs.List.{list_any}
use Rattle.sg_model.specs.Sums.{nth}
use Rattle.sg_model.specs.Games.{Game, attacker, payoff, is_matrix, resource_count, resource_schedules, schedule_targets}

-- one choice for each resource: 0 for idle, or the place, counted from 1, of a schedule in that resource's list
pub record IsLegalJoint (g : Game) (play : List ℕ) : Type 0 where
  pub one_each : length play ≡ resource_count g
  pub in_list : (k : ℕ) → k < length play → slice_index play k ≤ length (resource_schedules g (k + 1))

-- one row number
pub record IsRow (g : Game) (play : List ℕ) : Type 0 where
  pub one : length play ≡ 1
  pub from_one : 1 ≤ slice_index play 0
  pub in_list : slice_index play 0 ≤ length g.goals

-- a joint schedule, or in matrix form a row
abbrev pub IsLegal : Game → List ℕ → Type 0
IsLegal g play = MatchBool (is_matrix g) (IsRow g play) (IsLegalJoint g play)

-- whether one of the choices, those of the resources from r on, holds target t
abbrev pub covers_from : Game → ℕ → List ℕ → ℕ → Bool
covers_from g r [] t = false
covers_from g r (c ∷ cs) t =
    list_any (λ x. nat_eq x t) (schedule_targets g (nth (resource_schedules g r) c 0)) || covers_from g (r + 1) cs t

-- whether at least one chosen schedule holds target t
abbrev pub covers : Game → List ℕ → ℕ → Bool
covers g play t = covers_from g 1 play t

-- what the defender gets against type l where this is played and a is attacked
abbrev pub pay_d : Game → ℕ → List ℕ → ℕ → ℤ
pay_d g l play a =
    if is_matrix g then nth (nth (attacker g l).leader (slice_index play 0) []) a (pos 0)
    else (if covers g play a then (payoff g l a).dc else (payoff g l a).du)

-- what type l gets where this is played and it attacks a
abbrev pub pay_a : Game → ℕ → List ℕ → ℕ → ℤ
pay_a g l play a =
    if is_matrix g then nth (nth (attacker g l).follower (slice_index play 0) []) a (pos 0)
    else (if covers g play a then (payoff g l a).ac else (payoff g l a).au)

-- the targets of the schedule that resource r, counted from 1, takes where this is played
abbrev pub chosen_targets : Game → List ℕ → ℕ → List ℕ
chosen_targets g play r = schedule_targets g (nth (resource_schedules g r) (nth play r 0) 0)
