-- What the search over the resources decides: whether some choices make the weights of the covered targets sum to too much.
use Rattle.std.specs.Prelude.{◌≡◌, ℕ, ◌+◌, ◌-◌, ◌^◌, ◌<◌, ◌≤◌, Bool, false, not, ◌&&◌, if◌then◌else◌, List, length, ℤ, pos, ◌+ℤ◌, ◌≤ℤ◌, slice_index}
use Rattle.sg_model.specs.Sums.{nth, numbers, total}
use Rattle.sg_model.specs.Games.{Game, resource_count, resource_schedules}
use Rattle.sg_model.specs.Plays.{covers_from}
use Rattle.sg_num.specs.Exact.{IsAtMost}

-- whether target t is marked as covered
abbrev pub is_marked : List Bool → ℕ → Bool
is_marked covered t = nth covered t false

-- the weight of target t where it passes the test and isn't marked, and else 0
abbrev pub fresh_weight : List ℤ → List Bool → (ℕ → Bool) → ℕ → ℤ
fresh_weight ws covered test t = if not (is_marked covered t) && test t then nth ws t (pos 0) else pos 0

-- the weights of all targets that pass the test and aren't marked
abbrev pub fresh_sum : List ℤ → List Bool → (ℕ → Bool) → ℤ
fresh_sum ws covered test = total (fresh_weight ws covered test) (numbers (length ws))

-- a choice for each resource after the first k: 0 for idle, or the place of a schedule in its list
pub record AreChoicesAfter (g : Game) (k : ℕ) (rest : List ℕ) : Type 0 where
  pub one_each : k + length rest ≡ resource_count g
  pub in_list : (j : ℕ) → j < length rest → slice_index rest j ≤ length (resource_schedules g (j + (k + 1)))

-- whatever the resources after the first k choose, the sum with what they cover stays within mu
abbrev pub StaysWithin : Game → List ℤ → ℤ → List Bool → ℕ → ℤ → Type 0
StaysWithin g ws mu covered k sum = (rest : List ℕ) → AreChoicesAfter g k rest → (sum +ℤ fresh_sum ws covered (covers_from g (k + 1) rest)) ≤ℤ mu

-- whatever else were covered, the sum with its weights would fit
abbrev pub HasRoom : List ℤ → List Bool → ℤ → Type 0
HasRoom ws covered sum = (test : ℕ → Bool) → IsAtMost (pos (2 ^ 127 - 1)) (sum +ℤ fresh_sum ws covered test)
