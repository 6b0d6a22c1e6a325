-- The sum of the absolute weights, or the first operation towards it whose result doesn't fit 128 bits.
use Rattle.std.specs.Prelude.{◌≡◌, ◌≤◌, if◌then◌else◌, false, length, List, [], ◌∷◌, ℤ, pos, int_lt, Result, Ok}
use Rattle.sg_num.specs.declared.step.Wide.{Wide}
use Rattle.sg_num.specs.Exact.{and_then, exact_less, exact_sum}
use Rattle.sg_model.specs.Games.{Game, is_matrix}

-- an absolute weight: 0 - w where w is negative
abbrev pub absolute : ℤ → Result ℤ Wide
absolute w = if int_lt w (pos 0) then exact_less (pos 0) w else Ok w

-- acc and an absolute weight
abbrev pub plus_absolute : ℤ → ℤ → Result ℤ Wide
plus_absolute acc w = and_then (absolute w) (λ a. exact_sum acc a)

-- acc and the absolute weights, one after the other
abbrev pub absolute_sum_from : ℤ → List ℤ → Result ℤ Wide
absolute_sum_from acc [] = Ok acc
absolute_sum_from acc (w ∷ ws) = and_then (plus_absolute acc w) (λ next. absolute_sum_from next ws)

-- their sum
abbrev pub absolute_sum : List ℤ → Result ℤ Wide
absolute_sum ws = absolute_sum_from (pos 0) ws

-- the running sum of the absolute weights fits
abbrev pub HasAbsoluteSum : List ℤ → Type 0
HasAbsoluteSum ws = (s : ℤ) × (absolute_sum ws ≡ Ok s)

-- weights for the targets of a game in security form, one each, whose absolute sum fits; there are at most 10,000
pub record IsWeighted (g : Game) (ws : List ℤ) : Type 0 where
  pub security : is_matrix g ≡ false
  pub one_each : length ws ≡ length g.goals
  pub few : length ws ≤ 10000
  pub sized : HasAbsoluteSum ws
