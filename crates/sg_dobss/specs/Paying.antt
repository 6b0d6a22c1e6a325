-- Numbers for all plays of a game at once.
use Rattle.std.specs.Prelude.{◌≡◌, ℕ, ◌<◌, List, [], length, ℤ, ◌-ℤ◌, slice_index_or}
use Rattle.sg_model.specs.Games.{Game, payoff}
use Rattle.sg_model.specs.PlayLists.{legal_plays}
use Rattle.sg_model.specs.Plays.{pay_a, pay_d}
use Rattle.sg_rows.specs.Rows.{place}
use Rattle.sg_dobss.specs.declared.paying.Side.{Side}
use Rattle.sg_dobss.specs.declared.paying.Side.TheVariants.{Defender, Attacker}

-- the play at a place, from 0
abbrev pub listed_play : Game → ℕ → List ℕ
listed_play g k = slice_index_or (legal_plays g) k []

-- what the defender or type l gets where this is played and a is attacked
abbrev pub pay : Side → Game → ℕ → List ℕ → ℕ → ℤ
pay Defender g l play a = pay_d g l play a
pay Attacker g l play a = pay_a g l play a

-- what they get at a covered target, and at an uncovered one
abbrev pub covered_pay : Side → Game → ℕ → ℕ → ℤ
covered_pay Defender g l a = (payoff g l a).dc
covered_pay Attacker g l a = (payoff g l a).ac

abbrev pub uncovered_pay : Side → Game → ℕ → ℕ → ℤ
uncovered_pay Defender g l a = (payoff g l a).du
uncovered_pay Attacker g l a = (payoff g l a).au

-- n numbers, that at place k, from 0, being f k
pub record AreNumbers (n : ℕ) (f : ℕ → ℤ) (xs : List ℤ) : Type 0 where
  pub long : length xs ≡ n
  pub each : (k : ℕ) → k < n → place xs k ≡ f k

-- a number for each legal play, in order
abbrev pub AreByPlay : Game → (List ℕ → ℤ) → List ℤ → Type 0
AreByPlay g f xs = AreNumbers (length (legal_plays g)) (λ k. f (listed_play g k)) xs

-- the differences of the numbers of two lists
abbrev pub difference_at : List ℤ → List ℤ → ℕ → ℤ
difference_at xs ys k = place xs k -ℤ place ys k
