-- Least common multiples.
use Rattle.std.specs.Prelude.{ℕ, ◌^◌, ◌≤◌}
use Rattle.std.specs.Int.{◌∣◌}

-- m is the least common multiple of a and b: a multiple of both, and each multiple of both is one of m
abbrev pub IsLcm : ℕ → ℕ → ℕ → Type 0
IsLcm a b m = (a ∣ m) × (b ∣ m) × ((c : ℕ) → a ∣ c → b ∣ c → m ∣ c)

-- the least common multiple of a and b does not fit u128
abbrev pub IsLcmWide : ℕ → ℕ → Type 0
IsLcmWide a b = (m : ℕ) × (IsLcm a b m × (2 ^ 128 ≤ m))
