-- Which parts can lie in a game.
use Rattle.std.specs.Prelude.{ℕ, ◌^◌, ◌<◌, List, All, Option, Some, None}

-- each number fits 16 bits
abbrev pub FitAll : List ℕ → Type 0
FitAll members = All (λ m. m < 2 ^ 16) members

-- there is no number, or it is below the limit
abbrev pub IsUnderLimit : ℕ → Option ℕ → Type 0
IsUnderLimit limit None = Unit {0}
IsUnderLimit limit (Some n) = n < limit
