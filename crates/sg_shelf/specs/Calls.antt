-- Calls counted from 1, some of which are to fail.
use Rattle.std.specs.Prelude.{ℕ, ◌-◌, ◌^◌, List, Bool, ◌==◌, ◌||◌}
use Rattle.std.specs.List.{list_any}

-- The count of calls or that of faults stands at its last value.
abbrev pub is_spent : ℕ → ℕ → Bool
is_spent calls faults = calls == 2 ^ 64 - 1 || faults == 2 ^ 64 - 1

-- The call with this number is to fail.
abbrev pub is_to_fail : List ℕ → ℕ → Bool
is_to_fail fails call = list_any (λ n. n == call) fails
