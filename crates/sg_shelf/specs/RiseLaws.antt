-- That a count rose, in other words.
use Rattle.std.specs.Prelude.{◌≡◌, ◌↔◌, ℕ, ◌-◌, ◌^◌, ◌<◌, ◌≤◌}
use Rattle.sg_shelf.specs.Faults.{HasRisen, HasNotRisen}

-- of any counts before and after
pub record RisesAreStrict : Type 0 where
  -- not to have risen is the contrary
  pub contrary : (before after : ℕ) → HasNotRisen before after ↔ ¬ (HasRisen before after)
  -- below the last value to rise is to be more than before
  pub strict : (before after : ℕ) → before < 2 ^ 64 - 1 → HasRisen before after ↔ (before < after)
  -- at the last value it is to stand there
  pub last : (before after : ℕ) → 2 ^ 64 - 1 ≤ before → HasRisen before after ↔ (2 ^ 64 - 1 ≤ after)
