use Rattle.std.proofs.Common.{ℕ, ◌<◌, ◌≤◌, ◌+◌, slice_index}
use Rattle.sg_model.specs.Games.{action_count}
use Rattle.sg_cover_fact_tests.proofs.asking.node_of.Given as goal

-- the actions so far are those of their types
abbrev pub invariant-loop-i : goal.invariant-loop-i
invariant-loop-i l = (k : ℕ) → k < l.i → (1 ≤ slice_index l.acts k) × (slice_index l.acts k ≤ action_count l.game (1 + k))
