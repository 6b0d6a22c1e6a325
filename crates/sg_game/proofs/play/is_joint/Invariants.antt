use Rattle.std.proofs.Common.{ℕ, ◌+◌, ◌<◌, ◌≤◌, length, slice_index}
use Rattle.sg_model.specs.Games.{resource_schedules}
use Rattle.sg_game.proofs.play.is_joint.Given as goal

-- each choice so far is in its resource's list
abbrev pub invariant-loop-k : goal.invariant-loop-k
invariant-loop-k l = (j : ℕ) → j < l.k → slice_index l.code j ≤ length (resource_schedules l.game (j + 1))
