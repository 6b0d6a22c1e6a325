use Rattle.std.proofs.Common.{◌≡◌, ◌+◌, ◌<◌, ℕ, length}
use Rattle.sg_model.specs.Games.{schedule_targets}
use Rattle.sg_game.proofs.counting.has_singles.Given as goal

-- each schedule so far has one target
abbrev pub invariant-loop-s : goal.invariant-loop-s
invariant-loop-s l = (k : ℕ) → k < l.s → length (schedule_targets l.game (k + 1)) ≡ 1
