use Rattle.std.proofs.Common.{◌≡◌, ◌+◌, ◌*◌, ◌-◌}
use Rattle.sg_model.specs.Games.{resource_count}
use Rattle.sg_model.specs.PlayLists.{choices_from}
use Rattle.sg_game.proofs.counting.choices.Given as goal

-- the count so far, times that of the rest
abbrev pub invariant-loop-r : goal.invariant-loop-r
invariant-loop-r l = l.count * choices_from l.game (l.r + 1) (resource_count l.game - l.r) ≡ choices_from l.game 1 (resource_count l.game)
