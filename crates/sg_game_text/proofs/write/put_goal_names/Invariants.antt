use Rattle.std.proofs.Common.{◌≡◌, ◌++◌, map, take}
use Rattle.sg_format.specs.GameText.{comma_joined, quoted}
use Rattle.sg_game_text.proofs.write.put_goal_names.Given as goal

-- the items so far
abbrev pub invariant-loop-t : goal.invariant-loop-t
invariant-loop-t l = l.text.items ≡ l.initial.text.items ++ comma_joined (map quoted (take l.t l.game.goals))
