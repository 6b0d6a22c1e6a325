use Rattle.std.proofs.Common.{◌≡◌, ◌++◌, map, take}
use Rattle.sg_model.specs.Games.{attacker}
use Rattle.sg_format.specs.GameText.{comma_joined, quoted}
use Rattle.sg_game_text.proofs.tables.put_actions.Given as goal

-- the items so far
abbrev pub invariant-loop-a : goal.invariant-loop-a
invariant-loop-a l = l.text.items ≡ l.initial.text.items ++ comma_joined (map quoted (take l.a (attacker l.game l.l).actions))
