use Rattle.std.proofs.Common.{◌≡◌, ◌++◌, map, take}
use Rattle.sg_model.specs.Games.{attacker}
use Rattle.sg_format.specs.GameText.{comma_joined, pays_array}
use Rattle.sg_game_text.specs.Writing.{table_of_side}
use Rattle.sg_game_text.proofs.tables.put_table.Given as goal

-- the items so far
abbrev pub invariant-loop-i : goal.invariant-loop-i
invariant-loop-i l = l.text.items ≡ l.initial.text.items ++ comma_joined (map pays_array (take l.i (table_of_side l.side (attacker l.game l.l))))
