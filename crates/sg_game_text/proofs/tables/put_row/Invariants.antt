use Rattle.std.proofs.Common.{◌≡◌, ◌++◌, [], map, take}
use Rattle.std.specs.Fmt.{signed_decimal}
use Rattle.sg_model.specs.Games.{attacker}
use Rattle.sg_model.specs.Sums.{nth}
use Rattle.sg_format.specs.GameText.{comma_joined}
use Rattle.sg_game_text.specs.Writing.{table_of_side}
use Rattle.sg_game_text.proofs.tables.put_row.Given as goal

-- the items so far
abbrev pub invariant-loop-a : goal.invariant-loop-a
invariant-loop-a l = l.text.items ≡ l.initial.text.items ++ comma_joined (map signed_decimal (take l.a (nth (table_of_side l.side (attacker l.game l.l)) l.i [])))
