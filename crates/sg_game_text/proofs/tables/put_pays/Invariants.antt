use Rattle.std.proofs.Common.{◌≡◌, ◌++◌, map, take}
use Rattle.std.specs.Fmt.{signed_decimal}
use Rattle.sg_format.specs.GameText.{comma_joined}
use Rattle.sg_game_text.proofs.tables.put_pays.Given as goal

-- the items so far
abbrev pub invariant-loop-i : goal.invariant-loop-i
invariant-loop-i l = l.text.items ≡ l.initial.text.items ++ comma_joined (map signed_decimal (take l.i l.pays))
