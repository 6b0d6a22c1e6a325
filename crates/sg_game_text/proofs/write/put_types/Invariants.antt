use Rattle.std.proofs.Common.{◌≡◌, ◌++◌, take}
use Rattle.std.specs.List.{flat_map}
use Rattle.sg_format.specs.GameText.{type_table}
use Rattle.sg_game_text.proofs.write.put_types.Given as goal

-- the items so far
abbrev pub invariant-loop-l : goal.invariant-loop-l
invariant-loop-l l = l.text.items ≡ l.initial.text.items ++ flat_map (type_table l.game.kind) (take l.l l.game.types)
