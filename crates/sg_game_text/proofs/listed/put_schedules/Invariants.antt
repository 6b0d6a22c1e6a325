use Rattle.std.proofs.Common.{◌≡◌, ◌++◌, take}
use Rattle.std.specs.List.{flat_map}
use Rattle.std.proofs.Common.{codes}
use Rattle.sg_format.specs.GameText.{named_table}
use Rattle.sg_game_text.proofs.listed.put_schedules.Given as goal

-- the items so far
abbrev pub invariant-loop-s : goal.invariant-loop-s
invariant-loop-s l = l.text.items ≡ l.initial.text.items ++ flat_map (named_table (codes "schedule") (codes "targets") l.game.goals) (take l.s l.game.schedules)
