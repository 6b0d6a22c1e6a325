use Rattle.std.proofs.Common.{◌≡◌, ◌++◌, map, take}
use Rattle.std.specs.List.{flat_map}
use Rattle.std.proofs.Common.{codes}
use Rattle.sg_model.specs.Games.{Named}
use Rattle.sg_format.specs.GameText.{named_table}
use Rattle.sg_game_text.proofs.listed.put_resources.Given as goal

-- the items so far
abbrev pub invariant-loop-r : goal.invariant-loop-r
invariant-loop-r l = l.text.items ≡ l.initial.text.items ++ flat_map (named_table (codes "resource") (codes "schedules") (map (λ (x : Named). x.name) l.game.schedules)) (take l.r l.game.resources)
