use Rattle.std.proofs.Common.{◌≡◌, ◌++◌, [], map, take}
use Rattle.sg_model.specs.Games.{unnamed}
use Rattle.sg_model.specs.Sums.{nth}
use Rattle.sg_format.specs.GameText.{comma_joined, quoted}
use Rattle.sg_game_text.proofs.listed.put_targets.Given as goal

-- the items so far
abbrev pub invariant-loop-i : goal.invariant-loop-i
invariant-loop-i l = l.text.items ≡ l.initial.text.items ++ comma_joined (map (λ m. quoted (nth l.game.goals m [])) (take l.i (nth l.game.schedules l.s unnamed).members))
