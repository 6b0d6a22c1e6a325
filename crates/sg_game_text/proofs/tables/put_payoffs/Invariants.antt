use Rattle.std.proofs.Common.{◌≡◌, ◌++◌, map, take}
use Rattle.sg_model.specs.Games.{attacker}
use Rattle.sg_format.specs.GameText.{comma_joined, four_pays, pays_array}
use Rattle.sg_game_text.proofs.tables.put_payoffs.Given as goal

-- the items so far
abbrev pub invariant-loop-t : goal.invariant-loop-t
invariant-loop-t l = l.text.items ≡ l.initial.text.items ++ comma_joined (map (λ p. pays_array (four_pays p)) (take l.t (attacker l.game l.l).payoffs))
