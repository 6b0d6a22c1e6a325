use Rattle.std.proofs.Common.{◌≡◌, map, take}
use Rattle.sg_model.specs.Games.{payoff_of}
use Rattle.sg_game.specs.Seen.{number_lists}
use Rattle.sg_game.proofs.convert.payoffs_from.Given as goal

abbrev pub invariant-loop-numbers : goal.invariant-loop-numbers
invariant-loop-numbers l = l.payoffs ≡ map payoff_of (number_lists (take l.numbers-index l.numbers-items))
