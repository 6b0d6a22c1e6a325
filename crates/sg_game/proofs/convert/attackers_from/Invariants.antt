use Rattle.std.proofs.Common.{◌≡◌, map}
use Rattle.sg_game.specs.Seen.{attacker_of}
use Rattle.sg_game.proofs.convert.attackers_from.Given as goal

abbrev pub invariant-loop-x : goal.invariant-loop-x
invariant-loop-x l = l.attackers ≡ map attacker_of l.yielded
