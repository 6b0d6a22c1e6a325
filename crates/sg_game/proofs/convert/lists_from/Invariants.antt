use Rattle.std.proofs.Common.{◌≡◌, map}
use Rattle.sg_game.specs.Seen.{named_of}
use Rattle.sg_game.proofs.convert.lists_from.Given as goal

abbrev pub invariant-loop-x : goal.invariant-loop-x
invariant-loop-x l = l.named ≡ map named_of l.yielded
