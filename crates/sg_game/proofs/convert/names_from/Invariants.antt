use Rattle.std.proofs.Common.{◌≡◌}
use Rattle.sg_game.specs.Seen.{texts}
use Rattle.sg_game.proofs.convert.names_from.Given as goal

abbrev pub invariant-loop-text : goal.invariant-loop-text
invariant-loop-text l = l.names ≡ texts l.yielded
