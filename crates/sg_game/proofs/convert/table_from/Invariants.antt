use Rattle.std.proofs.Common.{◌≡◌}
use Rattle.sg_game.specs.Seen.{number_lists}
use Rattle.sg_game.proofs.convert.table_from.Given as goal

abbrev pub invariant-loop-list : goal.invariant-loop-list
invariant-loop-list l = l.table ≡ number_lists l.yielded
