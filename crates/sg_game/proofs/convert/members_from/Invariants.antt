use Rattle.std.proofs.Common.{◌≡◌, take}
use Rattle.sg_game.proofs.convert.members_from.Given as goal

abbrev pub invariant-loop-m : goal.invariant-loop-m
invariant-loop-m l = l.items ≡ take l.m-index l.members
