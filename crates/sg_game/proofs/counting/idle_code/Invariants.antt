use Rattle.std.proofs.Common.{◌≡◌, replicate}
use Rattle.sg_game.proofs.counting.idle_code.Given as goal

abbrev pub invariant-loop-k : goal.invariant-loop-k
invariant-loop-k l = l.code ≡ replicate l.k 0
