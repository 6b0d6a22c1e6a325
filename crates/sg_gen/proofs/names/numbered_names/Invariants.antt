use Rattle.std.proofs.Common.{◌≡◌, map}
use Rattle.sg_model.specs.Sums.{numbers}
use Rattle.sg_game.specs.Seen.{texts}
use Rattle.sg_gen.specs.Generated.{numbered}
use Rattle.sg_gen.proofs.names.numbered_names.Given as goal

-- the names so far
abbrev pub invariant-loop-k : goal.invariant-loop-k
invariant-loop-k l = texts l.names.items ≡ map (numbered l.front) (numbers l.k)
