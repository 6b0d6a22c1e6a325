use Rattle.std.proofs.Common.{◌≡◌, drop}
use Rattle.sg_game.specs.Tallies.{touched_all}
use Rattle.sg_commit.proofs.tally.touch_all.Given as goal

-- the targets that are left are covered after those before
abbrev pub invariant-loop-t : goal.invariant-loop-t
invariant-loop-t l = touched_all l.initial.cells l.targets l.n l.weight ≡ touched_all l.cells (drop l.t-index l.targets) l.n l.weight
