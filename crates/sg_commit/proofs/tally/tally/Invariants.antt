use Rattle.std.proofs.Common.{◌≡◌, ◌+◌, drop}
use Rattle.sg_game.specs.Tallies.{tallied}
use Rattle.sg_commit.proofs.tally.tally.Given as goal

-- the tickets that are left are counted after those before
abbrev pub invariant-loop-i : goal.invariant-loop-i
invariant-loop-i l = tallied l.game l.initial.cells 1 l.tickets ≡ tallied l.game l.cells (l.i + 1) (drop l.i l.tickets)
