use Rattle.std.proofs.Common.{◌≡◌, ◌+◌, drop}
use Rattle.sg_game.specs.Tallies.{touched_from}
use Rattle.sg_commit.proofs.tally.touch_play.Given as goal

-- the choices that are left come after those before
abbrev pub invariant-loop-i : goal.invariant-loop-i
invariant-loop-i l = touched_from l.game 1 l.initial.cells l.code l.n l.weight ≡ touched_from l.game (l.i + 1) l.cells (drop l.i l.code) l.n l.weight
