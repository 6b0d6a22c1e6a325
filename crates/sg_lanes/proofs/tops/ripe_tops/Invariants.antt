use Rattle.sg_lanes.specs.ProvedCaps.{only_worked}
use Rattle.sg_lanes.specs.Ripenings.{AreTopEntries}
use Rattle.sg_lanes.proofs.tops.ripe_tops.Given as goal

-- those of the actions so far
abbrev pub invariant-loop-i : goal.invariant-loop-i
invariant-loop-i l = AreTopEntries l.game (only_worked l.worked) l.value l.i l.ripe.items
