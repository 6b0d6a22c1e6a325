use Rattle.std.proofs.Common.{take}
use Rattle.std.specs.List.{All}
use Rattle.sg_cover_fact.specs.Holding.{ScheduleHolds}
use Rattle.sg_cover_fact.proofs.column.resource_holds.Given as goal

-- the schedules so far hold
abbrev pub invariant-loop-s : goal.invariant-loop-s
invariant-loop-s l = All (ScheduleHolds l.game l.held l.most) (take l.s-index l.s-items)
