use Rattle.std.proofs.Common.{take}
use Rattle.sg_model.specs.Plays.{covers}
use Rattle.sg_walk.specs.BestSchedules.{IsBestSchedule}
use Rattle.sg_walk.proofs.bounding.best_schedule.Given as goal

-- the best of the schedules so far
abbrev pub invariant-loop-s : goal.invariant-loop-s
invariant-loop-s l = IsBestSchedule l.weighted.game.now l.weighted.weights.now (covers l.weighted.game.now l.trail.play) (take l.s-index l.s-items) l.best
