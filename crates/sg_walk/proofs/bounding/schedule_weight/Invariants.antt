use Rattle.std.proofs.Common.{◌≡◌, take}
use Rattle.std.specs.List.{sum_by}
use Rattle.sg_model.specs.Plays.{covers}
use Rattle.sg_walk.specs.BestSchedules.{saturated}
use Rattle.sg_walk.specs.Weights.{uncovered_weight}
use Rattle.sg_walk.proofs.bounding.schedule_weight.Given as goal

-- the sum over the targets so far
abbrev pub invariant-loop-t : goal.invariant-loop-t
invariant-loop-t l = l.sum ≡ saturated (sum_by (uncovered_weight l.weighted.weights.now (covers l.weighted.game.now l.trail.play)) (take l.t-index l.t-items))
