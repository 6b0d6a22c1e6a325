use Rattle.std.proofs.Common.{◌∙◌, arith, ℕ, ◌+◌}
use Rattle.std.proofs.lemmas.List.{length-set}
use Rattle.sg_model.specs.Games.{resource_schedules}
use Rattle.sg_model.specs.Plays.{covers}
use Rattle.sg_walk.specs.declared.bounding.BestSchedule.{BestSchedule}
use Rattle.sg_walk.specs.BestSchedules.{IsBestSchedule}
use Rattle.sg_walk.proofs.Best.{best-set}
use Rattle.sg_walk.proofs.bounding.best_schedules.Goals as goal

pub loop-i-preserved : goal.loop-i-preserved
loop-i-preserved c =
    let g = c.args.weighted.now.game.now in
    let covered = covers g c.args.trail.now.play in
    let Is : ℕ → BestSchedule → Type 0 = λ i best. IsBestSchedule g c.args.weighted.now.weights.now covered (resource_schedules g (i + 1)) best in (
      length-set c.loop-i.best c.loop-i.i c.best_schedule.result ∙ c.loop-i.invariant.0,
      λ j high. best-set Is c.loop-i.best 0 c.loop-i.i c.best_schedule.result (omega (arith, c.loop-i.invariant.0, c.requires.few, c.loop-i-test.true, c.resources-i-end.ensures.count)) (λ k low within. c.loop-i.invariant.1 k within) c.best_schedule.ensures j (omega arith) high,
    )
