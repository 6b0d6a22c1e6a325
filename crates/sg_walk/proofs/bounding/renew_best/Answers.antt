use Rattle.std.proofs.Common.{◌∙◌, arith, ℕ, ◌+◌}
use Rattle.std.proofs.lemmas.List.{length-set}
use Rattle.sg_model.specs.Games.{resource_schedules}
use Rattle.sg_model.specs.Plays.{covers}
use Rattle.sg_walk.specs.declared.bounding.BestSchedule.{BestSchedule}
use Rattle.sg_walk.specs.BestSchedules.{IsBestSchedule}
use Rattle.sg_walk.proofs.Best.{best-set}
use Rattle.sg_walk.proofs.bounding.renew_best.Goals as goal

pub loop-i-preserved : goal.loop-i-preserved
loop-i-preserved c =
    let g = c.args.weighted.now.game.now in
    let now = covers g c.args.trail.now.play in
    let Is : ℕ → BestSchedule → Type 0 = λ i best. IsBestSchedule g c.args.weighted.now.weights.now now (resource_schedules g (i + 1)) best in (
      length-set c.loop-i.next c.loop-i.i c.best_again.result ∙ c.loop-i.invariant.0,
      λ covered stays best j low high.
          let here = c.best_again.ensures covered stays (best.each c.loop-i.i c.loop-i.auto.i (omega (arith, c.loop-i-test.true, c.resources-i-end.ensures.count))) in
          best-set Is c.loop-i.next c.args.k c.loop-i.i c.best_again.result (omega (arith, c.loop-i.invariant.0, c.requires.few, c.loop-i-test.true, c.resources-i-end.ensures.count)) (λ k from within. c.loop-i.invariant.1 covered stays best k from within) here j low high,
    )
