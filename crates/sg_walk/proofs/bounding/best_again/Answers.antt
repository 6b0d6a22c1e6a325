use Rattle.std.proofs.Common.{◌∙◌, sym, inl, inr}
use Rattle.sg_model.specs.Games.{resource_schedules}
use Rattle.sg_model.specs.Plays.{covers}
use Rattle.sg_walk.proofs.Best.{best-still}
use Rattle.sg_walk.proofs.bounding.best_again.Goals as goal

pub returns-then-best-eq0 : goal.returns-then-best-eq0
returns-then-best-eq0 c covered stays h =
    let g = c.args.weighted.now.game.now in
    best-still g c.args.weighted.now.weights.now covered (covers g c.args.trail.now.play) (resource_schedules g c.args.r) c.args.best stays h (inl c.if-best-eq0.true)

pub returns-then-schedule_weight-best : goal.returns-then-schedule_weight-best
returns-then-schedule_weight-best c covered stays h =
    let g = c.args.weighted.now.game.now in
    best-still g c.args.weighted.now.weights.now covered (covers g c.args.trail.now.play) (resource_schedules g c.args.r) c.args.best stays h
    (inr (sym c.if-schedule_weight-best.true ∙ c.schedule_weight.ensures))
