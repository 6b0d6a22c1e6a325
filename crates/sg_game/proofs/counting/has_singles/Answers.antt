use Rattle.std.proofs.Common.{◌≡◌, arith, refl}
use Rattle.sg_model.specs.Games.{schedule_count}
use Rattle.sg_game.proofs.Choices.{single}
use Rattle.sg_game.proofs.counting.has_singles.Goals as goal

pub returns : goal.returns
returns c =
    let all : c.loop-s.s ≡ schedule_count c.args.game.now = omega (arith, c.schedules-s-end.ensures.count) in
    (λ _. single c.args.game.now c.loop-s.s c.requires all c.loop-s.invariant, λ _. refl)
