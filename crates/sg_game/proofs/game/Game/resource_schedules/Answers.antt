use Rattle.std.proofs.Common.{sym, ◌∙◌, ap, length}
use Rattle.sg_model.specs.Games.{Game}
use Rattle.sg_model.specs.Sums.{numbers}
use Rattle.sg_game.proofs.Patrols.{known-patrols}
use Rattle.sg_game.proofs.game.Game.resource_schedules.Goals as goal

pub returns-in-Some-clause-known : goal.returns-in-Some-clause-known
returns-in-Some-clause-known c =
    let same = c.self.view_is in
    known-patrols c.args.self.now c.in-Some.field-0 (ap (λ (g : Game). g.patrols) (sym same) ∙ c.in-Some.is) c.as_slice.result.now
    (c.as_slice.ensures ∙ (c.self.invariant.all_goals ∙ ap (λ (g : Game). numbers (length g.goals)) same))
