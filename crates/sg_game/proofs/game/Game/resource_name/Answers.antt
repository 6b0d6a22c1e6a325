use Rattle.std.proofs.Common.{◌≡◌, sym, ◌∙◌, ap, length, arith, refl, Some}
use Rattle.sg_model.specs.Games.{Game, resource_count}
use Rattle.sg_game.specs.Counts.{patrol_names}
use Rattle.sg_game.proofs.Patrols.{length-patrol_names}
use Rattle.sg_game.proofs.game.Game.resource_name.Goals as goal

pub name_at-requires-clause-in_range : goal.name_at-requires-clause-in_range
name_at-requires-clause-in_range c =
    let n = c.in-Some.field-0 in
    let some : c.args.self.now.patrols ≡ Some n = ap (λ (g : Game). g.patrols) (sym c.self.view_is) ∙ c.in-Some.is in
    let count : resource_count c.args.self.now ≡ n = rw some refl in
    let names : length c.as_slice.result.now ≡ n = ap length (c.as_slice.ensures ∙ (c.self.invariant.named ∙ ap patrol_names c.in-Some.is)) ∙ length-patrol_names n in
    omega (arith, names, count, c.requires.1)
