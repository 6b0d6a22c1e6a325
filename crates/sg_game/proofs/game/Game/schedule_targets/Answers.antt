use Rattle.std.proofs.Common.{◌≡◌, ◌≤◌, sym, ◌∙◌, ap, length, rules, Some}
use Rattle.std.proofs.lemmas.List.Elements.{All-same}
use Rattle.sg_model.specs.Games.{Game, schedule_targets}
use Rattle.sg_model.specs.Sums.{numbers}
use Rattle.sg_game.specs.Counts.{IsGoalOf}
use Rattle.sg_game.proofs.Patrols.{goals-patrols, within-patrols, part-patrols}
use Rattle.sg_game.proofs.game.Game.schedule_targets.Goals as goal

pub slice_bounds-result-end : goal.slice_bounds-result-end
slice_bounds-result-end c =
    let same = c.self.view_is in
    let within : c.args.s ≤ length c.as_slice.result.now = within-patrols c.args.self.now c.in-Some.field-0 (ap (λ (g : Game). g.patrols) (sym same) ∙ c.in-Some.is) c.as_slice.result.now
    (c.as_slice.ensures ∙ (c.self.invariant.all_goals ∙ ap (λ (g : Game). numbers (length g.goals)) same)) c.args.s c.requires in
    search rules

pub returns-in-Some-clause-list : goal.returns-in-Some-clause-list
returns-in-Some-clause-list c =
    let same = c.self.view_is in
    part-patrols c.args.self.now c.in-Some.field-0 (ap (λ (g : Game). g.patrols) (sym same) ∙ c.in-Some.is) c.as_slice.result.now
    (c.as_slice.ensures ∙ (c.self.invariant.all_goals ∙ ap (λ (g : Game). numbers (length g.goals)) same)) c.args.s c.requires

pub returns-in-Some-clause-known : goal.returns-in-Some-clause-known
returns-in-Some-clause-known c =
    let same = c.self.view_is in
    let some : c.args.self.now.patrols ≡ Some c.in-Some.field-0 = ap (λ (g : Game). g.patrols) (sym same) ∙ c.in-Some.is in
    All-same (IsGoalOf c.args.self.now) _ (schedule_targets c.args.self.now c.args.s)
    (part-patrols c.args.self.now c.in-Some.field-0 some c.as_slice.result.now
    (c.as_slice.ensures ∙ (c.self.invariant.all_goals ∙ ap (λ (g : Game). numbers (length g.goals)) same)) c.args.s c.requires)
    (goals-patrols c.args.self.now c.in-Some.field-0 some c.args.s c.requires)
