use Rattle.std.proofs.Common.{refl, sym, ◌∙◌}
use Rattle.std.specs.Int.{w128}
use Rattle.std.specs.Prelude.{FitsSigned}
use Rattle.std.proofs.lemmas.Int.{to_z-of_z}
use Rattle.sg_walk.proofs.Ended.{looked-first, walk-entered, walk-past}
use Rattle.sg_walk.proofs.walking.walk.Goals as goal

pub visit-requires-clause-looked_at : goal.visit-requires-clause-looked_at
visit-requires-clause-looked_at c = looked-first c.args.game.now c.args.weights.now _ c.new-trail.result c.new-trail.ensures.play c.new-trail.ensures.unmarked

pub returns-in-Entered : goal.returns-in-Entered
returns-in-Entered c =
    let fits : FitsSigned w128 c.args.mu = c.ranges.mu in
    let stage = simp to_z-of_z at c.in-Entered.ensures in
    walk-entered c.args.game.now c.requires.security c.args.weights.now c.args.mu c.args.budget (c.in-Ok.field-0, sym c.absolute_sum.ensures ∙ c.in-Ok.is) c.new-trail.result.play c.new-trail.ensures.play c.visit.new.trail.play stage

pub returns-in-Past : goal.returns-in-Past
returns-in-Past c =
    let fits : FitsSigned w128 c.args.mu = c.ranges.mu in
    let stage = simp to_z-of_z at c.in-Past.ensures in (
      walk-past c.args.game.now c.requires.security c.args.weights.now c.args.mu c.args.budget (c.in-Ok.field-0, sym c.absolute_sum.ensures ∙ c.in-Ok.is) c.new-trail.result.play c.new-trail.ensures.play c.in-Past.looks c.new-trail.result c.visit.new.trail stage,
      refl,
    )
