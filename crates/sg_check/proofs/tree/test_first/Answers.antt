use Rattle.std.proofs.Common.{◌∙◌, ap, arith, pos, refl, sym, ◌≤ℤ◌, Some}
use Rattle.std.proofs.lemmas.Int.{ints}
use Rattle.sg_model.specs.Games.{action_count}
use Rattle.sg_bounds.specs.Leaves.{root_bound}
use Rattle.sg_check.proofs.Placed.{no_actions}
use Rattle.sg_check.proofs.Trees.{part_count-length}
use Rattle.sg_check.proofs.Walked.{first-answers, root-shown, root-start}
use Rattle.sg_check.proofs.tree.test_first.Goals as goal

pub test_parts-requires-clause-acts : goal.test_parts-requires-clause-acts
test_parts-requires-clause-acts c = no_actions c.args.game.now

pub test_parts-requires-clause-next : goal.test_parts-requires-clause-next
test_parts-requires-clause-next c = let p = c.if-not-is_fork.ensures.0 refl in omega (arith, p.0, p.1)

pub test_parts-requires-clause-count : goal.test_parts-requires-clause-count
test_parts-requires-clause-count c =
    let p = c.if-not-is_fork.ensures.0 refl in
    sym (part_count-length c.args.parts.now) ∙ (p.2 ∙ ap (action_count c.args.game.now) p.0)

pub returns : goal.returns
returns c = λ n e.
    let g = c.args.game.now in
    let r = c.args.report.now in
    let h = c.requires.setting.numbers in
    let some : pos 1 ≤ℤ (root_bound g).den = omega (arith, ints, h.priors, h.priors_range.at_least) in
    first-answers g r n c.args.l c.args.parts.now (Some c.open_bound.result) (record { next = c.saturating_add.result; best = c.stated_value.result }) c.test_parts.result (c.if-not-is_fork.ensures.0 refl) (root-shown g c.open_bound.result some c.open_bound.ensures)
    (root-start r n c.args.line c.saturating_add.result c.stated_value.result e c.saturating_add.ensures c.stated_value.ensures.value c.stated_value.ensures.reduced) c.test_parts.ensures
