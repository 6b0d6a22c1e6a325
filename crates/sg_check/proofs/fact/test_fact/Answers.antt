use Rattle.std.proofs.Common.{◌≡◌, arith, length, subst, sym}
use Rattle.sg_tree.specs.declared.fix.Fix.{Fix}
use Rattle.sg_bounds.specs.Checking.{AllPass}
use Rattle.sg_bounds.specs.Regions.{IsFix, prefix}
use Rattle.sg_bounds.proofs.Caps.{holds-rho}
use Rattle.sg_check.specs.Answering.{TellsFirst, held_line}
use Rattle.sg_check.specs.Parts.{bounded_stops, shown_stops}
use Rattle.sg_check.proofs.Placed.{length-some}
use Rattle.sg_check.proofs.Joined.{bound-then, refuses-then}
use Rattle.sg_check.proofs.fact.test_fact.Goals as goal

pub test_shown-requires-clause-fix : goal.test_shown-requires-clause-fix
test_shown-requires-clause-fix c = subst (IsFix c.args.game.now) (sym c.prefix.ensures) c.requires.fix

pub overflow_cast-acts : goal.overflow_cast-acts
overflow_cast-acts c = omega (arith, c.requires.fix.in_range, c.types-types.ensures.count, c.types-types.ensures.few)

pub test_bound-requires-clause-some : goal.test_bound-requires-clause-some
test_bound-requires-clause-some c = length-some c.args.acts.now c.requires.fix.some

pub test_bound-requires-clause-types : goal.test_bound-requires-clause-types
test_bound-requires-clause-types c = omega (arith, c.requires.fix.in_range)

pub test_bound-requires-clause-positive : goal.test_bound-requires-clause-positive
test_bound-requires-clause-positive c =
    let e : c.args.line ≡ held_line c.args.line = omega (arith, c.ranges.line) in
    holds-rho c.args.game.now c.prefix.result c.args.fact.now (c.in-Ok.ensures c.args.line e).1.0

pub returns-in-Ok : goal.returns-in-Ok
returns-in-Ok c = λ n e.
    let pass = subst (λ (fix : Fix). AllPass c.args.game.now c.args.report.now (shown_stops n fix c.args.fact.now)) c.prefix.ensures (c.in-Ok.ensures n e) in
    bound-then c.args.game.now c.args.report.now (shown_stops n (prefix c.args.acts.now) c.args.fact.now) (bounded_stops n (length c.args.acts.now) c.args.fact.now) _ c.test_bound.result pass (c.test_bound.ensures n e)

pub returns-in-Err : goal.returns-in-Err
returns-in-Err c = λ n e.
    let fails = subst (λ (fix : Fix). TellsFirst c.args.game.now c.args.report.now (shown_stops n fix c.args.fact.now) c.in-Err.refusal) c.prefix.ensures (c.in-Err.ensures n e) in
    refuses-then c.args.game.now c.args.report.now (shown_stops n (prefix c.args.acts.now) c.args.fact.now) (bounded_stops n (length c.args.acts.now) c.args.fact.now) c.in-Err.refusal fails
