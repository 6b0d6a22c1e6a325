use Rattle.std.proofs.Common.{Some, refl, sym, ◌∙◌, ap}
use Rattle.std.specs.Option.{option_map}
use Rattle.sg_words.specs.Commands as commands
use Rattle.sg_cli.proofs.CommandStatus.{comes, does, kept_first, kept_late, makes, makes_not}
use Rattle.sg_cli.proofs.call.run_command.Goals as goal

pub returns-in-Ok-Some-Solve-clause-ok : goal.returns-in-Ok-Some-Solve-clause-ok
returns-in-Ok-Some-Solve-clause-ok g c =
    does _ (commands.solve c.in-Ok-Some-Solve.game.now c.in-Ok-Some-Solve.budget c.in-Ok-Some-Solve.order) (sym c.in-Ok-Some-Solve.ensures.answer ∙ ap (option_map commands.asked_of) (c.in-Ok-Some-Solve.field-0-is ∙ ap Some c.in-Ok-Some-Solve.field-0-0-is)) c.solve_named.result c.solve_named.ensures.ok

pub returns-in-Ok-Some-Solve-clause-err : goal.returns-in-Ok-Some-Solve-clause-err
returns-in-Ok-Some-Solve-clause-err g c =
    comes _ (commands.solve c.in-Ok-Some-Solve.game.now c.in-Ok-Some-Solve.budget c.in-Ok-Some-Solve.order) (sym c.in-Ok-Some-Solve.ensures.answer ∙ ap (option_map commands.asked_of) (c.in-Ok-Some-Solve.field-0-is ∙ ap Some c.in-Ok-Some-Solve.field-0-0-is)) c.solve_named.result c.solve_named.ensures.err

pub returns-in-Ok-Some-Check-clause-ok : goal.returns-in-Ok-Some-Check-clause-ok
returns-in-Ok-Some-Check-clause-ok g c =
    does _ (commands.check c.in-Ok-Some-Check.game.now c.in-Ok-Some-Check.report.now) (sym c.in-Ok-Some-Check.ensures.answer ∙ ap (option_map commands.asked_of) (c.in-Ok-Some-Check.field-0-is ∙ ap Some c.in-Ok-Some-Check.field-0-0-is)) c.check_named.result c.check_named.ensures.ok

pub returns-in-Ok-Some-Check-clause-err : goal.returns-in-Ok-Some-Check-clause-err
returns-in-Ok-Some-Check-clause-err g c =
    comes _ (commands.check c.in-Ok-Some-Check.game.now c.in-Ok-Some-Check.report.now) (sym c.in-Ok-Some-Check.ensures.answer ∙ ap (option_map commands.asked_of) (c.in-Ok-Some-Check.field-0-is ∙ ap Some c.in-Ok-Some-Check.field-0-0-is)) c.check_named.result c.check_named.ensures.err

pub returns-in-Ok-Some-Show-clause-ok : goal.returns-in-Ok-Some-Show-clause-ok
returns-in-Ok-Some-Show-clause-ok g c =
    does _ (commands.show c.in-Ok-Some-Show.game.now c.in-Ok-Some-Show.report.now) (sym c.in-Ok-Some-Show.ensures.answer ∙ ap (option_map commands.asked_of) (c.in-Ok-Some-Show.field-0-is ∙ ap Some c.in-Ok-Some-Show.field-0-0-is)) c.show_named.result c.show_named.ensures.ok

pub returns-in-Ok-Some-Show-clause-err : goal.returns-in-Ok-Some-Show-clause-err
returns-in-Ok-Some-Show-clause-err g c =
    comes _ (commands.show c.in-Ok-Some-Show.game.now c.in-Ok-Some-Show.report.now) (sym c.in-Ok-Some-Show.ensures.answer ∙ ap (option_map commands.asked_of) (c.in-Ok-Some-Show.field-0-is ∙ ap Some c.in-Ok-Some-Show.field-0-0-is)) c.show_named.result c.show_named.ensures.err

pub returns-in-Ok-Some-Solve-clause-kept : goal.returns-in-Ok-Some-Solve-clause-kept
returns-in-Ok-Some-Solve-clause-kept g c = kept_first c.solve_named.result _ _ c.solve_named.ensures.kept

pub returns-in-Ok-Some-Check-clause-kept : goal.returns-in-Ok-Some-Check-clause-kept
returns-in-Ok-Some-Check-clause-kept g c = kept_first c.check_named.result _ _ c.check_named.ensures.kept

pub returns-in-Ok-Some-Show-clause-kept : goal.returns-in-Ok-Some-Show-clause-kept
returns-in-Ok-Some-Show-clause-kept g c = kept_first c.show_named.result _ _ c.show_named.ensures.kept

pub returns-in-Ok-Some-Roster-clause-ok : goal.returns-in-Ok-Some-Roster-clause-ok
returns-in-Ok-Some-Roster-clause-ok g c =
    does _ (commands.roster c.in-Ok-Some-Roster.game.now c.in-Ok-Some-Roster.report.now c.in-Ok-Some-Roster.seed) (sym c.in-Ok-Some-Roster.ensures.answer ∙ ap (option_map commands.asked_of) (c.in-Ok-Some-Roster.field-0-is ∙ ap Some c.in-Ok-Some-Roster.field-0-0-is)) c.roster_named.result c.roster_named.ensures.ok

pub returns-in-Ok-Some-Roster-clause-err : goal.returns-in-Ok-Some-Roster-clause-err
returns-in-Ok-Some-Roster-clause-err g c =
    comes _ (commands.roster c.in-Ok-Some-Roster.game.now c.in-Ok-Some-Roster.report.now c.in-Ok-Some-Roster.seed) (sym c.in-Ok-Some-Roster.ensures.answer ∙ ap (option_map commands.asked_of) (c.in-Ok-Some-Roster.field-0-is ∙ ap Some c.in-Ok-Some-Roster.field-0-0-is)) c.roster_named.result c.roster_named.ensures.err

pub returns-in-Ok-Some-Roster-clause-kept : goal.returns-in-Ok-Some-Roster-clause-kept
returns-in-Ok-Some-Roster-clause-kept g c =
    kept_late (commands.roster c.in-Ok-Some-Roster.game.now c.in-Ok-Some-Roster.report.now c.in-Ok-Some-Roster.seed) _ (sym c.in-Ok-Some-Roster.ensures.answer ∙ ap (option_map commands.asked_of) (c.in-Ok-Some-Roster.field-0-is ∙ ap Some c.in-Ok-Some-Roster.field-0-0-is)) refl c.roster_named.result _ c.roster_named.ensures.kept

pub returns-in-Ok-Some-Make-clause-ok : goal.returns-in-Ok-Some-Make-clause-ok
returns-in-Ok-Some-Make-clause-ok g c =
    does _ (commands.make c.in-Ok-Some-Make.shape.now c.in-Ok-Some-Make.seed) (sym c.in-Ok-Some-Make.ensures.answer ∙ ap (option_map commands.asked_of) (c.in-Ok-Some-Make.field-0-is ∙ ap Some c.in-Ok-Some-Make.field-0-0-is)) c.make_shaped.result
    (makes _ _ c.in-Ok-Some-Make.shape.now c.in-Ok-Some-Make.seed _ _ c.make_shaped.result c.make_shaped.ensures.ok)

pub returns-in-Ok-Some-Make-clause-err : goal.returns-in-Ok-Some-Make-clause-err
returns-in-Ok-Some-Make-clause-err g c =
    comes _ (commands.make c.in-Ok-Some-Make.shape.now c.in-Ok-Some-Make.seed) (sym c.in-Ok-Some-Make.ensures.answer ∙ ap (option_map commands.asked_of) (c.in-Ok-Some-Make.field-0-is ∙ ap Some c.in-Ok-Some-Make.field-0-0-is)) c.make_shaped.result
    (makes_not _ _ c.in-Ok-Some-Make.shape.now c.in-Ok-Some-Make.seed _ _ c.make_shaped.result c.make_shaped.ensures.err)

pub returns-in-Ok-Some-Make-clause-kept : goal.returns-in-Ok-Some-Make-clause-kept
returns-in-Ok-Some-Make-clause-kept g c = kept_first c.make_shaped.result _ _ c.make_shaped.ensures.kept
