use Rattle.std.proofs.Common.{List, subst, sym}
use Rattle.std.specs.Prelude.{String}
use Rattle.std.specs.declared.alloc.Global.{Global}
use Rattle.sg_words.specs.Commands.{command_given}
use Rattle.sg_cli.specs.Effects.{surroundings}
use Rattle.sg_cli.specs.Runs.{ComesOf, DoesCommand, FormsFirst, observation}
use Rattle.sg_game.specs.Seen.{texts}
use Rattle.sg_cli.proofs.CommandStatus.{no_other}
use Rattle.sg_cli.proofs.Completes.{answers_complete, done_complete}
use Rattle.sg_cli.proofs.Outcomes.{by_memory, not_by_output, tells_answer}
use Rattle.sg_cli.proofs.call.run.Goals as goal

pub returns-in-Ok-clause-complete : goal.returns-in-Ok-clause-complete
returns-in-Ok-clause-complete g c =
    let done = subst (λ (words : List (String Global)). DoesCommand (observation (command_given (texts words)) g.S.Shelf.hands_over
    (surroundings (g.S.Shelf.state c.args.shelf.now) (g.O.Sink.state c.args.out.now))
    (surroundings (g.S.Shelf.state c.run_command.new.shelf) (g.O.Sink.state c.run_command.new.out))) c.in-Ok.status) c.deref.ensures.value c.in-Ok.ensures.ok in
    done_complete _ c.in-Ok.status done

pub returns-in-Ok-clause-kept : goal.returns-in-Ok-clause-kept
returns-in-Ok-clause-kept g c =
    let done = subst (λ (words : List (String Global)). DoesCommand (observation (command_given (texts words)) g.S.Shelf.hands_over
    (surroundings (g.S.Shelf.state c.args.shelf.now) (g.O.Sink.state c.args.out.now))
    (surroundings (g.S.Shelf.state c.run_command.new.shelf) (g.O.Sink.state c.run_command.new.out))) c.in-Ok.status) c.deref.ensures.value c.in-Ok.ensures.ok in
    λ zero ten nine first. absurd (no_other _ c.in-Ok.status done zero ten)

pub returns-in-Ok-clause-one_piece : goal.returns-in-Ok-clause-one_piece
returns-in-Ok-clause-one_piece g c =
    let done = subst (λ (words : List (String Global)). DoesCommand (observation (command_given (texts words)) g.S.Shelf.hands_over
    (surroundings (g.S.Shelf.state c.args.shelf.now) (g.O.Sink.state c.args.out.now))
    (surroundings (g.S.Shelf.state c.run_command.new.shelf) (g.O.Sink.state c.run_command.new.out))) c.in-Ok.status) c.deref.ensures.value c.in-Ok.ensures.ok in
    λ zero ten. absurd (no_other _ c.in-Ok.status done zero ten)

pub returns-in-Err-clause-answer : goal.returns-in-Err-clause-answer
returns-in-Err-clause-answer g c =
    let cause = subst (λ (words : List (String Global)). ComesOf (observation (command_given (texts words)) g.S.Shelf.hands_over
    (surroundings (g.S.Shelf.state c.args.shelf.now) (g.O.Sink.state c.args.out.now))
    (surroundings (g.S.Shelf.state c.run_command.new.shelf) (g.O.Sink.state c.run_command.new.out))) c.in-Err.refusal) c.deref.ensures.value c.in-Err.ensures.err in
    tells_answer _ _ _ c.in-Err.refusal c.write_refusal.result c.status.result cause c.write_refusal.ensures.same c.write_refusal.ensures.tells c.status.ensures

pub returns-in-Err-clause-complete : goal.returns-in-Err-clause-complete
returns-in-Err-clause-complete g c =
    let cause = subst (λ (words : List (String Global)). ComesOf (observation (command_given (texts words)) g.S.Shelf.hands_over
    (surroundings (g.S.Shelf.state c.args.shelf.now) (g.O.Sink.state c.args.out.now))
    (surroundings (g.S.Shelf.state c.run_command.new.shelf) (g.O.Sink.state c.run_command.new.out))) c.in-Err.refusal) c.deref.ensures.value c.in-Err.ensures.err in
    answers_complete _ _ _ c.status.result (tells_answer _ _ _ c.in-Err.refusal c.write_refusal.result c.status.result cause c.write_refusal.ensures.same c.write_refusal.ensures.tells c.status.ensures)

pub returns-in-Err-clause-kept : goal.returns-in-Err-clause-kept
returns-in-Err-clause-kept g c =
    λ zero ten nine first.
    c.in-Err.ensures.kept (not_by_output c.in-Err.refusal c.write_refusal.result c.status.result c.write_refusal.ensures.same c.status.ensures nine)
    (λ is. subst (λ (words : List (String Global)). FormsFirst (command_given (texts words))) (sym c.deref.ensures.value)
    (by_memory c.in-Err.refusal c.write_refusal.result c.status.result (FormsFirst (command_given (texts c.args.words.now.items))) c.write_refusal.ensures.same c.status.ensures first is))
