use Rattle.std.proofs.Common.{◌≡◌, List, ℕ, Ok, ap, subst}
use Rattle.sg_format.specs.GameFiles.{game_of_bytes}
use Rattle.sg_cli.specs.Inputs.{game, game_file, held_as}
use Rattle.sg_cli.specs.Steps.{GivesNoGame}
use Rattle.sg_cli.specs.declared.input.InputFault.TheVariants as faults
use Rattle.sg_cli.proofs.Progress.{first_read}
use Rattle.sg_cli.proofs.Stopping.{solve_no_game, solve_unread, unsolved}
use Rattle.sg_cli.proofs.solving.solution_named.Goals as goal

pub returns-in-Err-clause-err : goal.returns-in-Err-clause-err
returns-in-Err-clause-err g c = solve_unread _ c.args.name.now c.args.budget.now c.args.order.now _ _ c.in-Err.refusal c.in-Err.ensures.err

pub returns-in-Err-game_of-clause-err : goal.returns-in-Err-game_of-clause-err
returns-in-Err-game_of-clause-err g c =
    solve_no_game _ c.args.name.now c.args.budget.now c.args.order.now _ _ c.in-Ok.bytes.items c.in-Err-game_of.refusal c.in-Ok.ensures.ok
    (subst (λ (b : List ℕ). GivesNoGame (game_of_bytes b) c.in-Err-game_of.refusal) c.deref.ensures.value c.in-Err-game_of.ensures.err)

pub returns-in-Ok-solved-clause-ok : goal.returns-in-Ok-solved-clause-ok
returns-in-Ok-solved-clause-ok g c =
    let says : game_of_bytes c.in-Ok.bytes.items ≡ Ok c.in-Ok-game_of.game = subst (λ (b : List ℕ). game_of_bytes b ≡ Ok c.in-Ok-game_of.game) c.deref.ensures.value c.in-Ok-game_of.ensures.ok in
    record {
      solved = c.in-Ok-game_of.game;
      read = first_read _ _ _ (game_file c.args.name.now) c.in-Ok.bytes.items (game c.in-Ok-game_of.game) c.in-Ok.ensures.ok (ap (held_as game faults.Game) says);
      solution = c.in-Ok-solved.ensures.ok;
    }

pub returns-clause-err : goal.returns-clause-err
returns-clause-err g c =
    let says : game_of_bytes c.in-Ok.bytes.items ≡ Ok c.in-Ok-game_of.game = subst (λ (b : List ℕ). game_of_bytes b ≡ Ok c.in-Ok-game_of.game) c.deref.ensures.value c.in-Ok-game_of.ensures.ok in
    unsolved _ c.args.name.now c.args.budget.now c.args.order.now _ _ c.in-Ok-game_of.game c.in-Err-solved.refusal
    (first_read _ _ _ (game_file c.args.name.now) c.in-Ok.bytes.items (game c.in-Ok-game_of.game) c.in-Ok.ensures.ok (ap (held_as game faults.Game) says)) c.in-Err-solved.ensures.err
