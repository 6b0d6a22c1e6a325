use Rattle.std.proofs.Common.{◌≡◌, List, ℕ, Ok, ap, subst}
use Rattle.sg_format.specs.GameFiles.{game_of_bytes}
use Rattle.sg_cert.specs.Reading.{report_of}
use Rattle.sg_cli.specs.Inputs.{game, game_file, held_as, report, report_file}
use Rattle.sg_cli.specs.Steps.{GivesNoGame, GivesNoReport}
use Rattle.sg_cli.specs.declared.input.InputFault.TheVariants as faults
use Rattle.sg_cli.proofs.Progress.{first_read, second_read}
use Rattle.sg_cli.proofs.Stopping.{judge_no_file, judge_no_game, judge_no_report, judge_unread, wrong}
use Rattle.sg_cli.proofs.judging.accepted_named.Goals as goal

pub returns-in-Err-clause-err : goal.returns-in-Err-clause-err
returns-in-Err-clause-err g c = judge_unread _ c.args.name.now c.args.report.now _ _ c.in-Err.refusal c.in-Err.ensures.err

pub returns-in-Err-game_of-clause-err : goal.returns-in-Err-game_of-clause-err
returns-in-Err-game_of-clause-err g c =
    judge_no_game _ c.args.name.now c.args.report.now _ _ c.in-Ok.bytes.items c.in-Err-game_of.refusal c.in-Ok.ensures.ok
    (subst (λ (b : List ℕ). GivesNoGame (game_of_bytes b) c.in-Err-game_of.refusal) c.deref.ensures.value c.in-Err-game_of.ensures.err)

pub returns-in-Err-read_input-clause-err : goal.returns-in-Err-read_input-clause-err
returns-in-Err-read_input-clause-err g c =
    let says : game_of_bytes c.in-Ok.bytes.items ≡ Ok c.in-Ok-game_of.game = subst (λ (b : List ℕ). game_of_bytes b ≡ Ok c.in-Ok-game_of.game) c.deref.ensures.value c.in-Ok-game_of.ensures.ok in
    judge_no_file _ c.args.name.now c.args.report.now _ _ _ c.in-Ok-game_of.game
    (first_read _ _ _ (game_file c.args.name.now) c.in-Ok.bytes.items (game c.in-Ok-game_of.game) c.in-Ok.ensures.ok (ap (held_as game faults.Game) says))
    c.in-Err-read_input.refusal c.in-Err-read_input.ensures.err

pub returns-in-Err-report_of-clause-err : goal.returns-in-Err-report_of-clause-err
returns-in-Err-report_of-clause-err g c =
    let says : game_of_bytes c.in-Ok.bytes.items ≡ Ok c.in-Ok-game_of.game = subst (λ (b : List ℕ). game_of_bytes b ≡ Ok c.in-Ok-game_of.game) c.deref.ensures.value c.in-Ok-game_of.ensures.ok in
    judge_no_report _ c.args.name.now c.args.report.now _ _ _ c.in-Ok-game_of.game
    (first_read _ _ _ (game_file c.args.name.now) c.in-Ok.bytes.items (game c.in-Ok-game_of.game) c.in-Ok.ensures.ok (ap (held_as game faults.Game) says))
    c.in-Ok-read_input.bytes.items c.in-Err-report_of.refusal c.in-Ok-read_input.ensures.ok
    (subst (λ (b : List ℕ). GivesNoReport (report_of b) c.in-Err-report_of.refusal) c.deref-2.ensures.value c.in-Err-report_of.ensures.err)

pub returns-in-Ok-judge-clause-ok : goal.returns-in-Ok-judge-clause-ok
returns-in-Ok-judge-clause-ok g c =
    let says : game_of_bytes c.in-Ok.bytes.items ≡ Ok c.in-Ok-game_of.game = subst (λ (b : List ℕ). game_of_bytes b ≡ Ok c.in-Ok-game_of.game) c.deref.ensures.value c.in-Ok-game_of.ensures.ok in
    let spells : report_of c.in-Ok-read_input.bytes.items ≡ Ok c.in-Ok-report_of.read = subst (λ (b : List ℕ). report_of b ≡ Ok c.in-Ok-report_of.read) c.deref-2.ensures.value c.in-Ok-report_of.ensures.ok in
    record {
      read = second_read _ _ _ _ (game_file c.args.name.now) (report_file c.args.report.now) c.in-Ok-read_input.bytes.items (game c.in-Ok-game_of.game) (report c.in-Ok-report_of.read)
          (first_read _ _ _ (game_file c.args.name.now) c.in-Ok.bytes.items (game c.in-Ok-game_of.game) c.in-Ok.ensures.ok (ap (held_as game faults.Game) says))
          c.in-Ok-read_input.ensures.ok (ap (held_as report faults.Report) spells);
      judged = c.in-Ok-judge.ensures.ok;
    }

pub returns-clause-err : goal.returns-clause-err
returns-clause-err g c =
    let says : game_of_bytes c.in-Ok.bytes.items ≡ Ok c.in-Ok-game_of.game = subst (λ (b : List ℕ). game_of_bytes b ≡ Ok c.in-Ok-game_of.game) c.deref.ensures.value c.in-Ok-game_of.ensures.ok in
    let spells : report_of c.in-Ok-read_input.bytes.items ≡ Ok c.in-Ok-report_of.read = subst (λ (b : List ℕ). report_of b ≡ Ok c.in-Ok-report_of.read) c.deref-2.ensures.value c.in-Ok-report_of.ensures.ok in
    wrong _ c.args.name.now c.args.report.now _ _ c.in-Ok-game_of.game c.in-Ok-report_of.read c.in-Err-judge.own
    (second_read _ _ _ _ (game_file c.args.name.now) (report_file c.args.report.now) c.in-Ok-read_input.bytes.items (game c.in-Ok-game_of.game) (report c.in-Ok-report_of.read)
    (first_read _ _ _ (game_file c.args.name.now) c.in-Ok.bytes.items (game c.in-Ok-game_of.game) c.in-Ok.ensures.ok (ap (held_as game faults.Game) says))
    c.in-Ok-read_input.ensures.ok (ap (held_as report faults.Report) spells)) c.in-Err-judge.ensures.err
