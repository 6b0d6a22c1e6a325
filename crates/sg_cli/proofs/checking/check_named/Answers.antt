use Rattle.std.proofs.Common.{[], ◌∷◌, ◌∙◌, refl, inl}
use Rattle.sg_cli.specs.Inputs.{game, report}
use Rattle.sg_cli.specs.Checking.{checking, yes_status}
use Rattle.sg_cli.proofs.Progress.{all_read, fails_by}
use Rattle.sg_cli.proofs.checking.check_named.Goals as goal

pub returns-in-Err-clause-err : goal.returns-in-Err-clause-err
returns-in-Err-clause-err g c = fails_by _ (checking c.args.name.now c.args.report.now) _ _ _ c.in-Err.refusal c.in-Err.ensures.err

pub returns-in-Err-yes_line-clause-err : goal.returns-in-Err-yes_line-clause-err
returns-in-Err-yes_line-clause-err g c = inl (all_read _ _ _ _ _ c.in-Ok.ensures.ok.read, refl)

pub returns-in-Ok-put-clause-ok : goal.returns-in-Ok-put-clause-ok
returns-in-Ok-put-clause-ok g c =
    let h = c.in-Ok.ensures.ok in
    record {
      text = c.as_bytes.result.now;
      writes = record {
        contents = game c.in-Ok.pair.game ∷ report c.in-Ok.pair.report ∷ [];
        read = h.read;
        took = (tt, (tt, tt));
        takes = h.judged;
        ends = c.yes_status.ensures;
        writes = c.as_bytes.ensures.value ∙ c.in-Ok-yes_line.ensures;
      };
      taken = c.in-Ok-put.ensures.whole;
    }

pub returns-clause-err : goal.returns-clause-err
returns-clause-err g c =
    let h = c.in-Ok.ensures.ok in (
      c.in-Err-put.ensures.failed,
      record {
        status = yes_status c.in-Ok.pair.report;
        text = c.as_bytes.result.now;
        writes = record {
          contents = game c.in-Ok.pair.game ∷ report c.in-Ok.pair.report ∷ [];
          read = h.read;
          took = (tt, (tt, tt));
          takes = h.judged;
          ends = refl;
          writes = c.as_bytes.ensures.value ∙ c.in-Ok-yes_line.ensures;
        };
        taken = c.in-Err-put.ensures.front;
      },
    )
