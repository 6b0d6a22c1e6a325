use Rattle.std.proofs.Common.{List, ℕ, [], ◌∷◌, refl, sym, subst, inl}
use Rattle.sg_report.specs.Tables.{IsReportTable}
use Rattle.sg_cli.specs.Inputs.{game, report}
use Rattle.sg_cli.specs.Showing.{showing}
use Rattle.sg_cli.proofs.Progress.{all_read, fails_by}
use Rattle.sg_cli.proofs.showing.show_named.Goals as goal

pub returns-in-Err-clause-err : goal.returns-in-Err-clause-err
returns-in-Err-clause-err g c = fails_by _ (showing c.args.name.now c.args.report.now) _ _ _ c.in-Err.refusal c.in-Err.ensures.err

pub returns-in-Err-table_of-clause-err : goal.returns-in-Err-table_of-clause-err
returns-in-Err-table_of-clause-err g c = inl (all_read _ _ _ _ _ c.in-Ok.ensures.ok.read, refl)

pub returns-in-Ok-put-clause-ok : goal.returns-in-Ok-put-clause-ok
returns-in-Ok-put-clause-ok g c =
    let h = c.in-Ok.ensures.ok in
    let pair = c.in-Ok.pair in
    record {
      text = c.deref.result.now;
      writes = record {
        contents = game pair.game ∷ report pair.report ∷ [];
        read = h.read;
        took = (tt, (tt, tt));
        takes = h.judged;
        ends = refl;
        writes = subst (λ (t : List ℕ). IsReportTable pair.game pair.report.tickets.tickets pair.report.upper t) (sym c.deref.ensures.value) c.in-Ok-table_of.ensures;
      };
      taken = c.in-Ok-put.ensures.whole;
    }

pub returns-clause-err : goal.returns-clause-err
returns-clause-err g c =
    let h = c.in-Ok.ensures.ok in
    let pair = c.in-Ok.pair in (
      c.in-Err-put.ensures.failed,
      record {
        status = 0;
        text = c.deref.result.now;
        writes = record {
          contents = game pair.game ∷ report pair.report ∷ [];
          read = h.read;
          took = (tt, (tt, tt));
          takes = h.judged;
          ends = refl;
          writes = subst (λ (t : List ℕ). IsReportTable pair.game pair.report.tickets.tickets pair.report.upper t) (sym c.deref.ensures.value) c.in-Ok-table_of.ensures;
        };
        taken = c.in-Err-put.ensures.front;
      },
    )
