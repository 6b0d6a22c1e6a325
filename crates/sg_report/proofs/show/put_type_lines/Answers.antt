use Rattle.std.proofs.Common.{◌+◌, ap, arith, length, ℕ, Option}
use Rattle.sg_report.specs.Lines.{answer_line}
use Rattle.sg_report.specs.Tables.{type_line}
use Rattle.sg_report.proofs.Fitting.{take_fits}
use Rattle.sg_report.proofs.Lines.{next_line}
use Rattle.sg_report.proofs.show.put_type_lines.Goals as goal

pub loop-l-preserved : goal.loop-l-preserved
loop-l-preserved c =
    let g = c.args.game.now in
    next_line (type_line g c.args.k.now.tickets) c.loop-l.l (length g.types) c.loop-l.text.items c.put_answer_line.new.text.items _ _ (omega (arith, c.loop-l-test.true, c.types-l-end.ensures.count))
    (ap (λ (a : Option ℕ). answer_line g (c.loop-l.l + 1) a) c.answer_of-answer.ensures.answer) c.in_ok-put_answer_line.ensures c.loop-l.invariant

pub answer_of-answer-requires-clause-fits : goal.answer_of-answer-requires-clause-fits
answer_of-answer-requires-clause-fits c =
    take_fits c.args.game.now c.args.k.now.tickets c.requires.fits (c.loop-l.l + 1) (omega arith, omega (arith, c.loop-l-test.true, c.types-l-end.ensures.count))
