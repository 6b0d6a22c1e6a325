use Rattle.std.proofs.Common.{◌∙◌, arith, length, map, refl, List, ℕ}
use Rattle.std.specs.List.{filter}
use Rattle.sg_bounds.specs.Coverage.{gains}
use Rattle.sg_programs.proofs.Comparisons.{apart}
use Rattle.sg_eraser.specs.TableValues.{meant_row}
use Rattle.sg_eraser.proofs.Counted.{targets-are}
use Rattle.sg_eraser.proofs.Written.{all-numbers, next-apart, next-own}
use Rattle.sg_eraser.proofs.rows.type_rows.Goals as goal
use Rattle.sg_eraser.proofs.rows.type_rows.Goals.{then-k-own+in_ok-push, else-k-own}

pub loop-k-preserved : goal.loop-k-preserved
loop-k-preserved c =
    let h = gains c.args.l in
    elim c.if-k-own.branch [
      | then-k-own+in_ok-push w ↦ next-apart meant_row h c.args.own c.loop-k.k c.loop-k.rows c.if-k-own.rows _ w.if-k-own.true c.loop-k.invariant refl (w.rows-is ∙ w.in_ok-push.ensures.ok)
      | else-k-own w ↦ next-own meant_row h c.args.own c.loop-k.k c.loop-k.rows c.if-k-own.rows w.if-k-own.false c.loop-k.invariant w.rows-is
    ]

pub returns : goal.returns
returns c =
    let count = targets-are c.args.game.now c.requires.security c.targets-k-end.result c.targets-k-end.ensures.count in
    c.loop-k.invariant ∙ all-numbers (λ (ns : List ℕ). map (gains c.args.l) (filter (apart c.args.own) ns)) c.loop-k.k (length c.args.game.now.goals) (omega (arith, c.loop-k-test.false, count)) (omega (arith, c.loop-k.auto.k-end, count))
