use Rattle.std.proofs.Common.{◌∙◌, arith, map, ℕ}
use Rattle.sg_bounds.specs.Coverage.{gains, others}
use Rattle.sg_eraser.specs.TableValues.{meant_row}
use Rattle.sg_eraser.proofs.Written.{all-fixed, next-fixed}
use Rattle.sg_eraser.proofs.rows.gains_rows.Goals as goal

pub loop-i-preserved : goal.loop-i-preserved
loop-i-preserved c =
    next-fixed meant_row (λ (p : ℕ × ℕ). map (gains p.0) (others c.args.game.now p.1)) c.args.fix.now c.loop-i.i c.type_at-l.result c.target_at-own.result c.loop-i.rows c.in_ok-type_rows.field-0 c.append.new.self (omega (arith, c.loop-i-test.true, c.len-i-end.ensures))
    c.type_at-l.ensures.number c.target_at-own.ensures.number c.loop-i.invariant c.in_ok-type_rows.ensures c.in_ok-append.ensures

pub returns : goal.returns
returns c =
    c.loop-i.invariant
    ∙ all-fixed (λ (p : ℕ × ℕ). map (gains p.0) (others c.args.game.now p.1)) c.args.fix.now c.loop-i.i (omega (arith, c.loop-i-test.false, c.len-i-end.ensures)) (omega (arith, c.loop-i.auto.i-end, c.len-i-end.ensures))
