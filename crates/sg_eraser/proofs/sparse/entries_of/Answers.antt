use Rattle.std.proofs.Common.{◌∙◌, rules, sym}
use Rattle.std.specs.Int.{w64}
use Rattle.std.specs.Prelude.{FitsSigned}
use Rattle.std.proofs.lemmas.Int.{to_z-of_z}
use Rattle.sg_eraser.specs.TableValues.{meant_entry}
use Rattle.sg_eraser.proofs.Nonzeros.{all-written, next-nonzero, next-zero}
use Rattle.sg_eraser.proofs.sparse.entries_of.Goals as goal
use Rattle.sg_eraser.proofs.sparse.entries_of.Goals.{then-not-is_zero+in_ok-push, else-not-is_zero}

pub loop-k-preserved : goal.loop-k-preserved
loop-k-preserved c =
    let fits : FitsSigned w64 c.entry_at-value.result = search rules in
    let test = simp to_z-of_z at c.is_zero.ensures in
    elim c.if-not-is_zero.branch [
      | then-not-is_zero+in_ok-push w ↦ (
          let pushed = simp to_z-of_z at w.in_ok-push.ensures.ok in
          next-nonzero (λ row. meant_entry c.args.game.now c.args.fix.now row c.args.column) c.args.rows.now c.loop-k.k _ c.loop-k.entries c.loop-k-test.true c.loop-k.invariant c.entry_at-value.result c.if-not-is_zero.entries c.entry_at-value.ensures
          (sym test ∙ w.if-not-is_zero.true) (w.entries-is ∙ pushed))
      | else-not-is_zero w ↦
          next-zero (λ row. meant_entry c.args.game.now c.args.fix.now row c.args.column) c.args.rows.now c.loop-k.k _ c.loop-k.entries c.loop-k-test.true c.loop-k.invariant c.entry_at-value.result c.if-not-is_zero.entries c.entry_at-value.ensures
          (sym test ∙ w.if-not-is_zero.false) w.entries-is
    ]

pub returns : goal.returns
returns c = all-written (λ row. meant_entry c.args.game.now c.args.fix.now row c.args.column) c.args.rows.now c.loop-k.k c.loop-k.entries c.loop-k-test.false c.loop-k.invariant
