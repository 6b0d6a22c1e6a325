use Rattle.std.proofs.Common.{FitsSigned}
use Rattle.std.specs.Int.{w128}
use Rattle.std.proofs.lemmas.Int.{to_z-of_z}
use Rattle.sg_desk.proofs.Marked.{marked-none, marked-other-by, marked-same-by}
use Rattle.sg_desk.proofs.marking.put_type.Goals as goal
use Rattle.sg_desk.proofs.marking.put_type.Goals.{then-i-act+in_ok-put, else-i-act}

pub loop-i-init : goal.loop-i-init
loop-i-init c = marked-none c.args.marks.now c.args.l c.args.act c.args.row c.args.y.now

pub loop-i-preserved : goal.loop-i-preserved
loop-i-preserved c =
    let a = c.args in
    elim c.if-i-act.branch [
      | then-i-act+in_ok-put w ↦ (
          let fits : FitsSigned w128 w.multiplier.result = record { sfits = w.multiplier.type_inv } in
          let e = simp (to_z-of_z, fits) at w.in_ok-put.ensures in
          marked-other-by a.marks.now c.loop-i.marks w.put.new.marks c.if-i-act.marks a.l a.act c.loop-i.i a.row c.loop-i.next c.if-i-act.next a.y.now w.multiplier.result w.if-i-act.true c.loop-i.invariant e w.multiplier.ensures w.marks-is w.next-is)
      | else-i-act w ↦ marked-same-by a.marks.now c.loop-i.marks c.if-i-act.marks a.l a.act c.loop-i.i a.row c.loop-i.next c.if-i-act.next a.y.now w.if-i-act.false c.loop-i.invariant w.marks-is w.next-is
    ]
