use Rattle.std.proofs.Common.{◌≡◌, ◌<◌, ◌+ℤ◌, length, get_or, arith, rules, to_z, of_z, ℤ, pos, subst}
use Rattle.std.specs.Int.{w128}
use Rattle.std.proofs.lemmas.Int.{ints, to_z-of_z}
use Rattle.std.proofs.lemmas.List.{get_or_default}
use Rattle.sg_tree.specs.declared.fact.Mark.{Mark}
use Rattle.sg_num.specs.Exact.{Fits}
use Rattle.sg_plays_fact.proofs.Running.{running-end, running-item, running-wide_item, total-map}
use Rattle.sg_plays_fact.proofs.size.marks_total.Goals as goal

no_mark : Mark
no_mark = record { l = 0; a = 0; v = pos 0 }

pub loop-mark-preserved : goal.loop-mark-preserved
unfolding no_mark
loop-mark-preserved c =
    let x : Mark = get_or c.args.marks.now c.loop-mark.mark-index no_mark in
    let lt : c.loop-mark.mark-index < length c.args.marks.now = omega arith in
    let h = c.in-Some.ensures in
    let e : to_z w128 (of_z w128 x.v) ≡ x.v = search (rules, to_z-of_z) in
    running-item (λ (x : Mark). x.v) c.args.marks.now c.loop-mark.mark-index x _ _ lt (get_or_default c.args.marks.now c.loop-mark.mark-index no_mark x lt) c.loop-mark.invariant
    (subst (λ (w : ℤ). Fits (to_z w128 c.loop-mark.total-bits +ℤ w)) e h.0) (omega (arith, ints, h.1, e))

pub returns-in-None : goal.returns-in-None
unfolding no_mark
returns-in-None c =
    let x : Mark = get_or c.args.marks.now c.loop-mark.mark-index no_mark in
    let lt : c.loop-mark.mark-index < length c.args.marks.now = omega arith in
    let e : to_z w128 (of_z w128 x.v) ≡ x.v = search (rules, to_z-of_z) in
    running-wide_item (λ (x : Mark). x.v) c.args.marks.now c.loop-mark.mark-index x _ lt (get_or_default c.args.marks.now c.loop-mark.mark-index no_mark x lt) c.loop-mark.invariant
    (subst (λ (w : ℤ). Fits (to_z w128 c.loop-mark.total-bits +ℤ w) → ⊥) e c.in-None.ensures)

pub returns : goal.returns
returns c =
    let h = running-end (λ (x : Mark). x.v) c.args.marks.now c.loop-mark.mark-index _ (omega arith) c.loop-mark.invariant in
    (h.0, omega (arith, ints, h.1, total-map (λ (x : Mark). x.v) c.args.marks.now))
