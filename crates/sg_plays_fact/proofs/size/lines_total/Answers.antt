use Rattle.std.proofs.Common.{◌≡◌, ◌<◌, ◌+ℤ◌, length, get_or, arith, rules, to_z, of_z, ℤ, pos, subst}
use Rattle.std.specs.Int.{w128}
use Rattle.std.proofs.lemmas.Int.{ints, to_z-of_z}
use Rattle.std.proofs.lemmas.List.{get_or_default}
use Rattle.sg_tree.specs.declared.fact.Line.{Line}
use Rattle.sg_num.specs.Exact.{Fits}
use Rattle.sg_plays_fact.proofs.Running.{running-end, running-item, running-wide_item, total-map}
use Rattle.sg_plays_fact.proofs.size.lines_total.Goals as goal

no_line : Line
no_line = record { row = 0; v = pos 0 }

pub loop-line-preserved : goal.loop-line-preserved
unfolding no_line
loop-line-preserved c =
    let x : Line = get_or c.args.lines.now c.loop-line.line-index no_line in
    let lt : c.loop-line.line-index < length c.args.lines.now = omega arith in
    let h = c.in-Some.ensures in
    let e : to_z w128 (of_z w128 x.v) ≡ x.v = search (rules, to_z-of_z) in
    running-item (λ (x : Line). x.v) c.args.lines.now c.loop-line.line-index x _ _ lt (get_or_default c.args.lines.now c.loop-line.line-index no_line x lt) c.loop-line.invariant
    (subst (λ (w : ℤ). Fits (to_z w128 c.loop-line.total-bits +ℤ w)) e h.0) (omega (arith, ints, h.1, e))

pub returns-in-None : goal.returns-in-None
unfolding no_line
returns-in-None c =
    let x : Line = get_or c.args.lines.now c.loop-line.line-index no_line in
    let lt : c.loop-line.line-index < length c.args.lines.now = omega arith in
    let e : to_z w128 (of_z w128 x.v) ≡ x.v = search (rules, to_z-of_z) in
    running-wide_item (λ (x : Line). x.v) c.args.lines.now c.loop-line.line-index x _ lt (get_or_default c.args.lines.now c.loop-line.line-index no_line x lt) c.loop-line.invariant
    (subst (λ (w : ℤ). Fits (to_z w128 c.loop-line.total-bits +ℤ w) → ⊥) e c.in-None.ensures)

pub returns : goal.returns
returns c =
    let h = running-end (λ (x : Line). x.v) c.args.lines.now c.loop-line.line-index _ (omega arith) c.loop-line.invariant in
    (h.0, omega (arith, ints, h.1, total-map (λ (x : Line). x.v) c.args.lines.now))
