use Rattle.std.proofs.Common.{◌≡◌, ◌∙◌, ◌<◌, get_or, length, pos, arith, rules, of_z, to_z}
use Rattle.std.specs.Int.{w128}
use Rattle.std.proofs.lemmas.Int.{ints, to_z-of_z}
use Rattle.std.proofs.lemmas.List.{get_or_default}
use Rattle.sg_tree.specs.declared.fact.Mark.{Mark}
use Rattle.sg_bounds.specs.PlayRows.{gain}
use Rattle.sg_plays_fact.proofs.Regrets.{next-small, part-small, product-fits, product-read, regret-all, regret-more}
use Rattle.sg_plays_fact.proofs.Within.{fits_between}
use Rattle.sg_plays_fact.proofs.play.regret.Goals as goal

no_mark : Mark
no_mark = record { l = 0; a = 0; v = pos 0 }

pub overflow_mul-sum : goal.overflow_mul-sum
unfolding no_mark
overflow_mul-sum c =
    let g = c.args.game.now in
    let i = c.loop-mark.mark-index in
    let x : Mark = get_or c.args.marks.now i no_mark in
    let lt : i < length c.args.marks.now = omega arith in
    let is : x ≡ get_or c.args.marks.now i x = get_or_default c.args.marks.now i no_mark x lt in
    let d = c.difference.result in
    let e : to_z w128 (of_z w128 x.v) ≡ x.v = search (rules, to_z-of_z) in
    let f : to_z w128 (of_z w128 d) ≡ gain g c.args.fix.now c.args.code.now (x.l, x.a) = (let k : to_z w128 (of_z w128 d) ≡ d = search (rules, to_z-of_z) in k ∙ c.difference.ensures) in
    product-fits x.v (gain g c.args.fix.now c.args.code.now (x.l, x.a)) _ _ e f
    (part-small g c.promises.ensures c.args.fix.now c.args.stated.now c.args.marks.now c.requires.sized c.args.code.now c.requires.legal i x lt is)

pub overflow_add-sum : goal.overflow_add-sum
unfolding no_mark
overflow_add-sum c =
    let g = c.args.game.now in
    let i = c.loop-mark.mark-index in
    let x : Mark = get_or c.args.marks.now i no_mark in
    let lt : i < length c.args.marks.now = omega arith in
    let is : x ≡ get_or c.args.marks.now i x = get_or_default c.args.marks.now i no_mark x lt in
    let d = c.difference.result in
    let e : to_z w128 (of_z w128 x.v) ≡ x.v = search (rules, to_z-of_z) in
    let f : to_z w128 (of_z w128 d) ≡ gain g c.args.fix.now c.args.code.now (x.l, x.a) = (let k : to_z w128 (of_z w128 d) ≡ d = search (rules, to_z-of_z) in k ∙ c.difference.ensures) in
    let part = product-read x.v (gain g c.args.fix.now c.args.code.now (x.l, x.a)) _ _ e f
    (part-small g c.promises.ensures c.args.fix.now c.args.stated.now c.args.marks.now c.requires.sized c.args.code.now c.requires.legal i x lt is) in
    let small = next-small g c.promises.ensures c.args.fix.now c.args.stated.now c.args.marks.now c.requires.sized c.args.code.now c.requires.legal i x _ _ lt is c.loop-mark.invariant part in
    fits_between _ small.0 small.1

pub loop-mark-preserved : goal.loop-mark-preserved
unfolding no_mark
loop-mark-preserved c =
    let g = c.args.game.now in
    let i = c.loop-mark.mark-index in
    let x : Mark = get_or c.args.marks.now i no_mark in
    let lt : i < length c.args.marks.now = omega arith in
    let is : x ≡ get_or c.args.marks.now i x = get_or_default c.args.marks.now i no_mark x lt in
    let d = c.difference.result in
    let e : to_z w128 (of_z w128 x.v) ≡ x.v = search (rules, to_z-of_z) in
    let f : to_z w128 (of_z w128 d) ≡ gain g c.args.fix.now c.args.code.now (x.l, x.a) = (let k : to_z w128 (of_z w128 d) ≡ d = search (rules, to_z-of_z) in k ∙ c.difference.ensures) in
    let part = product-read x.v (gain g c.args.fix.now c.args.code.now (x.l, x.a)) _ _ e f
    (part-small g c.promises.ensures c.args.fix.now c.args.stated.now c.args.marks.now c.requires.sized c.args.code.now c.requires.legal i x lt is) in
    let small = next-small g c.promises.ensures c.args.fix.now c.args.stated.now c.args.marks.now c.requires.sized c.args.code.now c.requires.legal i x _ _ lt is c.loop-mark.invariant part in
    regret-more g c.promises.ensures c.args.fix.now c.args.stated.now c.args.marks.now c.requires.sized c.args.code.now c.requires.legal i x _ _ _ lt is c.loop-mark.invariant part
    (omega (arith, ints, small.0, small.1))

pub returns : goal.returns
returns c = regret-all c.args.game.now c.promises.ensures c.args.fix.now c.args.stated.now c.args.marks.now c.requires.sized c.args.code.now c.requires.legal c.loop-mark.mark-index _ (omega arith) c.loop-mark.invariant
