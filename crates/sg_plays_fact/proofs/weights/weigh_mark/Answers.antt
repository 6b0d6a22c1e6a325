use Rattle.std.proofs.Common.{◌≡◌, ◌∙◌, ◌+ℤ◌, ◌-ℤ◌, ◌*ℤ◌, ℕ, ℤ, ap, length, pos, subst, arith, rules, of_z, to_z}
use Rattle.std.specs.Int.{w128}
use Rattle.std.proofs.lemmas.Int.{ints, to_z-of_z}
use Rattle.sg_model.specs.Games.{payoff}
use Rattle.sg_model.specs.Limits.{IsCount}
use Rattle.sg_model.specs.Sums.{nth}
use Rattle.sg_bounds.specs.Coverage.{where_same}
use Rattle.sg_bounds.specs.Regions.{act_of}
use Rattle.sg_plays_fact.proofs.Weighed.{off-fixed, off-marked, taken-off, target-high}
use Rattle.sg_plays_fact.proofs.weights.weigh_mark.Goals as goal

pub add_at-requires-clause-fits : goal.add_at-requires-clause-fits
add_at-requires-clause-fits c =
    let g = c.args.game.now in
    let fix = c.args.fix.now in
    let m = c.args.mark.now in
    let h = c.requires.mark in
    let ws = c.args.weights.now in
    let marked = c.marked_part-marked.result in
    let e : to_z w128 (of_z w128 marked) ≡ marked = search (rules, to_z-of_z) in
    let f : to_z w128 (of_z w128 (pos 0 -ℤ to_z w128 (of_z w128 marked))) ≡ pos 0 -ℤ marked = omega (arith, ints, e, c.marked_part-marked.ensures.small.0, c.marked_part-marked.ensures.small.1) in
    let known : IsCount 1 (length ws) m.a = record { at_least = h.from_one; at_most = target-high g c.requires.security m.l m.a (length ws) h.action c.requires.one_each } in
    let room = c.requires.room m.a known in
    let off = off-marked g fix m h.other marked c.marked_part-fixed.result c.marked_part-marked.ensures.value (c.marked_part-fixed.ensures.value ∙ ap (λ (a : ℕ). m.v *ℤ ((payoff g m.l a).ac -ℤ (payoff g m.l a).au)) c.act_of-act.ensures.act) in
    (omega (arith, ints, f, off, room.0), omega (arith, ints, f, off, room.1))

pub add_at-requires-2-clause-fits : goal.add_at-requires-2-clause-fits
add_at-requires-2-clause-fits c =
    let g = c.args.game.now in
    let fix = c.args.fix.now in
    let m = c.args.mark.now in
    let h = c.requires.mark in
    let ws = c.args.weights.now in
    let act = act_of fix m.l in
    let marked = c.marked_part-marked.result in
    let part = c.marked_part-fixed.result in
    let e : to_z w128 (of_z w128 marked) ≡ marked = search (rules, to_z-of_z) in
    let f : to_z w128 (of_z w128 (pos 0 -ℤ to_z w128 (of_z w128 marked))) ≡ pos 0 -ℤ marked = omega (arith, ints, e, c.marked_part-marked.ensures.small.0, c.marked_part-marked.ensures.small.1) in
    let r : to_z w128 (of_z w128 part) ≡ part = search (rules, to_z-of_z) in
    let is = c.act_of-act.ensures.act in
    let known : IsCount 1 (length ws) c.act_of-act.result = record { at_least = c.act_of-act.ensures.known.0; at_most = target-high g c.requires.security m.l c.act_of-act.result (length ws) c.act_of-act.ensures.known.1 c.requires.one_each } in
    let known_act : IsCount 1 (length ws) act = subst (IsCount 1 (length ws)) is known in
    let room = c.requires.room act known_act in
    let off = off-fixed g fix m h.other marked part c.marked_part-marked.ensures.value (c.marked_part-fixed.ensures.value ∙ ap (λ (a : ℕ). m.v *ℤ ((payoff g m.l a).ac -ℤ (payoff g m.l a).au)) is) (nth ws act (pos 0)) in
    let mid : nth c.add_at.new.weights c.act_of-act.result (pos 0) ≡ nth ws act (pos 0) +ℤ where_same m.a act (pos 0 -ℤ marked) =
    c.add_at.ensures c.act_of-act.result known ∙ (λ i. nth ws (is i) (pos 0) +ℤ where_same m.a (is i) (f i)) in
    (omega (arith, ints, r, mid, off, room.0), omega (arith, ints, r, mid, off, room.1))

pub returns : goal.returns
returns c = λ t k.
    let g = c.args.game.now in
    let fix = c.args.fix.now in
    let m = c.args.mark.now in
    let h = c.requires.mark in
    let ws = c.args.weights.now in
    let act = act_of fix m.l in
    let marked = c.marked_part-marked.result in
    let part = c.marked_part-fixed.result in
    let e : to_z w128 (of_z w128 marked) ≡ marked = search (rules, to_z-of_z) in
    let f : to_z w128 (of_z w128 (pos 0 -ℤ to_z w128 (of_z w128 marked))) ≡ pos 0 -ℤ marked = omega (arith, ints, e, c.marked_part-marked.ensures.small.0, c.marked_part-marked.ensures.small.1) in
    let r : to_z w128 (of_z w128 part) ≡ part = search (rules, to_z-of_z) in
    let is = c.act_of-act.ensures.act in
    let long : length c.add_at.new.weights ≡ length ws = c.add_at.auto.weights in
    let known : IsCount 1 (length c.add_at.new.weights) t = record { at_least = k.at_least; at_most = omega (arith, long, k.at_most) } in
    let first : nth c.add_at.new.weights t (pos 0) ≡ nth ws t (pos 0) +ℤ where_same m.a t (pos 0 -ℤ marked) = c.add_at.ensures t k ∙ ap (λ (z : ℤ). nth ws t (pos 0) +ℤ where_same m.a t z) f in
    let second : nth c.add_at-2.new.weights t (pos 0) ≡ nth c.add_at.new.weights t (pos 0) +ℤ where_same act t part = c.add_at-2.ensures t known ∙ (λ i. nth c.add_at.new.weights t (pos 0) +ℤ where_same (is i) t (r i)) in
    let off = taken-off g fix m h.other marked part c.marked_part-marked.ensures.value (c.marked_part-fixed.ensures.value ∙ ap (λ (a : ℕ). m.v *ℤ ((payoff g m.l a).ac -ℤ (payoff g m.l a).au)) is) t in
    omega (arith, ints, first, second, off)
