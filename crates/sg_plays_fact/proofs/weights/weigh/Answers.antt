use Rattle.std.proofs.Common.{◌≡◌, ◌∙◌, ◌<◌, ◌+◌, ◌*ℤ◌, ◌-ℤ◌, ℤ, List, ap, get_or, length, pos, sym, subst, arith, rules, of_z, to_z}
use Rattle.std.specs.Int.{w128}
use Rattle.std.proofs.lemmas.Int.{ints, to_z-of_z}
use Rattle.std.proofs.lemmas.List.{get_or_default, take_all}
use Rattle.sg_num.specs.Exact.{Fits, IsAtMost}
use Rattle.sg_model.specs.Limits.{IsCount}
use Rattle.sg_model.specs.Sums.{nth}
use Rattle.sg_tree.specs.declared.fact.Mark.{Mark}
use Rattle.sg_bounds.specs.Coverage.{column_cost, covering}
use Rattle.sg_bounds.specs.Sizes.{defender_most, fixed_priors}
use Rattle.sg_plays_fact.specs.Weighing.{mark_entry, target_weight}
use Rattle.sg_plays_fact.proofs.Formed.{has-size}
use Rattle.sg_plays_fact.proofs.Regrets.{load-at, mark-at}
use Rattle.sg_plays_fact.proofs.Weighed.{weight-more, weight-top}
use Rattle.sg_plays_fact.proofs.Within.{top}
use Rattle.sg_plays_fact.proofs.weights.weigh.Goals as goal

no_mark : Mark
no_mark = record { l = 0; a = 0; v = pos 0 }

pub weigh_types-requires-clause-size : goal.weigh_types-requires-clause-size
weigh_types-requires-clause-size c =
    let g = c.args.game.now in
    let fix = c.args.fix.now in
    let s = c.args.stated.now in
    let e : to_z w128 (of_z w128 s.rho) ≡ s.rho = search (rules, to_z-of_z) in
    subst (λ (z : ℤ). Fits ((z *ℤ fixed_priors g fix) *ℤ defender_most g)) (sym e) (has-size g fix s.rho s.mu c.args.marks.now c.requires.sized.size).gain

pub loop-mark-init : goal.loop-mark-init
loop-mark-init c = λ t k.
    let g = c.args.game.now in
    let s = c.args.stated.now in
    let e : to_z w128 (of_z w128 s.rho) ≡ s.rho = search (rules, to_z-of_z) in
    let long : length c.weigh_types.new.weights ≡ length c.args.weights.now = c.weigh_types.auto.weights in
    let known : IsCount 1 (length c.args.weights.now) t = record { at_least = k.at_least; at_most = omega (arith, long, k.at_most) } in
    let made : nth c.weigh_types.new.weights t (pos 0) ≡ s.rho *ℤ column_cost g c.args.fix.now (covering t) = c.weigh_types.ensures t known ∙ ap (λ (z : ℤ). z *ℤ column_cost g c.args.fix.now (covering t)) e in
    made ∙ omega (arith, ints)

pub weigh_mark-requires : goal.weigh_mark-requires
unfolding no_mark
weigh_mark-requires c =
    let g = c.args.game.now in
    let fix = c.args.fix.now in
    let s = c.args.stated.now in
    let h = c.requires.sized in
    let i = c.loop-mark.mark-index in
    let x : Mark = get_or c.args.marks.now i no_mark in
    let lt : i < length c.args.marks.now = c.loop-mark-test.true in
    let is : x ≡ get_or c.args.marks.now i x = get_or_default c.args.marks.now i no_mark x lt in
    let long : length c.loop-mark.weights ≡ length g.goals = omega (arith, c.loop-mark.auto.weights, c.weigh_types.auto.weights, c.requires.one_each) in
    record {
      security = c.requires.security;
      one_each = long;
      is_fix = h.is_fix;
      mark = mark-at g c.promises.ensures fix s c.args.marks.now h i x lt is;
      load = load-at g c.promises.ensures fix s c.args.marks.now h i x lt is;
      room = λ t k.
          let w : ℤ = nth c.loop-mark.weights t (pos 0) in
          let next : ℤ = w -ℤ (x.v *ℤ mark_entry g fix t x) in
          let e = weight-more g c.promises.ensures c.requires.security fix s c.args.marks.now h i t x w next lt is (c.loop-mark.invariant t k) (λ _. next) in
          subst (IsAtMost top) (sym e) (weight-top g c.promises.ensures c.requires.security fix s c.args.marks.now h (i + 1) t);
    }

pub loop-mark-preserved : goal.loop-mark-preserved
unfolding no_mark
loop-mark-preserved c = λ t k.
    let g = c.args.game.now in
    let i = c.loop-mark.mark-index in
    let x : Mark = get_or c.args.marks.now i no_mark in
    let lt : i < length c.args.marks.now = c.loop-mark-test.true in
    let is : x ≡ get_or c.args.marks.now i x = get_or_default c.args.marks.now i no_mark x lt in
    let long : length c.weigh_mark.new.weights ≡ length c.loop-mark.weights = c.weigh_mark.auto.weights in
    let known : IsCount 1 (length c.loop-mark.weights) t = record { at_least = k.at_least; at_most = omega (arith, long, k.at_most) } in
    weight-more g c.promises.ensures c.requires.security c.args.fix.now c.args.stated.now c.args.marks.now c.requires.sized i t x (nth c.loop-mark.weights t (pos 0)) (nth c.weigh_mark.new.weights t (pos 0)) lt is (c.loop-mark.invariant t known) (c.weigh_mark.ensures t known)

pub returns : goal.returns
returns c = λ t k.
    let long : length c.loop-mark.weights ≡ length c.args.weights.now = omega (arith, c.loop-mark.auto.weights, c.weigh_types.auto.weights) in
    let known : IsCount 1 (length c.loop-mark.weights) t = record { at_least = k.at_least; at_most = omega (arith, long, k.at_most) } in
    c.loop-mark.invariant t known ∙ ap (λ (ms : List Mark). target_weight c.args.game.now c.args.fix.now c.args.stated.now.rho ms t) (take_all c.loop-mark.mark-index c.args.marks.now (omega arith))
