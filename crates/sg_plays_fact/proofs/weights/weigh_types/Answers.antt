use Rattle.std.proofs.Common.{◌≡◌, ◌∙◌, ◌<◌, ◌+◌, ◌≤ℤ◌, ◌*ℤ◌, ◌+ℤ◌, ℕ, ℤ, length, pos, sym, subst, arith, rules, of_z, to_z}
use Rattle.std.specs.Int.{w128}
use Rattle.std.proofs.lemmas.Int.{ints, to_z-of_z}
use Rattle.sg_num.specs.Exact.{Fits, IsAtMost}
use Rattle.sg_model.specs.Limits.{IsCount}
use Rattle.sg_model.specs.Sums.{nth, total}
use Rattle.sg_bounds.specs.Coverage.{where_same}
use Rattle.sg_bounds.specs.Sizes.{defender_most, fixed_priors}
use Rattle.sg_plays_fact.proofs.Fixes.{fixed-all}
use Rattle.sg_plays_fact.proofs.Regrets.{product-fits, product-read}
use Rattle.sg_plays_fact.proofs.Weighed.{gap-as, gaps-top, one-top, same-here, target-high, times-none, types-step, worth_gap}
use Rattle.sg_plays_fact.proofs.Within.{top}
use Rattle.sg_plays_fact.proofs.weights.weigh_types.Goals as goal

pub overflow_mul-rho : goal.overflow_mul-rho
overflow_mul-rho c =
    let g = c.args.game.now in
    let fix = c.args.fix.now in
    let i = c.loop-i.i in
    let part = c.worth_added.result in
    let lt : i < length fix.acts = omega arith in
    let e : to_z w128 (of_z w128 c.args.rho) ≡ c.args.rho = search (rules, to_z-of_z) in
    let f : to_z w128 (of_z w128 part) ≡ part = search (rules, to_z-of_z) in
    let same = gap-as g fix i c.type_at-l.result c.act_at-a.result part c.type_at-l.ensures.number c.act_at-a.ensures.number c.worth_added.ensures in
    let small : IsAtMost top (c.args.rho *ℤ part) = subst (λ (z : ℤ). IsAtMost top (c.args.rho *ℤ z)) (sym same) (one-top g c.promises.ensures c.requires.security fix c.requires.is_fix c.args.rho c.requires.rho c.requires.size i lt) in
    product-fits c.args.rho part _ _ e f small

pub add_at-requires : goal.add_at-requires
add_at-requires c =
    let g = c.args.game.now in
    let fix = c.args.fix.now in
    let i = c.loop-i.i in
    let l = c.type_at-l.result in
    let a = c.act_at-a.result in
    let part = c.worth_added.result in
    let rho : ℤ = to_z w128 (of_z w128 c.args.rho) in
    let lt : i < length fix.acts = omega arith in
    let e : to_z w128 (of_z w128 c.args.rho) ≡ c.args.rho = search (rules, to_z-of_z) in
    let f : to_z w128 (of_z w128 part) ≡ part = search (rules, to_z-of_z) in
    let positive : pos 1 ≤ℤ rho = omega (arith, ints, e, c.requires.rho) in
    let size : Fits ((rho *ℤ fixed_priors g fix) *ℤ defender_most g) = subst (λ (z : ℤ). Fits ((z *ℤ fixed_priors g fix) *ℤ defender_most g)) (sym e) c.requires.size in
    let same = gap-as g fix i l a part c.type_at-l.ensures.number c.act_at-a.ensures.number c.worth_added.ensures in
    let small : IsAtMost top (rho *ℤ part) = subst (λ (z : ℤ). IsAtMost top (rho *ℤ z)) (sym same) (one-top g c.promises.ensures c.requires.security fix c.requires.is_fix rho positive size i lt) in
    let by : ℤ = to_z w128 (of_z w128 (rho *ℤ to_z w128 (of_z w128 part))) in
    let made : by ≡ rho *ℤ part = product-read rho part rho (to_z w128 (of_z w128 part)) (λ _. rho) f small in
    let known : IsCount 1 (length c.loop-i.weights) a = record { at_least = c.act_at-a.ensures.known.0; at_most = target-high g c.requires.security (fix.first + i) a (length c.loop-i.weights) c.act_at-a.ensures.known.1 (omega (arith, c.loop-i.auto.weights, c.requires.one_each)) } in
    let w : ℤ = nth c.loop-i.weights a (pos 0) in
    let next = types-step g fix rho i l a a part by w (w +ℤ where_same a a by) lt c.type_at-l.ensures.number c.act_at-a.ensures.number c.worth_added.ensures made (c.loop-i.invariant a known) (λ _. w +ℤ where_same a a by) in
    let top_next = gaps-top g c.promises.ensures c.requires.security fix c.requires.is_fix rho positive size (i + 1) a in
    let at : where_same a a by ≡ by = same-here a by in
    record { known = known; fits = (omega (arith, ints, next, top_next.0, at), omega (arith, ints, next, top_next.1, at)) }

pub loop-i-init : goal.loop-i-init
loop-i-init c = λ t k. let zero = c.requires.zero t k in let rho : ℤ = to_z w128 (of_z w128 c.args.rho) in zero ∙ times-none rho

pub loop-i-preserved : goal.loop-i-preserved
loop-i-preserved c = λ t k.
    let g = c.args.game.now in
    let fix = c.args.fix.now in
    let i = c.loop-i.i in
    let l = c.type_at-l.result in
    let a = c.act_at-a.result in
    let part = c.worth_added.result in
    let rho : ℤ = to_z w128 (of_z w128 c.args.rho) in
    let lt : i < length fix.acts = omega arith in
    let e : to_z w128 (of_z w128 c.args.rho) ≡ c.args.rho = search (rules, to_z-of_z) in
    let f : to_z w128 (of_z w128 part) ≡ part = search (rules, to_z-of_z) in
    let positive : pos 1 ≤ℤ rho = omega (arith, ints, e, c.requires.rho) in
    let size : Fits ((rho *ℤ fixed_priors g fix) *ℤ defender_most g) = subst (λ (z : ℤ). Fits ((z *ℤ fixed_priors g fix) *ℤ defender_most g)) (sym e) c.requires.size in
    let same = gap-as g fix i l a part c.type_at-l.ensures.number c.act_at-a.ensures.number c.worth_added.ensures in
    let small : IsAtMost top (rho *ℤ part) = subst (λ (z : ℤ). IsAtMost top (rho *ℤ z)) (sym same) (one-top g c.promises.ensures c.requires.security fix c.requires.is_fix rho positive size i lt) in
    let by : ℤ = to_z w128 (of_z w128 (rho *ℤ to_z w128 (of_z w128 part))) in
    let made : by ≡ rho *ℤ part = product-read rho part rho (to_z w128 (of_z w128 part)) (λ _. rho) f small in
    let read : to_z w128 (of_z w128 by) ≡ by = search (rules, to_z-of_z) in
    let long : length c.add_at.new.weights ≡ length c.loop-i.weights = c.add_at.auto.weights in
    let known : IsCount 1 (length c.loop-i.weights) t = record { at_least = k.at_least; at_most = omega (arith, long, k.at_most) } in
    types-step g fix rho i l a t part by (nth c.loop-i.weights t (pos 0)) (nth c.add_at.new.weights t (pos 0)) lt c.type_at-l.ensures.number c.act_at-a.ensures.number c.worth_added.ensures made (c.loop-i.invariant t known) (c.add_at.ensures t known)

pub returns : goal.returns
returns c = λ t k.
    let e : to_z w128 (of_z w128 c.args.rho) ≡ c.args.rho = search (rules, to_z-of_z) in
    let long : length c.loop-i.weights ≡ length c.args.weights.now = c.loop-i.auto.weights in
    let known : IsCount 1 (length c.loop-i.weights) t = record { at_least = k.at_least; at_most = omega (arith, long, k.at_most) } in
    let all = fixed-all c.args.fix.now c.loop-i.i (omega arith) in
    c.loop-i.invariant t known ∙ (λ j. e j *ℤ total (λ (p : ℕ × ℕ). where_same p.1 t (worth_gap c.args.game.now p)) (all j))
