use Rattle.std.proofs.Common.{◌≡◌, ◌∙◌, ℤ, Bool, List, length, replicate, false, refl, sym, arith, rules, of_z, to_z}
use Rattle.std.specs.Int.{w128}
use Rattle.std.proofs.lemmas.Int.{to_z-of_z}
use Rattle.sg_plays_fact.proofs.Affine.{has-room, stays-is, unmarked-all}
use Rattle.sg_plays_fact.proofs.Choosing.{stays-as}
use Rattle.sg_plays_fact.proofs.plays.plays_hold_in.Goals as goal

pub stays_within-requires-clause-room : goal.stays_within-requires-clause-room
stays_within-requires-clause-room c =
    let g = c.args.game.now in
    let idle : ℤ = to_z w128 (of_z w128 c.idle_sum-idle.result) in
    let e : to_z w128 (of_z w128 c.idle_sum-idle.result) ≡ c.idle_sum-idle.result = search (rules, to_z-of_z) in
    let long : length c.weigh.new.weights ≡ length c.args.weights.now = c.weigh.auto.weights in
    has-room g c.promises.ensures c.requires.security c.args.fix.now c.args.stated.now c.args.marks.now c.requires.sized c.weigh.new.weights (replicate 10000 false) idle (long ∙ c.requires.one_each) (unmarked-all 10000)
    (λ t k. c.weigh.ensures t (record { at_least = k.at_least; at_most = omega (arith, long, k.at_most) })) (e ∙ c.idle_sum-idle.ensures)

pub returns : goal.returns
returns c =
    let g = c.args.game.now in
    let ws = c.weigh.new.weights in
    let none : List Bool = replicate 10000 false in
    let mu = c.args.stated.now.mu in
    let mu' : ℤ = to_z w128 (of_z w128 mu) in
    let idle : ℤ = to_z w128 (of_z w128 c.idle_sum-idle.result) in
    let m : mu' ≡ mu = search (rules, to_z-of_z) in
    let e : to_z w128 (of_z w128 c.idle_sum-idle.result) ≡ c.idle_sum-idle.result = search (rules, to_z-of_z) in
    let long : length ws ≡ length c.args.weights.now = c.weigh.auto.weights in
    let both = stays-is g c.promises.ensures c.requires.security c.args.fix.now c.args.stated.now c.args.marks.now c.requires.sized ws none idle (long ∙ c.requires.one_each) (unmarked-all 10000)
    (λ t k. c.weigh.ensures t (record { at_least = k.at_least; at_most = omega (arith, long, k.at_most) })) (e ∙ c.idle_sum-idle.ensures) in
    let h = c.stays_within.ensures in
    (λ r. both.0 (stays-as g ws none 0 mu' mu idle idle (sym m) refl (h.0 r)), λ n. h.1 (stays-as g ws none 0 mu mu' idle idle m refl (both.1 n)))
