use Rattle.std.proofs.Common.{◌≡◌, ◌∙◌, ◌*ℤ◌, ℤ, ap, arith, rules, of_z, to_z}
use Rattle.std.specs.Int.{w128}
use Rattle.std.proofs.lemmas.Int.{ints, to_z-of_z}
use Rattle.sg_bounds.specs.Sizes.{attacker_most}
use Rattle.sg_plays_fact.proofs.Coverings.{gap-small-as}
use Rattle.sg_plays_fact.proofs.Within.{product_fits, product_is}
use Rattle.sg_plays_fact.proofs.weights.marked_part.Goals as goal

pub overflow_mul-result : goal.overflow_mul-result
overflow_mul-result c =
    let g = c.args.game.now in
    let v = c.args.mark.now.v in
    let d = c.pay_added.result in
    let e : to_z w128 (of_z w128 v) ≡ v = search (rules, to_z-of_z) in
    let f : to_z w128 (of_z w128 d) ≡ d = search (rules, to_z-of_z) in
    let q = c.requires in
    let gap = gap-small-as g q.security c.args.mark.now.l c.args.t d q.known_type.0 q.known_type.1 q.known_target.0 q.known_target.1 c.pay_added.ensures in
    product_fits v d (attacker_most g) _ _ e f (omega (arith, ints, q.positive)) gap.0 gap.1 q.load

pub returns : goal.returns
returns c =
    let g = c.args.game.now in
    let v = c.args.mark.now.v in
    let d = c.pay_added.result in
    let e : to_z w128 (of_z w128 v) ≡ v = search (rules, to_z-of_z) in
    let f : to_z w128 (of_z w128 d) ≡ d = search (rules, to_z-of_z) in
    let q = c.requires in
    let gap = gap-small-as g q.security c.args.mark.now.l c.args.t d q.known_type.0 q.known_type.1 q.known_target.0 q.known_target.1 c.pay_added.ensures in
    let made = product_is v d (attacker_most g) _ _ e f (omega (arith, ints, q.positive)) gap.0 gap.1 q.load in
    record { value = made.value ∙ ap (λ (z : ℤ). v *ℤ z) c.pay_added.ensures; small = (omega (arith, ints, made.low, q.load), omega (arith, ints, made.high, q.load)) }
