use Rattle.std.proofs.Common.{arith, ◌∙◌, ap, ◌≡◌, ◌<◌, length, ℤ, ℕ, ◌+◌}
use Rattle.std.specs.Int.{w128}
use Rattle.std.specs.Prelude.{FitsSigned, int_div}
use Rattle.std.proofs.lemmas.Int.{to_z-of_z}
use Rattle.sg_model.specs.Origami.{count_at}
use Rattle.sg_origami.proofs.Rest.{map_none_yet, map_push, map_done}
use Rattle.sg_origami.proofs.count.counts_of.Goals as goal

pub loop-t-init : goal.loop-t-init
loop-t-init c =
    let g = c.args.game.now in
    let fits : FitsSigned w128 c.args.divisor = c.ranges.divisor in
    let f = λ (t : ℕ). int_div (count_at g c.args.level.now.num c.args.level.now.den t) c.args.divisor in
    simp to_z-of_z (map_none_yet f (length g.goals) c.new-counts.result c.new-counts.ensures)

pub loop-t-preserved : goal.loop-t-preserved
loop-t-preserved c =
    let g = c.args.game.now in
    let f = λ (t : ℕ). int_div (count_at g c.args.level.now.num c.args.level.now.den t) c.args.divisor in
    let lt : c.loop-t.t < length g.goals = omega (arith, c.loop-t-test.true, c.targets_of-t-end.ensures) in
    let by_fits : FitsSigned w128 c.args.divisor = c.ranges.divisor in
    let fits : FitsSigned w128 c.count_of.result = record { sfits = c.count_of.type_inv } in
    let fits_too : FitsSigned w128 c.quotient.result = record { sfits = c.quotient.type_inv } in
    let p = simp to_z-of_z at c.in_ok-push.ensures.ok in
    let q : c.quotient.result ≡ int_div c.count_of.result c.args.divisor = simp to_z-of_z at c.quotient.ensures in
    let i = simp to_z-of_z at c.loop-t.invariant in
    let this : c.quotient.result ≡ f (c.loop-t.t + 1) = q ∙ ap (λ (z : ℤ). int_div z c.args.divisor) c.count_of.ensures in
    simp to_z-of_z (map_push f c.loop-t.t (length g.goals) c.loop-t.counts c.push.new.self c.quotient.result lt i p this)

pub returns : goal.returns
returns c =
    let g = c.args.game.now in
    let fits : FitsSigned w128 c.args.divisor = c.ranges.divisor in
    let f = λ (t : ℕ). int_div (count_at g c.args.level.now.num c.args.level.now.den t) c.args.divisor in
    let i = simp to_z-of_z at c.loop-t.invariant in
    map_done f c.loop-t.t (length g.goals) c.loop-t.counts (omega (arith, c.loop-t-test.false, c.targets_of-t-end.ensures, c.loop-t.auto)) i
