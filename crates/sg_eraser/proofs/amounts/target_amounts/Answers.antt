use Rattle.std.proofs.Common.{◌≡◌, ◌∙◌, ℕ, List, arith, length, map, to_z, of_z}
use Rattle.std.specs.Int.{w128}
use Rattle.std.proofs.lemmas.Int.{ints}
use Rattle.sg_bounds.specs.Coverage.{covering}
use Rattle.sg_eraser.specs.Amounts.{amount_in}
use Rattle.sg_eraser.proofs.Counted.{targets-are}
use Rattle.sg_eraser.proofs.Written.{all-numbers, next-value}
use Rattle.sg_eraser.proofs.amounts.target_amounts.Goals as goal

pub loop-k-init : goal.loop-k-init
loop-k-init c = c.new-amounts.ensures

pub loop-k-preserved : goal.loop-k-preserved
loop-k-preserved c =
    let e : to_z w128 (of_z w128 c.amount_at.result) ≡ c.amount_at.result = omega (arith, ints, c.amount_at.type_inv) in
    next-value (λ (u : ℕ). amount_in c.args.game.now c.args.parts.now (covering u)) c.loop-k.k c.loop-k.amounts c.push.new.self _ c.loop-k.invariant (e ∙ c.amount_at.ensures.amount c.args.game.now c.requires.table) c.in_ok-push.ensures.ok

pub returns : goal.returns
returns c =
    let count = targets-are c.args.game.now c.requires.security c.targets-k-end.result c.targets-k-end.ensures.count in
    c.loop-k.invariant
    ∙ all-numbers (λ (ns : List ℕ). map (λ (u : ℕ). amount_in c.args.game.now c.args.parts.now (covering u)) ns) c.loop-k.k (length c.args.game.now.goals) (omega (arith, c.loop-k-test.false, count)) (omega (arith, c.loop-k.auto.k-end, count))
