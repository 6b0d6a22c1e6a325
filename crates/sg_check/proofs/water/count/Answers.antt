use Rattle.std.proofs.Common.{◌∙◌, arith, refl}
use Rattle.std.specs.Int.{w128}
use Rattle.std.specs.Prelude.{FitsSigned}
use Rattle.std.proofs.lemmas.Int.{ints, to_z-of_z}
use Rattle.sg_check.proofs.Watered.{count-made, share-nonneg}
use Rattle.sg_check.proofs.water.count.Goals as goal

pub returns-then-is_high-clause-value : goal.returns-then-is_high-clause-value
returns-then-is_high-clause-value c =
    let f : FitsSigned w128 c.share.result = record { sfits = c.share.type_inv } in
    to_z-of_z w128 c.share.result f
    ∙ (c.share.ensures.value ∙ count-made c.args.game.now c.args.level.now.num c.args.level.now.den c.args.t c.pays_of-pays.result c.pays_of-pays.ensures (c.if-is_high.ensures.0 refl))

pub returns-then-is_high-clause-low : goal.returns-then-is_high-clause-low
returns-then-is_high-clause-low c =
    let f : FitsSigned w128 c.share.result = record { sfits = c.share.type_inv } in
    let e = to_z-of_z w128 c.share.result f in
    let p = share-nonneg c.pays_of-pays.result c.args.level.now.num c.args.level.now.den c.pays_of-pays.ensures.limits (c.if-is_high.ensures.0 refl) in
    omega (arith, ints, e, c.share.ensures.value, p)
