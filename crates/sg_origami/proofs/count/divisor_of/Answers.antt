use Rattle.std.proofs.Common.{◌≡◌, ◌∙◌, ap, ℤ}
use Rattle.std.specs.Int.{w128}
use Rattle.std.specs.Prelude.{FitsSigned, unsigned_abs}
use Rattle.std.proofs.lemmas.Int.{to_z-of_z}
use Rattle.sg_origami.proofs.Divided.{no_counts, one_more_count}
use Rattle.sg_origami.proofs.count.divisor_of.Goals as goal

pub loop-t-init : goal.loop-t-init
loop-t-init c = no_counts c.args.game.now c.args.level.now.num c.args.level.now.den c.args.whole

pub loop-t-preserved : goal.loop-t-preserved
loop-t-preserved c =
    let g = c.args.game.now in
    let num : ℤ = c.args.level.now.num in
    let den : ℤ = c.args.level.now.den in
    let fits : FitsSigned w128 c.count_of.result = record { sfits = c.count_of.type_inv } in
    let e : c.unsigned_abs.result ≡ unsigned_abs c.count_of.result = simp to_z-of_z at c.unsigned_abs.ensures.value in
    one_more_count g num den c.args.whole c.loop-t.t c.loop-t.divisor c.unsigned_abs.result c.gcd-divisor.result c.loop-t.invariant (e ∙ ap unsigned_abs c.count_of.ensures) c.gcd-divisor.ensures
