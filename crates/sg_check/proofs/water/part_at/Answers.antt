use Rattle.std.proofs.Common.{◌∙◌, ℤ, subst, refl}
use Rattle.std.specs.Int.{w128}
use Rattle.std.specs.Prelude.{FitsSigned, ◌≤ℤ◌, ◌*ℤ◌}
use Rattle.std.proofs.lemmas.Int.{to_z-of_z}
use Rattle.sg_check.proofs.Watered.{part-made}
use Rattle.sg_check.proofs.water.part_at.Goals as goal

pub returns : goal.returns
returns c =
    let whole : FitsSigned w128 c.whole_of.result = record { sfits = c.whole_of.type_inv } in
    let fits : FitsSigned w128 c.part.result = record { sfits = c.part.type_inv } in
    let e = simp to_z-of_z at c.part.ensures in (
      subst (λ (u : ℤ). c.args.level.now.num ≤ℤ (u *ℤ c.args.level.now.den)) c.pays_of-pays.ensures.uncovered (c.if-not-is_high.ensures.0 refl),
      to_z-of_z w128 c.part.result fits ∙ (e ∙ part-made c.args.game.now c.args.level.now c.args.t c.pays_of-pays.result c.whole_of.result c.pays_of-pays.ensures c.whole_of.ensures.value),
    )
