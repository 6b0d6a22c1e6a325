use Rattle.std.proofs.Common.{◌∙◌, sym, refl}
use Rattle.std.specs.Int.{w128}
use Rattle.std.specs.Prelude.{FitsSigned}
use Rattle.std.proofs.lemmas.Int.{to_z-of_z}
use Rattle.sg_check.proofs.Watered.{needed-is}
use Rattle.sg_check.proofs.water.spends_all.Goals as goal

pub returns-then-has_target : goal.returns-then-has_target
returns-then-has_target c =
    let n : FitsSigned w128 c.needed.result = record { sfits = c.needed.type_inv } in
    let a : FitsSigned w128 c.available.result = record { sfits = c.available.type_inv } in
    let e = simp to_z-of_z at c.is_equal.ensures in
    let sum = needed-is c.args.game.now c.args.level.now.num c.args.level.now.den in (
      λ t. record { some = c.if-has_target.ensures.0 refl; sum = sym sum ∙ (sym c.needed.ensures ∙ (e.0 t ∙ c.available.ensures)) },
      λ s. e.1 (c.needed.ensures ∙ (sum ∙ (s.sum ∙ sym c.available.ensures))),
    )
