use Rattle.std.proofs.Common.{◌≡◌, ◌∙◌, sym, rules, arith}
use Rattle.std.specs.Int.{w128}
use Rattle.std.specs.Prelude.{FitsSigned, ◌*ℤ◌}
use Rattle.std.proofs.lemmas.Int.{to_z-of_z}
use Rattle.sg_model.specs.Games.{payoff}
use Rattle.sg_check.proofs.water.is_floor.Goals as goal

pub returns : goal.returns
returns c =
    let n : FitsSigned w128 c.num.result = record { sfits = c.num.type_inv } in
    let d : FitsSigned w128 c.den.result = record { sfits = c.den.type_inv } in
    let v : FitsSigned w128 c.pays_of.result.covered = search rules in
    let e = simp to_z-of_z at c.is_product.ensures in
    let count = rw c.requires.fillable.security at c.targets.ensures.count in
    let there : c.pays_of.result.covered *ℤ c.den.result ≡ (payoff c.args.game.now 1 c.args.j).ac *ℤ c.args.level.now.den = (λ i. c.pays_of.ensures.covered i *ℤ c.den.ensures.value i) in (
      λ t. record { from_one = omega (arith, c.if-j-lt1.false); in_range = omega (arith, c.if-targets-j.false, count); pays = sym there ∙ (e.0 t ∙ c.num.ensures) },
      λ f. e.1 (there ∙ (f.pays ∙ sym c.num.ensures)),
    )
