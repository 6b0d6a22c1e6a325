use Rattle.std.proofs.Common.{arith, sym, true, ap, ◌∙◌, ℤ, ◌≡◌, ◌^◌, ◌*◌}
use Rattle.std.specs.Int.{w128}
use Rattle.std.specs.Prelude.{◌*ℤ◌, int_le, FitsSigned}
use Rattle.std.proofs.lemmas.Int.{ints, to_z-of_z}
use Rattle.sg_model.specs.Games.{payoff}
use Rattle.sg_model.specs.Origami.{share}
use Rattle.sg_origami.specs.Rates.{multiple}
use Rattle.sg_model.proofs.Spans.{Spans, spans_product, fits_span}
use Rattle.sg_origami.proofs.count.count_of.Goals as goal

pub product-requires : goal.product-requires
product-requires c =
    let a : FitsSigned w128 c.multiple.result = omega (arith, ints, c.multiple.ensures.range.at_least, c.multiple.ensures.range.at_most) in
    let b : FitsSigned w128 c.excess_of.result = omega (arith, ints, c.excess_of.ensures.range.at_least, c.excess_of.ensures.range.at_most) in
    let m : Spans (2 ^ 32) c.multiple.result = record { low = omega (arith, ints, c.multiple.ensures.range.at_least); high = c.multiple.ensures.range.at_most } in
    let h : Spans (2 ^ 78) c.excess_of.result = record { low = c.excess_of.ensures.range.at_least; high = c.excess_of.ensures.range.at_most } in
    simp to_z-of_z (fits_span (2 ^ 32 * 2 ^ 78) (c.multiple.result *ℤ c.excess_of.result) (omega arith) (spans_product (2 ^ 32) (2 ^ 78) c.multiple.result c.excess_of.result m h))

pub returns-then-is_high : goal.returns-then-is_high
returns-then-is_high c =
    let a : FitsSigned w128 c.multiple.result = omega (arith, ints, c.multiple.ensures.range.at_least, c.multiple.ensures.range.at_most) in
    let b : FitsSigned w128 c.excess_of.result = omega (arith, ints, c.excess_of.ensures.range.at_least, c.excess_of.ensures.range.at_most) in
    let f : FitsSigned w128 c.product.result = record { sfits = c.product.type_inv } in
    let e : c.product.result ≡ c.multiple.result *ℤ c.excess_of.result = simp to_z-of_z at c.product.ensures in
    let g = c.args.game.now in
    let k : c.product.result ≡ share g c.args.level.now.num c.args.level.now.den c.args.t = e ∙ (ap (λ (z : ℤ). z *ℤ c.excess_of.result) c.multiple.ensures.value ∙ ap (λ (z : ℤ). multiple g c.args.t *ℤ z) c.excess_of.ensures.value) in
    let t : int_le c.args.level.now.num ((payoff g 1 c.args.t).au *ℤ c.args.level.now.den) ≡ true = sym c.if-is_high.ensures in
    simp to_z-of_z (rw t k)
