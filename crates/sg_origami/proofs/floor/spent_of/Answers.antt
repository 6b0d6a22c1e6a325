use Rattle.std.proofs.Common.{arith, ◌≡◌, ◌∙◌, ap, ℕ, ℤ, to_z, of_z, pos, ◌*ℤ◌}
use Rattle.std.specs.Int.{w128}
use Rattle.std.specs.Prelude.{FitsSigned}
use Rattle.std.proofs.lemmas.Int.{ints, to_z-of_z}
use Rattle.sg_model.specs.Games.{resource_count}
use Rattle.sg_origami.proofs.Bounds.{have_bounds}
use Rattle.sg_origami.proofs.Rated.{are_rates, spends_rates}
use Rattle.sg_origami.proofs.floor.spent_of.Goals as goal

-- what there is, from the code's product
have_is : (patrols : ℕ) (scale p s have : ℤ) → p ≡ pos patrols → s ≡ scale → have ≡ p *ℤ s → have ≡ pos patrols *ℤ scale
have_is patrols scale p s have a b e = e ∙ (ap (λ (z : ℤ). z *ℤ s) a ∙ ap (λ (z : ℤ). pos patrols *ℤ z) b)

pub spent_level-requires : goal.spent_level-requires
spent_level-requires c =
    let f = c.requires.fillable in
    let g = c.args.game.now in
    let is : c.product-have.result ≡ pos (resource_count g) *ℤ g.scale = have_is (resource_count g) g.scale (to_z w128 (of_z w128 c.from.result)) (to_z w128 (of_z w128 c.from-2.result)) c.product-have.result (omega (arith, ints, c.from.ensures, c.resources.ensures.count)) (omega (arith, ints, c.from-2.ensures, c.scale.ensures)) c.product-have.ensures in
    let b = have_bounds (resource_count g) g.scale c.product-have.result is f.few_patrols f.origami.scaled f.scale_range.at_most in
    let r = are_rates g f c.args.rates.now c.requires.rates in
    record { rates = r.each; some = r.some; few = r.few; have = record { at_least = omega (arith, ints, b.0, b.1); at_most = omega (arith, ints, b.0, b.1) } }

pub returns : goal.returns
returns c =
    let f = c.requires.fillable in
    let g = c.args.game.now in
    let is : c.product-have.result ≡ pos (resource_count g) *ℤ g.scale = have_is (resource_count g) g.scale (to_z w128 (of_z w128 c.from.result)) (to_z w128 (of_z w128 c.from-2.result)) c.product-have.result (omega (arith, ints, c.from.ensures, c.resources.ensures.count)) (omega (arith, ints, c.from-2.ensures, c.scale.ensures)) c.product-have.ensures in
    let b = have_bounds (resource_count g) g.scale c.product-have.result is f.few_patrols f.origami.scaled f.scale_range.at_most in
    let s = c.spent_level.ensures in
    let fits : FitsSigned w128 c.product-have.result = omega (arith, ints, b.0, b.1) in
    let e = simp to_z-of_z at s.spends in
    spends_rates g c.args.rates.now c.requires.rates c.product-have.result c.spent_level.result.num c.spent_level.result.den is (record { some = s.some; spends = e })
