use Rattle.std.proofs.Common.{◌≡◌, ◌∙◌, ◌*ℤ◌, arith, pos}
use Rattle.std.proofs.lemmas.Int.{ints}
use Rattle.sg_model.specs.Games.{resource_count}
use Rattle.sg_check.proofs.Spans.{have_made}
use Rattle.sg_check.proofs.water.available.Goals as goal

pub overflow_mul-result-2 : goal.overflow_mul-result-2
overflow_mul-result-2 c =
    let f = c.requires.fillable in
    let p : c.from.result ≡ pos (resource_count c.args.game.now) = omega (arith, ints, c.from.ensures, c.resources.ensures.count) in
    let s : c.from-2.result ≡ c.args.game.now.scale = omega (arith, ints, c.from-2.ensures, c.scale.ensures) in
    (have_made c.from.result c.den.result c.from-2.result (resource_count c.args.game.now) c.args.game.now.scale p s f.few_patrols c.den.ensures.range f.scale_range).fits

pub returns : goal.returns
returns c =
    let f = c.requires.fillable in
    let p : c.from.result ≡ pos (resource_count c.args.game.now) = omega (arith, ints, c.from.ensures, c.resources.ensures.count) in
    let s : c.from-2.result ≡ c.args.game.now.scale = omega (arith, ints, c.from-2.ensures, c.scale.ensures) in
    (have_made c.from.result c.den.result c.from-2.result (resource_count c.args.game.now) c.args.game.now.scale p s f.few_patrols c.den.ensures.range f.scale_range).value
    ∙ (λ i. (p i *ℤ c.den.ensures.value i) *ℤ s i)
