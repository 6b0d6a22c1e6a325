use Rattle.std.proofs.Common.{◌≡◌, arith}
use Rattle.std.proofs.lemmas.Int.{ints}
use Rattle.sg_check.proofs.Spans.{whole_made}
use Rattle.sg_check.proofs.water.whole_of.Goals as goal

pub returns-clause-low : goal.returns-clause-low
returns-clause-low c =
    let s : c.from.result ≡ c.args.game.now.scale = omega (arith, ints, c.from.ensures, c.scale.ensures) in
    (whole_made c.den.result c.from.result c.args.game.now.scale s c.den.ensures.range c.requires.fillable.scale_range).low

pub returns-clause-high : goal.returns-clause-high
returns-clause-high c =
    let s : c.from.result ≡ c.args.game.now.scale = omega (arith, ints, c.from.ensures, c.scale.ensures) in
    (whole_made c.den.result c.from.result c.args.game.now.scale s c.den.ensures.range c.requires.fillable.scale_range).high
