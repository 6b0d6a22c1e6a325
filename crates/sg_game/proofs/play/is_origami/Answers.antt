use Rattle.std.proofs.Common.{◌≢◌, pos, arith}
use Rattle.std.proofs.lemmas.Int.{ints}
use Rattle.sg_game.proofs.Plays.{not_negative, scaled_origami}
use Rattle.sg_game.proofs.play.is_origami.Goals as goal

pub returns-clause-origami : goal.returns-clause-origami
returns-clause-origami c =
    let low = not_negative c.args.game.now c.promises.ensures in (
      (λ yes. let some : c.args.game.now.scale ≢ pos 0 = c.has_scale.ensures.0 yes in scaled_origami c.args.game.now c.promises.ensures (omega (arith, ints, low, some))),
      (λ is. let some : c.args.game.now.scale ≢ pos 0 = (λ e. omega (arith, ints, e, is.scaled)) in c.has_scale.ensures.1 some),
    )
