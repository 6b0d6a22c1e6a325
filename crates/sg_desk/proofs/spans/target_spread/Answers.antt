use Rattle.std.proofs.Common.{◌∷◌, [], rules}
use Rattle.sg_model.specs.Games.{payoff}
use Rattle.sg_game.specs.Spreads.{AreEnds}
use Rattle.sg_desk.proofs.spans.target_spread.Goals as goal

pub returns : goal.returns
returns c =
    let p = payoff c.args.game.now c.args.l c.args.a in
    let covered : AreEnds c.of.result.least c.of.result.greatest (p.ac ∷ []) = search rules in
    let uncovered : AreEnds c.of-2.result.least c.of-2.result.greatest (p.au ∷ []) = search rules in
    c.join.ensures (p.ac ∷ []) (p.au ∷ []) covered uncovered
