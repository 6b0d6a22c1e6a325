use Rattle.std.proofs.Common.{arith, of_z, to_z, w64}
use Rattle.std.proofs.lemmas.Int.{ints}
use Rattle.sg_game.proofs.Spreads.{joined}
use Rattle.sg_desk.proofs.spans.Spread.join.Goals as goal

pub returns : goal.returns
returns c = λ xs ys h i.
    joined c.args.self.now.least c.args.self.now.greatest c.args.other.now.least c.args.other.now.greatest (to_z w64 (of_z w64 c.least_with.result)) (to_z w64 (of_z w64 c.greatest_with.result))
    (omega (arith, ints, c.least_with.ensures)) (omega (arith, ints, c.greatest_with.ensures)) xs ys h i
