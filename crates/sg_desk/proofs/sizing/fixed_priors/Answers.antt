use Rattle.std.proofs.Common.{ap, arith}
use Rattle.std.proofs.lemmas.Int.{ints}
use Rattle.sg_model.specs.Games.{attacker}
use Rattle.sg_model.specs.Sums.{numbers_from, total}
use Rattle.sg_desk.proofs.Measured.{fixed-row}
use Rattle.sg_desk.proofs.sizing.fixed_priors.Goals as goal

pub returns : goal.returns
returns c =
    let g = c.args.game.now in
    let same = ap (λ n. total (λ l. (attacker g l).prior) (numbers_from c.args.fix.now.first n)) c.len.ensures in
    omega (arith, ints, fixed-row g c.args.fix.now, c.priors_from.ensures.value, same)
