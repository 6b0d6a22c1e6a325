use Rattle.std.proofs.Common.{◌≡◌, ◌≤ℤ◌, ◌∙◌, pos, arith, to_z, of_z}
use Rattle.std.specs.Int.{w128}
use Rattle.std.proofs.lemmas.Int.{ints}
use Rattle.sg_model.specs.Commitments.{weight_total}
use Rattle.sg_model.specs.Games.{prior_total}
use Rattle.sg_num.specs.Exact.{exact_times}
use Rattle.sg_model.proofs.Covers.{weight_total-positive}
use Rattle.sg_commit.proofs.Worths.{base-positive}
use Rattle.sg_commit.proofs.values.base.Goals as goal

pub returns-clause-positive : goal.returns-clause-positive
returns-clause-positive c =
    let rules = c.tickets-tickets.ensures.rules in
    let total : pos 1 ≤ℤ weight_total c.args.k.now.tickets = weight_total-positive c.args.k.now.tickets rules.some rules.positive in
    let priors : pos 1 ≤ℤ prior_total c.args.game.now = omega (arith, ints, c.prior_total.ensures.total, c.prior_total.ensures.some) in
    let a : to_z w128 (of_z w128 c.total.result) ≡ weight_total c.args.k.now.tickets = omega (arith, ints, c.total.ensures, c.total.type_inv, rules.sum) in
    let b : to_z w128 (of_z w128 c.from.result) ≡ prior_total c.args.game.now = omega (arith, ints, c.from.ensures, c.from.type_inv, c.prior_total.ensures.total) in
    base-positive (weight_total c.args.k.now.tickets) (prior_total c.args.game.now) total priors c.times.result (c.times.ensures ∙ (λ i. exact_times (a i) (b i)))
