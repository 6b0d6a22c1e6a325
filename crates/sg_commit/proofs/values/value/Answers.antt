use Rattle.std.proofs.Common.{rules, ◌∙◌, sym, ap}
use Rattle.std.specs.Int.{w128}
use Rattle.std.specs.Prelude.{FitsSigned}
use Rattle.std.proofs.lemmas.Int.{to_z-of_z}
use Rattle.sg_frac.specs.Fractions.{IsReducedForm}
use Rattle.sg_model.specs.Commitments.{weight_total}
use Rattle.sg_model.specs.Games.{prior_total}
use Rattle.sg_num.specs.Exact.{and_then, exact_times}
use Rattle.sg_commit.proofs.Small.{small-value}
use Rattle.sg_commit.proofs.Worths.{value-is}
use Rattle.sg_commit.proofs.values.value.Goals as goal

pub returns-in-Ok-base-clause-value : goal.returns-in-Ok-base-clause-value
returns-in-Ok-base-clause-value c =
    let worth_fits : FitsSigned w128 c.in-Ok.worth = search rules in
    let base_fits : FitsSigned w128 c.in-Ok-base.base = search rules in
    let form : IsReducedForm c.in-Ok.worth c.in-Ok-base.base c.fraction.result = simp to_z-of_z at c.fraction.ensures in
    value-is c.args.game.now c.args.k.now.tickets c.in-Ok.worth c.in-Ok-base.base c.fraction.result
    (sym c.worth.ensures.steps ∙ c.in-Ok.is) (sym c.base.ensures.value ∙ c.in-Ok-base.is) form

-- a refusal of the worth, or of what it is over, is one of both
pub returns-in-Err-clause-small : goal.returns-in-Err-clause-small
returns-in-Err-clause-small c = λ small.
    absurd (small-value c.args.game.now c.promises.ensures c.args.k.now.tickets c.tickets-tickets.ensures.rules.positive small c.in-Err.wide
    (ap (λ r. and_then r (λ worth. exact_times (weight_total c.args.k.now.tickets) (prior_total c.args.game.now))) (sym c.worth.ensures.steps ∙ c.in-Err.is)))

pub returns-in-Err-base-clause-small : goal.returns-in-Err-base-clause-small
returns-in-Err-base-clause-small c = λ small.
    absurd (small-value c.args.game.now c.promises.ensures c.args.k.now.tickets c.tickets-tickets.ensures.rules.positive small c.in-Err-base.wide
    (ap (λ r. and_then r (λ worth. exact_times (weight_total c.args.k.now.tickets) (prior_total c.args.game.now))) (sym c.worth.ensures.steps ∙ c.in-Ok.is)
    ∙ (sym c.base.ensures.value ∙ c.in-Err-base.is)))
