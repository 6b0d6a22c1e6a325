use Rattle.std.proofs.Common.{◌≡◌, ◌∙◌, FitsSigned, ap, arith}
use Rattle.std.specs.Int.{w128}
use Rattle.std.proofs.lemmas.Int.{ints, to_z-of_z}
use Rattle.sg_num.specs.Exact.{exact_times}
use Rattle.sg_model.specs.Commitments.{weight_total}
use Rattle.sg_model.specs.Games.{prior_total}
use Rattle.sg_desk.proofs.Answered.{base-fits, base-stops, worth-stops}
use Rattle.sg_desk.proofs.committing.commitment_misfit.Goals as goal

pub returns-in-Err : goal.returns-in-Err
returns-in-Err c = worth-stops c.args.game.now c.args.k.now.tickets c.in-Err.wide c.in-Err.ensures.steps

pub returns-in-Ok-times : goal.returns-in-Ok-times
returns-in-Ok-times c =
    let g = c.args.game.now in
    let k = c.args.k.now.tickets in
    let total_fits : FitsSigned w128 c.total.result = record { sfits = c.total.type_inv } in
    let priors_fit : FitsSigned w128 c.from.result = record { sfits = c.from.type_inv } in
    let y = simp (to_z-of_z, total_fits, priors_fit) at c.in-Ok-times.ensures in
    let t : c.total.result ≡ weight_total k = c.total.ensures ∙ c.tickets-tickets.ensures.rules.sum in
    let p : c.from.result ≡ prior_total g = omega (arith, ints, c.from.ensures, c.prior_total.ensures.total) in
    base-fits g k c.in-Ok.field-0 c.in-Ok.ensures.steps _ (y ∙ (ap (λ z. exact_times z c.from.result) t ∙ ap (exact_times (weight_total k)) p))

pub returns-in-Err-times : goal.returns-in-Err-times
returns-in-Err-times c =
    let g = c.args.game.now in
    let k = c.args.k.now.tickets in
    let total_fits : FitsSigned w128 c.total.result = record { sfits = c.total.type_inv } in
    let priors_fit : FitsSigned w128 c.from.result = record { sfits = c.from.type_inv } in
    let y = simp (to_z-of_z, total_fits, priors_fit) at c.in-Err-times.ensures in
    let t : c.total.result ≡ weight_total k = c.total.ensures ∙ c.tickets-tickets.ensures.rules.sum in
    let p : c.from.result ≡ prior_total g = omega (arith, ints, c.from.ensures, c.prior_total.ensures.total) in
    base-stops g k c.in-Ok.field-0 c.in-Ok.ensures.steps c.in-Err-times.wide (y ∙ (ap (λ z. exact_times z c.from.result) t ∙ ap (exact_times (weight_total k)) p))
