use Rattle.std.proofs.Common.{refl}
use Rattle.sg_check.proofs.Proved.{yes_proves}
use Rattle.sg_check.proofs.checking.check.Goals as goal

pub returns-in-Ok-clause-refused : goal.returns-in-Ok-clause-refused
returns-in-Ok-clause-refused c =
    let g = c.args.game.now in
    let r = c.args.report.now in
    let accepted = (c.passing_is_acceptance.ensures g r c.keeps_form.ensures).0 c.in-Ok.ensures in
    λ line reason h. absurd ((c.refusal_is_one.ensures g r).0 accepted line reason h)

pub returns-in-Err-clause-optimal : goal.returns-in-Err-clause-optimal
returns-in-Err-clause-optimal c = λ a. absurd ((c.refusal_is_one.ensures c.args.game.now c.args.report.now).0 a.accepted c.in-Err.refusal.line c.in-Err.refusal.reason c.in-Err.ensures)

pub returns-in-Err-clause-gap : goal.returns-in-Err-clause-gap
returns-in-Err-clause-gap c = λ a. absurd ((c.refusal_is_one.ensures c.args.game.now c.args.report.now).0 a.accepted c.in-Err.refusal.line c.in-Err.refusal.reason c.in-Err.ensures)

pub returns-in-Err-clause-refused : goal.returns-in-Err-clause-refused
returns-in-Err-clause-refused c = λ line reason h.
    let e = (c.refusal_is_one.ensures c.args.game.now c.args.report.now).1 c.in-Err.refusal.line c.in-Err.refusal.reason line reason c.in-Err.ensures h in
    rw (e.0, e.1) refl

pub returns-in-Ok-clause-means : goal.returns-in-Ok-clause-means
returns-in-Ok-clause-means c =
    let g = c.args.game.now in
    let r = c.args.report.now in
    let accepted = (c.passing_is_acceptance.ensures g r c.keeps_form.ensures).0 c.in-Ok.ensures in
    yes_proves c.accepted_means.ensures g c.promises.ensures r accepted c.yes.result c.yes.ensures
