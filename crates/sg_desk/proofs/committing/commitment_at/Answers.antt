use Rattle.std.proofs.Common.{◌∙◌, ap, subst, sym}
use Rattle.sg_model.specs.Games.{Game}
use Rattle.sg_dual.specs.Parts.{RefuseAt, tickets_of}
use Rattle.sg_programs.specs.Plays.{plays_program}
use Rattle.sg_programs.specs.Points.{point_steps}
use Rattle.sg_programs.specs.Shown.{fact_at}
use Rattle.sg_programs.proofs.PlayPoints.{kept_reaches}
use Rattle.sg_search.specs.Results.{Reaches}
use Rattle.sg_desk.proofs.Answered.{commitment-is}
use Rattle.sg_desk.proofs.committing.commitment_at.Goals as goal

pub returns-in-Err-clause-formed : goal.returns-in-Err-clause-formed
returns-in-Err-clause-formed c =
    let n = c.args.node.now in
    subst (λ (g : Game). RefuseAt (point_steps (plays_program g n.family.fix) n.tableau) c.in-Err.fault) c.requires.game c.in-Err.ensures.formed

pub returns-in-Ok-tickets-clause-formed : goal.returns-in-Ok-tickets-clause-formed
returns-in-Ok-tickets-clause-formed c =
    let n = c.args.node.now in
    let both = c.in-Ok.ensures.formed in
    let of = c.in-Ok-tickets.ensures ∙ ap tickets_of c.as_slice.ensures.value in
    commitment-is c.args.game.now n.family.game n.family.fix n.tableau c.in-Ok.parts.items c.in-Ok-tickets.tickets.items c.committed.result c.requires.game both.0 both.1 of c.committed.ensures.rules c.committed.ensures.shares

pub returns-in-Ok-tickets-clause-reaches : goal.returns-in-Ok-tickets-clause-reaches
returns-in-Ok-tickets-clause-reaches c =
    let n = c.args.node.now in
    let g = c.args.game.now in
    let of = c.in-Ok-tickets.ensures ∙ ap tickets_of c.as_slice.ensures.value in
    let reach = c.in-Ok.ensures.reaches g n.family.fix c.promises.ensures c.requires.unscaled c.requires.is_fix (ap (λ (h : Game). plays_program h n.family.fix) c.requires.game) in
    kept_reaches g n.family.fix c.requires.is_fix (fact_at g n.family.fix n.tableau) c.in-Ok-tickets.tickets.items c.committed.result c.committed.ensures.rules c.committed.ensures.shares
    (subst (Reaches g n.family.fix (fact_at g n.family.fix n.tableau)) (sym of) reach)
