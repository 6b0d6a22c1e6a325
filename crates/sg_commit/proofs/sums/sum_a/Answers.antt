use Rattle.sg_model.specs.declared.ticket.Ticket.{Ticket}
use Rattle.sg_model.specs.Plays.{pay_a}
use Rattle.sg_commit.proofs.ExactSums.{dot-value}
use Rattle.sg_commit.proofs.sums.sum_a.Goals as goal

pub returns-clause-value : goal.returns-clause-value
returns-clause-value c =
    dot-value (λ (x : Ticket). pay_a c.args.game.now c.args.l x.play.code c.args.a) c.args.k.now.tickets c.sum_to.result c.sum_to.ensures
