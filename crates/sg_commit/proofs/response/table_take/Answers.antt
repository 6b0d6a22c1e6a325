use Rattle.std.proofs.Common.{◌∙◌, sym, ap}
use Rattle.sg_commit.specs.ExactSums.{compared}
use Rattle.sg_commit.specs.Responses.{settled, top_sum}
use Rattle.sg_commit.proofs.Responses.{settled-take, unless-ok}
use Rattle.sg_commit.proofs.response.table_take.Goals as goal

pub returns-in-Ok : goal.returns-in-Ok
returns-in-Ok c =
    let u = unless-ok (compared c.args.game.now c.args.k.now.tickets c.args.l) (top_sum c.args.game.now c.args.k.now.tickets c.args.l) c.in-Ok.top (sym c.in-Ok.is ∙ c.top_of.ensures) in
    c.settle.ensures ∙ (ap settled c.look_at_all.ensures ∙ settled-take c.args.game.now c.args.k.now.tickets c.args.l u.0)
