use Rattle.std.proofs.Common.{rules, ◌≡◌, ◌∙◌, ◌-◌, sym, Ok}
use Rattle.std.specs.Int.{w128}
use Rattle.std.specs.Prelude.{FitsSigned}
use Rattle.std.proofs.lemmas.Int.{to_z-of_z}
use Rattle.sg_model.specs.Sums.{numbers_from}
use Rattle.sg_model.specs.Games.{action_count}
use Rattle.sg_commit.specs.Responses.{top_from}
use Rattle.sg_commit.proofs.Responses.{top_of-is}
use Rattle.sg_commit.proofs.response.top_of.Goals as goal

pub returns-in-Ok : goal.returns-in-Ok
returns-in-Ok c =
    let fits : FitsSigned w128 c.in-Ok.first = search rules in
    let e : c.top_after.result ≡ top_from c.args.game.now c.args.k.now.tickets c.args.l c.in-Ok.first (numbers_from 2 (action_count c.args.game.now c.args.l - 1)) = simp to_z-of_z at c.top_after.ensures in
    e ∙ top_of-is c.args.game.now c.args.k.now.tickets c.args.l c.has_action.ensures (Ok c.in-Ok.first) (sym c.table_sum.ensures ∙ c.in-Ok.is)
