use Rattle.std.proofs.Common.{◌∙◌}
use Rattle.std.specs.Int.{w128}
use Rattle.std.specs.Prelude.{FitsSigned}
use Rattle.std.proofs.lemmas.Int.{to_z-of_z}
use Rattle.sg_report.proofs.Tabled.{tabled}
use Rattle.sg_report.proofs.show.table.Goals as goal

pub returns : goal.returns
returns c =
    let fits : FitsSigned w128 c.total.result = record { sfits = c.total.type_inv } in
    let head = simp to_z-of_z at c.in_ok-put_head.ensures in
    tabled c.args.game.now c.args.k.now.tickets c.args.value.now c.args.upper.now c.total.result c.new-text.result.items c.put_head.new.text.items c.put_goal_lines.new.text.items c.put_type_lines.new.text.items
    (c.total.ensures ∙ c.tickets-tickets.ensures.rules.sum) c.new-text.ensures.items head c.in_ok-put_goal_lines.ensures c.in_ok-put_type_lines.ensures
