use Rattle.std.proofs.Common.{subst}
use Rattle.sg_search.specs.Results.{IsFirst}
use Rattle.sg_lanes.specs.Machines.{Machine}
use Rattle.sg_solve.proofs.Started.{handed-result, start-way}
use Rattle.sg_solve.proofs.searching.searched.Goals as goal

pub run_to_end-requires-clause-under_way : goal.run_to_end-requires-clause-under_way
run_to_end-requires-clause-under_way c =
    start-way c.args.game.now c.args.budget.now c.args.order.now c.args.nodes c.new-selection.result c.in_ok-lanes.lanes c.in_ok-desk.desk c.requires.nodes c.new-selection.ensures
    c.in_ok-lanes.ensures.task c.in_ok-lanes.ensures.search c.in_ok-desk.ensures

pub returns : goal.returns
returns c =
    handed-result c.args.game.now c.args.budget.now c.args.order.now c.run_to_end.new.selection c.run_to_end.new.lanes c.run_to_end.new.desk c.in_ok-run_to_end.ensures.under_way
    (subst (λ (m : Machine). IsFirst m.task.game m.task.first) c.lanes-2.view_is c.lanes-2.invariant.first) c.in_ok-run_to_end.ensures.end c.end.result c.end.ensures
