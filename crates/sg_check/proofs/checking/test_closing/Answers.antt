use Rattle.std.proofs.Common.{◌++◌}
use Rattle.sg_bounds.specs.Checking.{bound_stops, end_stops, root_line, root_stops}
use Rattle.sg_bounds.specs.Trees.{node_of}
use Rattle.sg_check.proofs.Joined.{answers-then, refuses-behind, refuses-then, none_missing}
use Rattle.sg_check.proofs.checking.test_closing.Goals as goal

pub test_root-requires-clause-setting : goal.test_root-requires-clause-setting
test_root-requires-clause-setting c = record { numbers = c.numbers_of-numbers.ensures; caps = none_missing c.args.game.now c.args.report.now c.in-Ok.ensures.0 }

pub returns-in-Ok-test_root : goal.returns-in-Ok-test_root
returns-in-Ok-test_root c =
    let g = c.args.game.now in
    let r = c.args.report.now in
    let root = root_stops g (root_line r) (node_of r.tree) in
    answers-then g r (bound_stops r) (root ++ end_stops r) c.test_ending.result c.in-Ok.ensures.0 (answers-then g r root (end_stops r) c.test_ending.result c.in-Ok-test_root.ensures.0 c.test_ending.ensures)

pub returns-in-Err-test_root : goal.returns-in-Err-test_root
returns-in-Err-test_root c =
    let g = c.args.game.now in
    let r = c.args.report.now in
    let root = root_stops g (root_line r) (node_of r.tree) in
    refuses-behind g r (bound_stops r) (root ++ end_stops r) c.in-Err-test_root.refusal c.in-Ok.ensures.0 (refuses-then g r root (end_stops r) c.in-Err-test_root.refusal c.in-Err-test_root.ensures)

pub returns-in-Err : goal.returns-in-Err
returns-in-Err c =
    let g = c.args.game.now in
    let r = c.args.report.now in
    refuses-then g r (bound_stops r) (root_stops g (root_line r) (node_of r.tree) ++ end_stops r) c.in-Err.refusal c.in-Err.ensures
