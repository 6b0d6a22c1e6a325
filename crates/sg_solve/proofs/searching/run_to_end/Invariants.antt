use Rattle.sg_solve.specs.UnderWay.{IsUnderWay, events_left}
use Rattle.sg_solve.proofs.searching.run_to_end.Given as goal

abbrev pub invariant-events : goal.invariant-events
invariant-events l = IsUnderWay l.game l.budget l.order l.selection l.lanes l.desk

abbrev pub decreases-events : goal.decreases-events
decreases-events l = events_left l.desk.pivots l.lanes l.desk.loads
