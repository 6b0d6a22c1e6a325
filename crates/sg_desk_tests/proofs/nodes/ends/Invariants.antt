use Rattle.std.proofs.Common.{false}
use Rattle.sg_work.specs.Works.{IsLoaded}
use Rattle.sg_desk_tests.proofs.nodes.ends.Given as goal

-- it goes on
abbrev pub invariant-loop : goal.invariant-loop
invariant-loop l = IsLoaded l.desk.loads 2 false
