use Rattle.sg_dobss.proofs.Ranks.{IsUnranked}
use Rattle.sg_dobss.proofs.places.joint_column.Given as goal

abbrev pub invariant-loop-r : goal.invariant-loop-r
invariant-loop-r l = IsUnranked l.game l.resources l.k l.r l.size l.rest l.code
