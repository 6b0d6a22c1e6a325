use Rattle.std.specs.Prelude.{unsigned_abs}
use Rattle.sg_matchings.specs.Matchings.{AreMatched}
use Rattle.sg_matchings.proofs.Parts.{AreParts}
use Rattle.sg_matchings.proofs.decomposing.take_all.Given as goal

abbrev pub decreases-loop-left : goal.decreases-loop-left
decreases-loop-left l = unsigned_abs l.left

-- the parts so far and the table that is left make up the counts, and the rest of the last matching is one
abbrev pub invariant-loop-left : goal.invariant-loop-left
invariant-loop-left l = AreParts l.counts l.width l.most l.parts.items l.rows l.left × AreMatched l.rows l.matched 0
