use Rattle.std.proofs.Common.{◌≡◌, drop}
use Rattle.sg_bounds.specs.Regions.{alone}
use Rattle.sg_search.specs.Bounding.{fact_of}
use Rattle.sg_lanes.proofs.cap.fact_at.Given as goal

-- what is left has the fact of the whole
abbrev pub invariant-loop-w : goal.invariant-loop-w
invariant-loop-w l = fact_of (drop l.w-index l.worked) (alone l.l l.act) ≡ fact_of l.worked (alone l.l l.act)
