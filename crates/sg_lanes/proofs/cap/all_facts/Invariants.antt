use Rattle.std.proofs.Common.{◌≡◌, ◌+◌, ◌-◌, ◌++◌, filter_map, length}
use Rattle.sg_model.specs.Sums.{numbers, numbers_from}
use Rattle.sg_bounds.specs.Regions.{alone}
use Rattle.sg_search.specs.Bounding.{fact_of}
use Rattle.sg_lanes.proofs.cap.all_facts.Given as goal

-- the facts so far, and those to come, are all; none is missing so far
abbrev pub invariant-loop-i : goal.invariant-loop-i
invariant-loop-i l = record {
  whole : l.facts ++ filter_map (λ a. fact_of l.worked (alone l.l a)) (numbers_from (l.i + 1) (l.count - l.i)) ≡ filter_map (λ a. fact_of l.worked (alone l.l a)) (numbers l.count);
  long : length l.facts ≡ l.i;
}
