use Rattle.std.proofs.Common.{◌≡◌, ◌++◌, drop, filter_map}
use Rattle.std.specs.Option.{option_to_list}
use Rattle.sg_model.specs.Sums.{greatest}
use Rattle.sg_search.specs.Bounding.{least_cap}
use Rattle.sg_lanes.proofs.cap.greatest_least.Given as goal

-- the greatest so far, with what is left, is the greatest
abbrev pub invariant-loop-fact : goal.invariant-loop-fact
invariant-loop-fact l = greatest (option_to_list l.top ++ filter_map (least_cap l.game l.l) (drop l.fact-index l.facts)) ≡ greatest (filter_map (least_cap l.game l.l) l.facts)
