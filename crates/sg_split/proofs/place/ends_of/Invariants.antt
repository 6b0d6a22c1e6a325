use Rattle.std.proofs.Common.{◌≡◌, ◌≤◌, ◌++◌, map, drop, pos}
use Rattle.std.specs.List.{All}
use Rattle.sg_split.specs.declared.place.Place.{Place}
use Rattle.sg_split.specs.Laying.{ends_from}
use Rattle.sg_split.specs.Lines.{IsMoment, spot}
use Rattle.sg_split.proofs.place.ends_of.Given as goal

-- the ends so far and those of the counts that are left are all
abbrev pub invariant-loop-count : goal.invariant-loop-count
invariant-loop-count l = record {
  moment : IsMoment l.fn.moments l.place.moment;
  patrol : l.place.patrol ≤ l.count-index;
  all : ends_from (pos 0) l.counts ≡ map (spot l.fn.moments) l.ends ++ ends_from (spot l.fn.moments l.place) (drop l.count-index l.counts);
  each : All (λ (end : Place). IsMoment l.fn.moments end.moment) l.ends;
}
