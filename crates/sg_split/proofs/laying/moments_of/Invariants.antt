use Rattle.std.proofs.Common.{◌≡◌, map, take}
use Rattle.sg_split.specs.declared.place.Place.{Place}
use Rattle.sg_split.proofs.laying.moments_of.Given as goal

abbrev pub invariant-loop-end : goal.invariant-loop-end
invariant-loop-end l = l.moments.items ≡ map (λ (end : Place). end.moment) (take l.end-index l.ends)
