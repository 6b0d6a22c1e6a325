-- A better incumbent.
use Rattle.std.specs.Prelude.{◌≡◌, Option, Some, None}
use Rattle.sg_commit.specs.Committed.{Committed, IsCommitted}
use Rattle.sg_frac.specs.Fractions.{Fraction}
use Rattle.sg_search.specs.Searches.{Task, Search}
use Rattle.sg_search.specs.Bounding.{better, incumbent, value_fraction}
use Rattle.sg_lanes.specs.declared.best.Best.{Best}
use Rattle.sg_lanes.specs.Bounds.{Stands}

-- none, where a point doesn't replace the incumbent; else the point with its value
abbrev pub IsRise : Task → Search → Option Committed → Option Best → Type 0
IsRise p s point None = better p.game (incumbent p s) point ≡ incumbent p s
IsRise p s point (Some b) = IsCommitted b.commitment × (b.commitment.tickets ≡ better p.game (incumbent p s) point) × Stands b.value (value_fraction p.game b.commitment.tickets)

-- the incumbent and its value after a rise
abbrev pub best_after : Option Best → Committed → Committed
best_after None best = best
best_after (Some b) best = b.commitment

abbrev pub value_after : Option Best → Fraction → Fraction
value_after None value = value
value_after (Some b) value = b.value
