use Rattle.std.proofs.Common.{◌≡◌, ℕ, ◌<◌}
use Rattle.sg_model.specs.Games.{resource_count}
use Rattle.sg_programs.specs.Plays.{column_of}
use Rattle.sg_dobss.specs.Paying.{listed_play}
use Rattle.sg_dobss.proofs.Ranks.{IsRanked}
use Rattle.sg_dobss.proofs.places.joint_place.Given as goal

-- the column is that of the k-th play, and so many digits of it are read
abbrev pub invariant-loop-r : goal.invariant-loop-r
invariant-loop-r l = (k : ℕ) × (k < l.count) × (column_of (listed_play l.game k) ≡ l.col) × IsRanked l.game (resource_count l.game) k l.r l.place (listed_play l.game k)
