-- Where in a game file a fault stands.
use Rattle.std.specs.Prelude.{ℕ}
use Rattle.sg_model.specs.declared.fault.Place.{Place}
use Rattle.sg_model.specs.declared.fault.Place.TheVariants.{Row, Target}
use Rattle.sg_model.specs.declared.kind.Kind.{Kind}
use Rattle.sg_model.specs.declared.kind.Kind.TheVariants.{Security, Matrix}

-- the place of the n-th target or row
abbrev pub goal_place : Kind → ℕ → Place
goal_place Security n = Target n
goal_place Matrix n = Row n
