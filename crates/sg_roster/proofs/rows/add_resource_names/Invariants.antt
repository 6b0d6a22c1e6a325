use Rattle.std.proofs.Common.{map}
use Rattle.sg_model.specs.Sums.{numbers}
use Rattle.sg_game.specs.Counts.{resource_name}
use Rattle.sg_roster.specs.Writing.{AddsFields}
use Rattle.sg_roster.proofs.rows.add_resource_names.Given as goal

-- those of the resources so far are added
abbrev pub invariant-loop-r : goal.invariant-loop-r
invariant-loop-r l = AddsFields l.initial.writer l.writer (map (resource_name l.game) (numbers l.r))
