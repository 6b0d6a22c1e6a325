use Rattle.std.proofs.Common.{map}
use Rattle.sg_model.specs.Sums.{nth, numbers}
use Rattle.sg_roster.specs.Rows.{choice_name}
use Rattle.sg_roster.specs.Writing.{AddsFields}
use Rattle.sg_roster.proofs.rows.add_choices.Given as goal

-- those of the resources so far are added
abbrev pub invariant-loop-r : goal.invariant-loop-r
invariant-loop-r l = AddsFields l.initial.writer l.writer (map (λ r. choice_name l.game r (nth l.code r 0)) (numbers l.r))
