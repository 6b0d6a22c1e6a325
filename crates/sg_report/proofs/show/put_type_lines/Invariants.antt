use Rattle.std.proofs.Common.{◌≡◌, ◌++◌, ◌+◌, ◌-◌, flat_map, length}
use Rattle.sg_model.specs.Sums.{numbers, numbers_from}
use Rattle.sg_report.specs.Tables.{type_line}
use Rattle.sg_report.proofs.show.put_type_lines.Given as goal

-- what is written, and what is left to write, is the whole
abbrev pub invariant-loop-l : goal.invariant-loop-l
invariant-loop-l l =
    l.text.items ++ flat_map (type_line l.game l.k.tickets) (numbers_from (l.l + 1) (length l.game.types - l.l))
    ≡ l.initial.text.items ++ flat_map (type_line l.game l.k.tickets) (numbers (length l.game.types))
