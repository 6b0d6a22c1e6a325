use Rattle.std.proofs.Common.{◌≡◌, ◌++◌, ◌+◌, ◌-◌, flat_map, length}
use Rattle.sg_model.specs.Sums.{numbers, numbers_from}
use Rattle.sg_report.specs.Tables.{row_line}
use Rattle.sg_report.proofs.text.put_row_lines.Given as goal

-- what is written, and what is left to write, is the whole
abbrev pub invariant-loop-n : goal.invariant-loop-n
invariant-loop-n l =
    l.text.items ++ flat_map (row_line l.game l.k.tickets) (numbers_from (l.n + 1) (length l.game.goals - l.n))
    ≡ l.initial.text.items ++ flat_map (row_line l.game l.k.tickets) (numbers (length l.game.goals))
