use Rattle.std.proofs.Common.{◌≡◌, ◌++◌, ◌+◌, ◌-◌, flat_map, length, slice_index_or}
use Rattle.sg_model.specs.Sums.{numbers, numbers_from}
use Rattle.sg_game.specs.Tallies.{no_cell}
use Rattle.sg_report.specs.Lines.{target_text}
use Rattle.sg_report.proofs.text.put_counts.Given as goal

-- what is written, and what is left to write, is the whole
abbrev pub invariant-loop-n : goal.invariant-loop-n
invariant-loop-n l =
    l.text.items ++ flat_map (λ n. target_text l.game n (slice_index_or l.cells n no_cell).count) (numbers_from (l.n + 1) (length l.game.goals - l.n))
    ≡ l.initial.text.items ++ flat_map (λ n. target_text l.game n (slice_index_or l.cells n no_cell).count) (numbers (length l.game.goals))
