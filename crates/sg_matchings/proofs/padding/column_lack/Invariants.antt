use Rattle.std.proofs.Common.{◌≡◌}
use Rattle.std.specs.Prelude.{◌-ℤ◌}
use Rattle.sg_linear.specs.Sums.{sum_below}
use Rattle.sg_matchings.specs.Tables.{cell}
use Rattle.sg_matchings.proofs.padding.column_lack.Given as goal

-- what the rows before leave
abbrev pub invariant-loop-row : goal.invariant-loop-row
invariant-loop-row l = l.lack ≡ l.most -ℤ sum_below l.row (λ i. cell l.counts i l.column)
