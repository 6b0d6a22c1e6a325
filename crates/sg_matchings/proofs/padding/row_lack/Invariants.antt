use Rattle.std.proofs.Common.{◌≡◌}
use Rattle.std.specs.Prelude.{◌-ℤ◌}
use Rattle.sg_linear.specs.Sums.{sum_below}
use Rattle.sg_matchings.specs.Tables.{cell}
use Rattle.sg_matchings.proofs.padding.row_lack.Given as goal

-- what the columns before leave
abbrev pub invariant-loop-column : goal.invariant-loop-column
invariant-loop-column l = l.lack ≡ l.most -ℤ sum_below l.column (λ j. cell l.counts l.row j)
