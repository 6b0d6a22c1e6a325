use Rattle.std.proofs.Common.{◌≡◌, ◌++◌, ◌-◌, ◌+◌, length, map}
use Rattle.std.specs.Prelude.{int_div}
use Rattle.sg_model.specs.Sums.{numbers, numbers_from}
use Rattle.sg_model.specs.Origami.{count_at}
use Rattle.sg_origami.proofs.count.counts_of.Given as goal

-- what is counted, and the counts of what is left
abbrev pub invariant-loop-t : goal.invariant-loop-t
invariant-loop-t l =
    map (λ t. int_div (count_at l.game l.level.num l.level.den t) l.divisor) (numbers (length l.game.goals))
    ≡ l.counts ++ map (λ t. int_div (count_at l.game l.level.num l.level.den t) l.divisor) (numbers_from (l.t + 1) (length l.game.goals - l.t))
