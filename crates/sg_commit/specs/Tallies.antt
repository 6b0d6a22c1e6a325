-- The sums that come from counts.
use Rattle.std.specs.Prelude.{ℤ, ◌-ℤ◌, Result}
use Rattle.sg_num.specs.declared.step.Wide.{Wide}
use Rattle.sg_num.specs.Exact.{and_then, exact_dot_step, exact_times}

-- out of so many tickets, count have the covered payoff, and the others the uncovered one: their sum, formed by that of all uncovered
abbrev pub counted_sum : ℤ → ℤ → ℤ → ℤ → Result ℤ Wide
counted_sum total count inside outside = and_then (exact_times outside total) (λ all. exact_dot_step all (inside -ℤ outside) count)
