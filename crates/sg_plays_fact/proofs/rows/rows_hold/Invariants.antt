use Rattle.std.proofs.Common.{ℕ, ◌<◌, ◌+◌, [], ◌∷◌, ◌≤ℤ◌}
use Rattle.sg_plays_fact.specs.Testing.{play_sum}
use Rattle.sg_plays_fact.proofs.rows.rows_hold.Given as goal

-- the sum is at most mu for each row so far
abbrev pub invariant-loop-i : goal.invariant-loop-i
invariant-loop-i l = (k : ℕ) → k < l.i → play_sum l.game l.fix l.stated.rho l.marks ((k + 1) ∷ []) ≤ℤ l.stated.mu
