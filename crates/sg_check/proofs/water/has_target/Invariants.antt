use Rattle.std.proofs.Common.{ℕ, ◌≤◌}
use Rattle.std.specs.Prelude.{◌≤ℤ◌, ◌*ℤ◌}
use Rattle.sg_model.specs.Games.{payoff}
use Rattle.sg_check.proofs.water.has_target.Given as goal

-- none of the targets so far pays the level
abbrev pub invariant-loop-i : goal.invariant-loop-i
invariant-loop-i l = (t : ℕ) → 1 ≤ t → t ≤ l.i → l.level.num ≤ℤ ((payoff l.game 1 t).au *ℤ l.level.den) → ⊥
