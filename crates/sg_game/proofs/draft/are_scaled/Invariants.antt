use Rattle.std.proofs.Common.{◌≡◌, true, take}
use Rattle.std.specs.List.{list_all}
use Rattle.sg_game.specs.Faults.{is_scaled_payoff}
use Rattle.sg_game.proofs.draft.are_scaled.Given as goal

-- each so far fits
abbrev pub invariant-loop-payoff : goal.invariant-loop-payoff
invariant-loop-payoff l = list_all (is_scaled_payoff l.scale) (take l.payoff-index l.payoffs) ≡ true
