use Rattle.std.proofs.Common.{◌≡◌, true, take}
use Rattle.std.specs.List.{list_all}
use Rattle.sg_model.specs.Games.{Attacker}
use Rattle.sg_game.specs.Faults.{is_scaled_payoff}
use Rattle.sg_game.proofs.draft.is_scaled.Given as goal

-- each so far fits
abbrev pub invariant-loop-attacker : goal.invariant-loop-attacker
invariant-loop-attacker l = list_all (λ (x : Attacker). list_all (is_scaled_payoff l.scale) x.payoffs) (take l.attacker-index l.types) ≡ true
