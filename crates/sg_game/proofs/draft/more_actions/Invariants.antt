use Rattle.std.proofs.Common.{◌≡◌, ◌-◌, ◌*◌, ◌≤◌, length, take, sum_by}
use Rattle.sg_model.specs.Games.{Attacker}
use Rattle.sg_game.proofs.draft.more_actions.Given as goal

-- the sum so far
abbrev pub invariant-loop-attacker : goal.invariant-loop-attacker
invariant-loop-attacker l = record {
  sum : l.total ≡ sum_by (λ (x : Attacker). length x.actions - 1) (take l.attacker-index l.types);
  small : l.total ≤ 64 * l.attacker-index;
}
