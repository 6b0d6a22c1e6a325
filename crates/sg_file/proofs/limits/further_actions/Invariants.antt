use Rattle.std.proofs.Common.{◌≡◌, ◌-◌, ◌*◌, ◌^◌, ◌≤◌, length, take, sum_by}
use Rattle.sg_game.specs.Seen.{attacker_of}
use Rattle.sg_game.specs.declared.parts.TypeParts.{TypeParts}
use Rattle.sg_file.proofs.limits.further_actions.Given as goal

abbrev pub invariant-loop-attacker : goal.invariant-loop-attacker
invariant-loop-attacker l = record {
  exact : l.sum ≡ sum_by (λ (x : TypeParts). length (attacker_of x).actions - 1) (take l.attacker-index l.types);
  small : l.sum ≤ l.attacker-index * 2 ^ 63;
}
