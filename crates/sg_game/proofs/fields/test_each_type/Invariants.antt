use Rattle.std.proofs.Common.{◌≡◌, [], drop, take, map, string_bytes}
use Rattle.sg_model.specs.declared.fault.Place.TheVariants.{Attacker}
use Rattle.sg_game.specs.declared.parts.TypeParts.{TypeParts}
use Rattle.sg_game.specs.Entries.{Holds}
use Rattle.sg_game.specs.Faults.{entries_fault, type_fault}
use Rattle.sg_game.proofs.fields.test_each_type.Given as goal

-- the set holds the names so far, and the rest decides
abbrev pub invariant-loop-i : goal.invariant-loop-i
invariant-loop-i l = record {
  seen : Holds l.seen (map (λ (x : TypeParts). string_bytes x.name) (take l.i l.types));
  rest : entries_fault (λ (x : TypeParts). string_bytes x.name) (type_fault l.kind l.prior_limit l.goals) Attacker (map (λ (x : TypeParts). string_bytes x.name) (take l.i l.types)) (drop l.i l.types)
      ≡ entries_fault (λ (x : TypeParts). string_bytes x.name) (type_fault l.kind l.prior_limit l.goals) Attacker [] l.types;
}
