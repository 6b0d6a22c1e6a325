use Rattle.std.proofs.Common.{◌≡◌, drop, take, map, string_bytes, None}
use Rattle.sg_game.specs.Entries.{Holds, place_of}
use Rattle.sg_game.specs.Faults.{entries_fault, names_fault}
use Rattle.sg_game.proofs.entries.test_names.Given as goal

-- the set holds the names so far, and the rest decides
abbrev pub invariant-loop-i : goal.invariant-loop-i
invariant-loop-i l = record {
  seen : Holds l.seen (map string_bytes (take l.i l.names));
  rest : entries_fault string_bytes (λ here name. None) (place_of l.listing) (map string_bytes (take l.i l.names)) (drop l.i l.names) ≡ names_fault (place_of l.listing) l.names;
}
