use Rattle.std.proofs.Common.{◌≡◌, [], drop, take, map, string_bytes}
use Rattle.sg_game.specs.declared.parts.ListParts.{ListParts}
use Rattle.sg_game.specs.Entries.{Holds, place_of}
use Rattle.sg_game.specs.Faults.{entries_fault, members_fault}
use Rattle.sg_game.proofs.entries.test_each_list.Given as goal

-- the set holds the names so far, and the rest decides
abbrev pub invariant-loop-i : goal.invariant-loop-i
invariant-loop-i l = record {
  seen : Holds l.seen (map (λ (x : ListParts). string_bytes x.name) (take l.i l.lists));
  rest : entries_fault (λ (x : ListParts). string_bytes x.name) (members_fault l.count l.members_limit) (place_of l.listing) (map (λ (x : ListParts). string_bytes x.name) (take l.i l.lists)) (drop l.i l.lists)
      ≡ entries_fault (λ (x : ListParts). string_bytes x.name) (members_fault l.count l.members_limit) (place_of l.listing) [] l.lists;
}
