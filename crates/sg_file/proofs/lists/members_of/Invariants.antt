use Rattle.std.proofs.Common.{◌≡◌, [], ℕ, List, drop}
use Rattle.toml.specs.View.{items_view}
use Rattle.sg_format.specs.Lists.{each, member_at}
use Rattle.sg_file.specs.Numbers.{Numbers, Marks}
use Rattle.sg_file.proofs.lists.members_of.Given as goal

abbrev pub invariant-loop-i : goal.invariant-loop-i
invariant-loop-i l = record {
  marked : Marks l.seen l.members.items;
  read : (names : List (List ℕ)) → Numbers l.known names → each (member_at l.place names) l.members.items (items_view (drop l.i l.values)) ≡ each (member_at l.place names) [] (items_view l.values);
}
