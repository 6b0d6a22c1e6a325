use Rattle.std.proofs.Common.{◌≡◌, ◌+◌, [], drop, length, vec_len}
use Rattle.toml.specs.View.{items_view}
use Rattle.sg_game.specs.Seen.{texts}
use Rattle.sg_format.specs.Lists.{each, new_name}
use Rattle.sg_file.specs.Numbers.{Numbers}
use Rattle.sg_file.specs.Sections.{entry_of}
use Rattle.sg_file.proofs.names.names_of.Given as goal

abbrev pub invariant-loop-i : goal.invariant-loop-i
invariant-loop-i l = record {
  count : vec_len l.list ≡ l.i;
  indexed : Numbers l.index (texts l.list.items);
  read : each (λ before entry. new_name (entry_of l.listing (length before + 1)) before entry) (texts l.list.items) (items_view (drop l.i l.values))
      ≡ each (λ before entry. new_name (entry_of l.listing (length before + 1)) before entry) [] (items_view l.values);
}
