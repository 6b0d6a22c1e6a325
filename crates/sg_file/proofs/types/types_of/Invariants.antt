use Rattle.std.proofs.Common.{◌≡◌, ◌+◌, [], drop, length, map, vec_len}
use Rattle.toml.specs.View.{items_view}
use Rattle.sg_model.specs.Games.{Attacker}
use Rattle.sg_game.specs.Seen.{attacker_of}
use Rattle.sg_format.specs.Lists.{each}
use Rattle.sg_file.specs.Sections.{type_at}
use Rattle.sg_file.specs.Numbers.{Numbers}
use Rattle.sg_file.proofs.types.types_of.Given as goal

abbrev pub invariant-loop-i : goal.invariant-loop-i
invariant-loop-i l = record {
  count : vec_len l.types ≡ l.i;
  indexed : Numbers l.index (map (λ (x : Attacker). x.name) (map attacker_of l.types.items));
  read : each (λ before. type_at l.form (length before + 1) before) (map attacker_of l.types.items) (items_view (drop l.i l.values))
      ≡ each (λ before. type_at l.form (length before + 1) before) [] (items_view l.values);
}
