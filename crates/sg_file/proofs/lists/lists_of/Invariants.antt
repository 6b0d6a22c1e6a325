use Rattle.std.proofs.Common.{◌≡◌, ◌+◌, [], ℕ, List, drop, length, map, vec_len}
use Rattle.toml.specs.View.{items_view}
use Rattle.sg_model.specs.Games.{Named}
use Rattle.sg_game.specs.Seen.{named_of}
use Rattle.sg_format.specs.Lists.{each, named_at}
use Rattle.sg_file.specs.Numbers.{Numbers}
use Rattle.sg_file.specs.Sections.{key_of, member_place, members_limit}
use Rattle.sg_file.proofs.lists.lists_of.Given as goal

abbrev pub invariant-loop-i : goal.invariant-loop-i
invariant-loop-i l = record {
  count : vec_len l.parts ≡ l.i;
  indexed : Numbers l.index (map (λ (x : Named). x.name) (map named_of l.parts.items));
  read : (names : List (List ℕ)) → Numbers l.known names
      → each (λ before. named_at (member_place l.group (length before + 1)) (key_of l.group) names (members_limit l.group) before) (map named_of l.parts.items) (items_view (drop l.i l.values))
      ≡ each (λ before. named_at (member_place l.group (length before + 1)) (key_of l.group) names (members_limit l.group) before) [] (items_view l.values);
}
