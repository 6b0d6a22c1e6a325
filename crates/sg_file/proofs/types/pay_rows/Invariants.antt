use Rattle.std.proofs.Common.{◌≡◌, [], drop}
use Rattle.toml.specs.View.{items_view}
use Rattle.sg_game.specs.Seen.{number_lists}
use Rattle.sg_format.specs.Lists.{each}
use Rattle.sg_format.specs.Types.{pays_at}
use Rattle.sg_file.proofs.types.pay_rows.Given as goal

abbrev pub invariant-loop-i : goal.invariant-loop-i
invariant-loop-i l = each (λ before. pays_at l.place l.columns) (number_lists l.table.items) (items_view (drop l.i l.values)) ≡ each (λ before. pays_at l.place l.columns) [] (items_view l.values)
