use Rattle.std.proofs.Common.{◌≡◌, [], drop}
use Rattle.toml.specs.View.{items_view}
use Rattle.sg_format.specs.Lists.{each}
use Rattle.sg_format.specs.Types.{pay_at}
use Rattle.sg_file.proofs.types.pays_of.Given as goal

abbrev pub invariant-loop-i : goal.invariant-loop-i
invariant-loop-i l = each (λ before. pay_at l.place) l.pays.items (items_view (drop l.i l.values)) ≡ each (λ before. pay_at l.place) [] (items_view l.values)
