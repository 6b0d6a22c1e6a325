use Rattle.std.proofs.Common.{◌≡◌, map, take}
use Rattle.sg_eraser.specs.Nonzero.{nonzero_from}
use Rattle.sg_eraser.specs.TableValues.{meant_entry}
use Rattle.sg_eraser.proofs.sparse.entries.Given as goal

abbrev pub invariant-loop-column : goal.invariant-loop-column
invariant-loop-column l = l.all ≡ map (λ c. nonzero_from 0 (map (λ row. meant_entry l.game l.fix row c) l.rows)) (take l.column-index l.columns)
