use Rattle.std.proofs.Common.{◌≡◌, ◌++◌, drop, map}
use Rattle.sg_eraser.specs.Nonzero.{nonzero_from}
use Rattle.sg_eraser.specs.TableValues.{meant_entry}
use Rattle.sg_eraser.proofs.sparse.entries_of.Given as goal

-- what is written, and what is left to write
abbrev pub invariant-loop-k : goal.invariant-loop-k
invariant-loop-k l = l.entries ++ nonzero_from l.k (map (λ row. meant_entry l.game l.fix row l.column) (drop l.k l.rows)) ≡ nonzero_from 0 (map (λ row. meant_entry l.game l.fix row l.column) l.rows)
