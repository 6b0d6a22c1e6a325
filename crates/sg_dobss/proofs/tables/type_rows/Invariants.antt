use Rattle.std.specs.List.{AllZip}
use Rattle.sg_dobss.specs.Tables.{IsTypeRow}
use Rattle.sg_dobss.proofs.Gains.{others_to}
use Rattle.sg_dobss.proofs.tables.type_rows.Given as goal

abbrev pub invariant-loop-i : goal.invariant-loop-i
invariant-loop-i l = AllZip (IsTypeRow l.game l.act) (others_to l.l l.act l.i) l.rows
