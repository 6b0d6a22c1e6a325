use Rattle.std.proofs.Common.{◌≡◌, ℕ, ◌<◌, length, get_or, pos}
use Rattle.sg_lp.specs.declared.column.Enter.TheVariants.{Col}
use Rattle.sg_lp.specs.Programs.{member_entry}
use Rattle.sg_dual.proofs.share.write_entries.Given as goal

abbrev pub invariant-loop-j : goal.invariant-loop-j
invariant-loop-j g l = (length l.entries ≡ length l.initial.entries) × ((k : ℕ) → k < l.j → get_or l.entries k (pos 0) ≡ member_entry (g.F.Family.program l.family) (Col l.col) k)
