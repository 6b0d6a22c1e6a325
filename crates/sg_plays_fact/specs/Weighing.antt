-- What covering a target adds to the sum of a fact over a play, in security form.
use Rattle.std.specs.Prelude.{ℕ, List, ℤ, ◌-ℤ◌, ◌*ℤ◌}
use Rattle.sg_model.specs.Sums.{total}
use Rattle.sg_model.specs.Games.{Game}
use Rattle.sg_tree.specs.declared.fact.Mark.{Mark}
use Rattle.sg_tree.specs.declared.fix.Fix.{Fix}
use Rattle.sg_bounds.specs.Coverage.{column_cost, covering, entry, gains}

-- the entry of target t in the row of a mark
abbrev pub mark_entry : Game → Fix → ℕ → Mark → ℤ
mark_entry g fix t m = entry g fix (gains m.l m.a) (covering t)

-- the weight of target t: rho times what covering it is worth, less what it adds to the marked comparisons
abbrev pub target_weight : Game → Fix → ℤ → List Mark → ℕ → ℤ
target_weight g fix rho marks t = (rho *ℤ column_cost g fix (covering t)) -ℤ total (λ (m : Mark). m.v *ℤ mark_entry g fix t m) marks
