-- The fact that multipliers of a node's program are.
use Rattle.std.specs.Prelude.{ℕ, if◌then◌else◌, List, [], ◌∷◌, drop, ℤ, pos, int_lt}
use Rattle.sg_model.specs.Games.{Game}
use Rattle.sg_tree.specs.declared.fact.Fact.{Fact}
use Rattle.sg_tree.specs.declared.fact.Fact.TheVariants.{Plays}
use Rattle.sg_tree.specs.declared.fact.Mark.{Mark}
use Rattle.sg_tree.specs.declared.fix.Fix.{Fix}
use Rattle.sg_rows.specs.Rows.{place}
use Rattle.sg_bounds.specs.PlayRows.{comparisons}

-- the comparisons with their multipliers, but for those that are 0
abbrev pub marks_of : List (ℕ × ℕ) → List ℤ → List Mark
marks_of [] vs = []
marks_of (m ∷ ms) [] = []
marks_of (m ∷ ms) (v ∷ vs) = if int_lt (pos 0) v then record { l = m.0; a = m.1; v = v } ∷ marks_of ms vs else marks_of ms vs

-- the fact of the multipliers y over rho: that of row 0 bounds the whole, the others are marks, by rising row
abbrev pub plays_fact : Game → Fix → List ℤ → ℤ → Fact
plays_fact g fix y rho = Plays rho (place y 0) (marks_of (comparisons g fix) (drop 1 y))
