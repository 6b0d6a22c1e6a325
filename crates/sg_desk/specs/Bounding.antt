-- The caps under which the bounds of a node's fact are formed.
use Rattle.std.specs.Prelude.{ℕ, List, ℤ, pos, ◌-ℤ◌}
use Rattle.sg_model.specs.Games.{Game}
use Rattle.sg_model.specs.Payoffs.{greatest_of, shift_of}
use Rattle.sg_tree.specs.declared.report.Cap.{Cap}
use Rattle.sg_search.specs.Results.{caps_by}
use Rattle.sg_desk.specs.declared.bounding.Caps.{Caps}
use Rattle.sg_desk.specs.declared.bounding.Caps.TheVariants.{Most, Least}

-- the cap of type l: the greatest payoff against it, or what a payoff is at least
abbrev pub end_cap : Game → Caps → ℕ → ℤ
end_cap g Most = greatest_of g
end_cap g Least = λ l. pos 1 -ℤ shift_of g

-- those of all types from the second on
abbrev pub end_caps : Game → Caps → List Cap
end_caps g caps = caps_by g (end_cap g caps)
