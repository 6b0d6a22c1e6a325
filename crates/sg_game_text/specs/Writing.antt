-- What the writer adds between items, and the two tables of a type.
use Rattle.std.specs.Prelude.{ℕ, zero, suc, List, [], ℤ, codes}
use Rattle.sg_model.specs.Games.{Attacker}
use Rattle.sg_game_text.specs.declared.tables.Side.{Side}
use Rattle.sg_game_text.specs.declared.tables.Side.TheVariants.{Leader, Follower}

-- what stands before the item of that index in an array, counted from 0
abbrev pub comma_before : ℕ → List ℕ
comma_before zero = []
comma_before (suc index) = codes ", "

-- what the defender gets, or what the attacker gets: a list for each row
abbrev pub table_of_side : Side → Attacker → List (List ℤ)
table_of_side Leader x = x.leader
table_of_side Follower x = x.follower
