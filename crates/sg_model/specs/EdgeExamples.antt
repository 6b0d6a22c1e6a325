-- Small cases at the edges: sums of several types, a bound over 0, which bytes spell names, and games that break one rule each.
use Rattle.std.specs.Prelude.{◌≡◌, ℕ, true, false, List, [], ◌∷◌, ◌++◌, flat_map, codes, ℤ, pos, filter, Some, None}
use Rattle.sg_model.specs.declared.kind.Kind.TheVariants.{Matrix}
use Rattle.sg_model.specs.declared.ticket.Ticket.{Ticket}
use Rattle.sg_model.specs.Sums.{numbers}
use Rattle.sg_model.specs.Games.{Attacker, Game}
use Rattle.sg_model.specs.Commitments.{is_best, sum_a, sum_d, take_of}
use Rattle.sg_model.specs.Optimality.{IsUpperBound}
use Rattle.sg_model.specs.Names.{AreNames, is_name, is_name_byte}
use Rattle.sg_model.specs.Limits.{IsGame}
use Rattle.sg_model.specs.Examples.{each_row, guarded, half_idle, in_a_row, letters, minus, named_from, opponent, plain, thief, three_rows, two_targets, two_tickets, two_thieves}

-- what type l gets from an action, and what the defender gets
pub record Gets (g : Game) (k : List Ticket) (l a : ℕ) (attacker defender : ℤ) : Type 0 where
  pub attackers : sum_a g k l a ≡ attacker
  pub defenders : sum_d g k l a ≡ defender

-- the sums of two types with payoffs of their own, against three rows and at two targets, and what each leaves the defender:
-- the first row counts twice; the second target is covered on two tickets of three
pub record AreSums : Type 0 where
  -- 2 * 1 + 0 + 0, 2 * 0 + 2 + 0; 2 * 7 + 4 + 5, 2 * 3 + 9 + 6
  pub first_row_1 : Gets three_rows each_row 1 1 (pos 2) (pos 23)
  pub first_row_2 : Gets three_rows each_row 1 2 (pos 2) (pos 21)
  -- 2 * 2 + 0 + 1, 2 * 1 + 1 + 1, 2 * 0 + 3 + 1; 2 * 8 + 3 + 6, 2 * 4 + 5 + 6, 2 * 3 + 10 + 6
  pub second_row_1 : Gets three_rows each_row 2 1 (pos 5) (pos 25)
  pub second_row_2 : Gets three_rows each_row 2 2 (pos 4) (pos 19)
  pub second_row_3 : Gets three_rows each_row 2 3 (pos 4) (pos 22)
  pub row_tie : is_best three_rows each_row 1 2 ≡ true
  pub not_best : is_best three_rows each_row 2 2 ≡ false
  pub rows_first : take_of three_rows each_row 1 ≡ pos 23
  pub rows_second : take_of three_rows each_row 2 ≡ pos 25
  -- 3 * 6, 2 * 0 + 4; 3 * -5, 2 * -2 - 3
  pub first_target_1 : Gets two_thieves half_idle 1 1 (pos 18) (minus 15)
  pub first_target_2 : Gets two_thieves half_idle 1 2 (pos 4) (minus 7)
  -- 3 * 2, 2 * -1 + 5; 3 * 3, 2 * 7 + 2
  pub second_target_1 : Gets two_thieves half_idle 2 1 (pos 6) (pos 9)
  pub second_target_2 : Gets two_thieves half_idle 2 2 (pos 3) (pos 16)

-- which of all bytes may stand in a name, and names that are one byte or begin with a digit or a dash
pub record AreNameBytes : Type 0 where
  pub all : filter is_name_byte (0 ∷ numbers 255) ≡ codes "-0123456789ABCDEFGHIJKLMNOPQRSTUVWXYZ_abcdefghijklmnopqrstuvwxyz"
  pub dash : is_name (codes "-") ≡ true
  pub digit : is_name (codes "7") ≡ true
  pub past_the_bytes : is_name (256 ∷ []) ≡ false

-- two targets, one schedule of the first, one resource
abbrev pub watched : Game
watched = guarded ((1 ∷ []) ∷ []) ((1 ∷ []) ∷ []) (plain ∷ plain ∷ [])

-- against other types
abbrev pub watched_from : List Attacker → Game
watched_from types = record watched { types = types }

-- two rows against one type with two actions, with these tables
abbrev pub played : List (List ℤ) → List (List ℤ) → Game
played leader follower = record {
  kind = Matrix;
  scale = pos 0;
  patrols = None;
  goals = letters 2;
  schedules = [];
  resources = [];
  types = opponent (codes "first") 1 2 leader follower ∷ [];
}

-- a table of two rows and two actions
abbrev pub square : List (List ℤ)
square = (pos 1 ∷ pos 2 ∷ []) ∷ (pos 3 ∷ pos 4 ∷ []) ∷ []

-- the names a, b and a
abbrev pub repeated : List (List ℕ)
repeated = (97 ∷ []) ∷ (98 ∷ []) ∷ (97 ∷ []) ∷ []

-- one rule is broken in each: in security form a name of targets, schedules or resources that stands twice, payoffs for one target too few or too many,
-- and what belongs to matrix form; in matrix form a name of rows or actions that stands twice, a table or a row that is too short or too long, and what
-- belongs to security form
pub record AreBroken : Type 0 where
  pub targets_twice : IsGame (record in_a_row { goals = repeated }) → ⊥
  pub schedules_twice : IsGame (record watched { schedules = record { name = codes "s"; members = 1 ∷ [] } ∷ record { name = codes "s"; members = 2 ∷ [] } ∷ [] }) → ⊥
  pub resources_twice : IsGame (record watched { resources = record { name = codes "r"; members = 1 ∷ [] } ∷ record { name = codes "r"; members = 1 ∷ [] } ∷ [] }) → ⊥
  pub schedule_of_none : IsGame (record watched { resources = named_from 1 ((2 ∷ []) ∷ []) }) → ⊥
  pub resources_beside_patrols : IsGame (record two_targets { resources = named_from 1 ((1 ∷ []) ∷ []) }) → ⊥
  pub few_payoffs : IsGame (watched_from (thief (plain ∷ []) ∷ [])) → ⊥
  pub many_payoffs : IsGame (watched_from (thief (plain ∷ plain ∷ plain ∷ []) ∷ [])) → ⊥
  pub with_actions : IsGame (watched_from (record (thief (plain ∷ plain ∷ [])) { actions = letters 2 } ∷ [])) → ⊥
  pub with_leader : IsGame (watched_from (record (thief (plain ∷ plain ∷ [])) { leader = square } ∷ [])) → ⊥
  pub with_follower : IsGame (watched_from (record (thief (plain ∷ plain ∷ [])) { follower = square } ∷ [])) → ⊥
  pub rows_twice : IsGame (record three_rows { goals = repeated }) → ⊥
  pub actions_twice : IsGame (record (played square square) { types = record (opponent (codes "first") 1 2 square square) { actions = (97 ∷ []) ∷ (97 ∷ []) ∷ [] } ∷ [] }) → ⊥
  pub short_leader : IsGame (played ((pos 1 ∷ pos 2 ∷ []) ∷ []) square) → ⊥
  pub long_follower : IsGame (played square ((pos 5 ∷ pos 6 ∷ []) ∷ square)) → ⊥
  pub short_row : IsGame (played square ((pos 1 ∷ pos 2 ∷ []) ∷ (pos 3 ∷ []) ∷ [])) → ⊥
  pub long_row : IsGame (played ((pos 1 ∷ pos 2 ∷ []) ∷ (pos 3 ∷ pos 4 ∷ pos 5 ∷ []) ∷ []) square) → ⊥
  pub with_payoffs : IsGame (record (played square square) { types = record (opponent (codes "first") 1 2 square square) { payoffs = plain ∷ plain ∷ [] } ∷ [] }) → ⊥
  pub with_scale : IsGame (record (played square square) { scale = pos 1 }) → ⊥
  pub with_patrols : IsGame (record (played square square) { patrols = Some 1 }) → ⊥
  pub with_schedules : IsGame (record (played square square) { schedules = named_from 1 ((1 ∷ []) ∷ []) }) → ⊥
  pub with_resources : IsGame (record (played square square) { resources = named_from 1 ((1 ∷ []) ∷ []) }) → ⊥

-- the answers, as worked out by hand
pub record WorkedEdges : Type 0 where
  pub sums : AreSums
  -- 0 / 0 is no upper bound, though its products are those of one
  pub over_nothing : IsUpperBound two_targets (pos 0) (pos 0) → ⊥
  pub name_bytes : AreNameBytes
  pub apart : AreNames repeated → ⊥
  pub broken : AreBroken
