-- The cases at the edges, by computing and by the rule that is broken.
use Rattle.std.proofs.Common.{◌≡◌, ◌≤◌, List, [], ◌∷◌, length, ℤ, pos, ◌≤ℤ◌, ap, refl, arith, codes, Some, None}
use Rattle.std.proofs.lemmas.Int.{ints}
use Rattle.sg_model.specs.Games.{Attacker, Named, nobody, unnamed}
use Rattle.sg_model.specs.Names.{is_name}
use Rattle.sg_model.specs.Limits.{AreListed, ArePatrols, IsGame, IsMatrixGame, IsMatrixType, IsSecurityGame, IsSecurityType}
use Rattle.sg_model.specs.Examples.{in_a_row, letters, named_from, opponent, plain, thief, three_rows, two_targets}
use Rattle.sg_model.specs.EdgeExamples.{AreBroken, AreNameBytes, AreSums, WorkedEdges, played, repeated, square, watched, watched_from}
use Rattle.sg_model.proofs.Deciding.{at_most}

sums : AreSums
sums = record {
  first_row_1 = record { attackers = refl; defenders = refl };
  first_row_2 = record { attackers = refl; defenders = refl };
  second_row_1 = record { attackers = refl; defenders = refl };
  second_row_2 = record { attackers = refl; defenders = refl };
  second_row_3 = record { attackers = refl; defenders = refl };
  row_tie = refl;
  not_best = refl;
  rows_first = refl;
  rows_second = refl;
  first_target_1 = record { attackers = refl; defenders = refl };
  first_target_2 = record { attackers = refl; defenders = refl };
  second_target_1 = record { attackers = refl; defenders = refl };
  second_target_2 = record { attackers = refl; defenders = refl };
}

name_bytes : AreNameBytes
unfolding is_name
name_bytes = record { all = refl; dash = refl; digit = refl; past_the_bytes = refl }

-- what is promised of the one type of the watched targets, and of the one of two rows
of_security : (x : Attacker) → IsGame (watched_from (x ∷ [])) → IsSecurityType 2 x
of_security x is = let h : IsSecurityGame (watched_from (x ∷ [])) = is in h.each_type 0 nobody (at_most refl)

of_matrix : (x : Attacker) → IsGame (record (played square square) { types = x ∷ [] }) → IsMatrixType 2 x
of_matrix x is = let h : IsMatrixGame (record (played square square) { types = x ∷ [] }) = is in h.each_type 0 nobody (at_most refl)

of_rows : (leader follower : List (List ℤ)) → IsGame (played leader follower) → IsMatrixType 2 (opponent (codes "first") 1 2 leader follower)
of_rows leader follower is = let h : IsMatrixGame (played leader follower) = is in h.each_type 0 nobody (at_most refl)

-- a list that must be empty, and isn't
not_empty : {X : Type 0} (x : X) (xs : List X) → (x ∷ xs) ≡ [] → ⊥
not_empty x xs e = omega (arith, ap length e)

listed_of : (schedules resources : List Named) → IsGame (record watched { schedules = schedules; resources = resources }) → AreListed (record watched { schedules = schedules; resources = resources })
listed_of schedules resources is = let h : IsSecurityGame (record watched { schedules = schedules; resources = resources }) = is in h.defended

broken : AreBroken
broken = record {
  targets_twice = λ is. let h : IsSecurityGame (record in_a_row { goals = repeated }) = is in h.targets.distinct 0 2 [] (at_most refl) (at_most refl) refl;
  schedules_twice = λ is. (listed_of (record { name = codes "s"; members = 1 ∷ [] } ∷ record { name = codes "s"; members = 2 ∷ [] } ∷ []) watched.resources is).schedules.names.distinct 0 1 [] (at_most refl) (at_most refl) refl;
  resources_twice = λ is. (listed_of watched.schedules (record { name = codes "r"; members = 1 ∷ [] } ∷ record { name = codes "r"; members = 1 ∷ [] } ∷ []) is).resources.names.distinct 0 1 [] (at_most refl) (at_most refl) refl;
  schedule_of_none = λ is. let k = (listed_of watched.schedules (named_from 1 ((2 ∷ []) ∷ [])) is).resources.members 0 unnamed (at_most refl) in let high : 2 ≤ 1 = (k.known 0 0 (at_most refl)).at_most in omega (arith, high);
  resources_beside_patrols = λ is.
      let h : IsSecurityGame (record two_targets { resources = named_from 1 ((1 ∷ []) ∷ []) }) = is in
      let k : ArePatrols (record two_targets { resources = named_from 1 ((1 ∷ []) ∷ []) }) 1 = h.defended in
      let none : length (named_from 1 ((1 ∷ []) ∷ [])) ≡ 0 = ap length k.no_resources in omega (arith, none);
  few_payoffs = λ is. let e : 1 ≡ 2 = (of_security (thief (plain ∷ [])) is).one_each in omega (arith, e);
  many_payoffs = λ is. let e : 3 ≡ 2 = (of_security (thief (plain ∷ plain ∷ plain ∷ [])) is).one_each in omega (arith, e);
  with_actions = λ is. let e : 2 ≡ 0 = ap length (of_security (record (thief (plain ∷ plain ∷ [])) { actions = letters 2 }) is).no_actions in omega (arith, e);
  with_leader = λ is. let e : 2 ≡ 0 = ap length (of_security (record (thief (plain ∷ plain ∷ [])) { leader = square }) is).no_leader in omega (arith, e);
  with_follower = λ is. let e : 2 ≡ 0 = ap length (of_security (record (thief (plain ∷ plain ∷ [])) { follower = square }) is).no_follower in omega (arith, e);
  rows_twice = λ is. let h : IsMatrixGame (record three_rows { goals = repeated }) = is in h.rows.distinct 0 2 [] (at_most refl) (at_most refl) refl;
  actions_twice = λ is. (of_matrix (record (opponent (codes "first") 1 2 square square) { actions = (97 ∷ []) ∷ (97 ∷ []) ∷ [] }) is).action_names.distinct 0 1 [] (at_most refl) (at_most refl) refl;
  short_leader = λ is. let e : 1 ≡ 2 = (of_rows ((pos 1 ∷ pos 2 ∷ []) ∷ []) square is).leader.rows in omega (arith, e);
  long_follower = λ is. let e : 3 ≡ 2 = (of_rows square ((pos 5 ∷ pos 6 ∷ []) ∷ square) is).follower.rows in omega (arith, e);
  short_row = λ is. let e : 1 ≡ 2 = (of_rows square ((pos 1 ∷ pos 2 ∷ []) ∷ (pos 3 ∷ []) ∷ []) is).follower.columns 1 [] (at_most refl) in omega (arith, e);
  long_row = λ is. let e : 3 ≡ 2 = (of_rows ((pos 1 ∷ pos 2 ∷ []) ∷ (pos 3 ∷ pos 4 ∷ pos 5 ∷ []) ∷ []) square is).leader.columns 1 [] (at_most refl) in omega (arith, e);
  with_payoffs = λ is. let e : 2 ≡ 0 = ap length (of_matrix (record (opponent (codes "first") 1 2 square square) { payoffs = plain ∷ plain ∷ [] }) is).no_payoffs in omega (arith, e);
  with_scale = λ is. let h : IsMatrixGame (record (played square square) { scale = pos 1 }) = is in let e : pos 1 ≡ pos 0 = h.no_scale in omega (arith, ints, e);
  with_patrols = λ is. let h : IsMatrixGame (record (played square square) { patrols = Some 1 }) = is in let e : Some 1 ≡ None = h.no_patrols in cc;
  with_schedules = λ is. let h : IsMatrixGame (record (played square square) { schedules = named_from 1 ((1 ∷ []) ∷ []) }) = is in let e : 1 ≡ 0 = ap length h.no_schedules in omega (arith, e);
  with_resources = λ is. let h : IsMatrixGame (record (played square square) { resources = named_from 1 ((1 ∷ []) ∷ []) }) = is in let e : 1 ≡ 0 = ap length h.no_resources in omega (arith, e);
}

pub edges : WorkedEdges
edges = record {
  sums = sums;
  over_nothing = λ is. let low : pos 1 ≤ℤ pos 0 = is.positive in omega (arith, ints, low);
  name_bytes = name_bytes;
  apart = λ is. is.distinct 0 2 [] (at_most refl) (at_most refl) refl;
  broken = broken;
}
