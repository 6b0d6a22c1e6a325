-- The worked examples, by computing.
use Rattle.std.proofs.Common.{◌≡◌, ℕ, zero, suc, ◌+◌, ◌≤◌, ◌^◌, true, List, [], ◌∷◌, length, map, ℤ, pos, ◌-ℤ◌, ◌*ℤ◌, ◌≤ℤ◌, ◌<ℤ◌, ap, refl, arith, nat_le, int_le, codes}
use Rattle.std.specs.List.{All, list_all}
use Rattle.std.proofs.lemmas.Int.{ints}
use Rattle.std.proofs.lemmas.List.{length-map}
use Rattle.std.proofs.lemmas.List.Elements.{All-nil, All-cons}
use Rattle.sg_model.specs.declared.level.Level.{Level}
use Rattle.sg_model.specs.declared.level.Level.TheVariants.{Resources, Target}
use Rattle.sg_model.specs.declared.ticket.Ticket.{Ticket}
use Rattle.sg_model.specs.Sums.{numbers}
use Rattle.sg_model.specs.Games.{Attacker, Game, Payoff, nobody, nothing, unnamed}
use Rattle.sg_model.specs.Plays.{IsLegalJoint, IsRow}
use Rattle.sg_model.specs.Optimality.{IsOptimal}
use Rattle.sg_model.specs.Commitments.{IsValue, cover_count, weight_total}
use Rattle.sg_model.specs.Origami.{AreLevelTickets, IsFullyCovered, IsOrigami, IsScaled, IsWater, SpendsAll, count_at}
use Rattle.sg_model.specs.Names.{is_name}
use Rattle.sg_model.specs.Limits.{AreListed, AreMembers, ArePatrols, IsGame, IsMatrixGame, IsMatrixType, IsPayoff, IsSecurityGame, IsSecurityType, is_scaled, program_rows}
use Rattle.sg_model.specs.Examples.{AreIllegal, AreNoGames, AreNoLevels, AreRefused, AreSpelled, AreUnscaled, IsSolved, IsWorth, WorkedExamples, always_first, each_row, first_payoffs, four_targets, four_tickets, guarded, half_idle, held_down, holding, idle, in_a_row, leads, letters, minus, named_from, neighbour_tickets, neighbours, one_player, opponent, pairs, patrolled, pays, plain, player, robber, row_mix, row_tickets, second_payoffs, tabled, thief, three_actions, three_rows, three_targets, ticket, twice_two_targets, two_actions, two_payoffs, two_players, two_targets, two_thieves, two_tickets, unpatrolled, well_patrolled}
use Rattle.sg_model.proofs.Deciding.{all_pass, at_most, at_most-either, at_most_z, commitment_by, commitment_test, count_by, count_test, lists_by, lists_test, names_by, names_test, payoff_by, payoff_test, range_by, range_test, scaled_by, scaled_test, table_by, table_test}
use Rattle.sg_model.proofs.Numbers.{length-numbers_from}
use Rattle.sg_model.proofs.Promises.{nth-all}
use Rattle.sg_model.proofs.Tickets.{tickets-optimal}

length-letters : (n : ℕ) → length (letters n) ≡ n
length-letters n = omega (arith, length-map (numbers n) (λ i. (96 + i) ∷ []), length-numbers_from 1 n)

thief-type : (payoffs : List Payoff) → list_all payoff_test payoffs ≡ true → IsSecurityType (length (letters (length payoffs))) (thief payoffs)
thief-type payoffs in_range = record {
  prior = range_by (pos 1) (pos (2 ^ 20)) (pos 1) refl;
  one_each = omega (arith, length-letters (length payoffs));
  pays = all_pass IsPayoff payoff_test payoff_by payoffs in_range;
  no_actions = refl;
  no_leader = refl;
  no_follower = refl;
}

-- what is asked of a game of identical patrols
abbrev PatrolledTest : ℕ → ℤ → List Payoff → Type 0
PatrolledTest patrols scale payoffs =
    (names_test (letters (length payoffs)) ≡ true)
    × (count_test 1 200 (length payoffs) ≡ true)
    × (nat_le patrols 32 ≡ true)
    × (int_le (pos 1) scale ≡ true)
    × (int_le scale (pos (2 ^ 32)) ≡ true)
    × (list_all payoff_test payoffs ≡ true)
    × (list_all (scaled_test scale) payoffs ≡ true)

patrolled-game : (patrols : ℕ) (scale : ℤ) (payoffs : List Payoff) → PatrolledTest patrols scale payoffs → IsGame (patrolled patrols scale payoffs)
unfolding is_name
patrolled-game patrols scale payoffs (names, count, few, low, high, in_range, fits) =
    let g = patrolled patrols scale payoffs in
    let counted = count_by 1 200 (length payoffs) count in
    let positive : pos 1 ≤ℤ scale = at_most_z low in
    let patrols_few : patrols ≤ 32 = at_most few in
    let is_count : length (letters (length payoffs)) ≡ length payoffs = length-letters (length payoffs) in
    record {
      targets = names_by (letters (length payoffs)) names;
      target_count = record {
        at_least = omega (arith, counted.at_least, is_count);
        at_most = at_most-either (is_scaled g) (length (letters (length payoffs))) 10000 200 (omega (arith, counted.at_most, is_count)) (omega (arith, counted.at_most, is_count));
      };
      scale_range = record { at_least = omega (arith, ints, positive); at_most = at_most_z high };
      defended = record { few = at_most-either (is_scaled g) patrols 200 32 (omega (arith, patrols_few)) patrols_few; no_schedules = refl; no_resources = refl };
      types = record { count = count_by 1 8 1 refl; names = names_by ((thief payoffs).name ∷ []) refl };
      each_type = All-cons (IsSecurityType (length (letters (length payoffs)))) (thief payoffs) [] (thief-type payoffs in_range) (All-nil (IsSecurityType (length (letters (length payoffs)))));
      few_rows = λ none. absurd (omega (arith, ints, positive, none));
      scaled = λ _. record {
        identical = λ e. cc;
        one_type = refl;
        prior_one = All-cons (λ (x : Attacker). x.prior ≡ pos 1) (thief payoffs) [] refl (All-nil (λ (x : Attacker). x.prior ≡ pos 1));
        targets = All-cons (λ (x : Attacker). All (IsScaled scale) x.payoffs) (thief payoffs) [] (all_pass (IsScaled scale) (scaled_test scale) (scaled_by scale) payoffs fits) (All-nil (λ (x : Attacker). All (IsScaled scale) x.payoffs));
      };
    }

patrolled-origami : (patrols : ℕ) (scale : ℤ) (payoffs : List Payoff) → PatrolledTest patrols scale payoffs → IsOrigami (patrolled patrols scale payoffs)
patrolled-origami patrols scale payoffs (names, count, few, low, high, in_range, fits) = record {
  security = refl;
  identical = refl;
  scaled = at_most_z low;
  one_type = refl;
  prior_one = refl;
  targets = λ t from_one in_list.
      nth-all (IsScaled scale) payoffs nothing (all_pass (IsScaled scale) (scaled_test scale) (scaled_by scale) payoffs fits) t from_one
      (omega (arith, in_list, length-letters (length payoffs)));
}

-- a solved game of identical patrols
solved : (patrols : ℕ) (scale : ℤ) (payoffs : List Payoff) → PatrolledTest patrols scale payoffs → (num den : ℤ) (why : Level) → IsWater (patrolled patrols scale payoffs) num den why
    → (k : List Ticket) → commitment_test (patrolled patrols scale payoffs) k ≡ true → AreLevelTickets (patrolled patrols scale payoffs) num den k
    → (a b : ℤ) → IsValue (patrolled patrols scale payoffs) k a b → IsSolved (patrolled patrols scale payoffs) num den why k a b
solved patrols scale payoffs test num den why w k tested tickets a b is =
    let g = patrolled patrols scale payoffs in
    let o = patrolled-origami patrols scale payoffs test in
    let is_k = commitment_by g k tested in
    record {
      worth = record { game = patrolled-game patrols scale payoffs test; commitment = is_k; value = is };
      origami = o;
      level = w;
      tickets = tickets;
      optimal = tickets-optimal g o num den w.positive k is_k tickets why w;
    }

-- what is asked of a game of resources with schedules
abbrev GuardedTest : List (List ℕ) → List (List ℕ) → List Payoff → Type 0
GuardedTest schedules resources payoffs =
    (names_test (letters (length payoffs)) ≡ true)
    × (count_test 1 200 (length payoffs) ≡ true)
    × (lists_test (length payoffs) 500 200 (named_from 1 schedules) ≡ true)
    × (lists_test (length (named_from 1 schedules)) 32 500 (named_from 1 resources) ≡ true)
    × (nat_le (program_rows (guarded schedules resources payoffs)) 1536 ≡ true)
    × (list_all payoff_test payoffs ≡ true)

guarded-game : (schedules resources : List (List ℕ)) (payoffs : List Payoff) → GuardedTest schedules resources payoffs → IsGame (guarded schedules resources payoffs)
unfolding is_name
guarded-game schedules resources payoffs (names, count, is_schedules, is_resources, few, in_range) =
    let g = guarded schedules resources payoffs in
    let counted = count_by 1 200 (length payoffs) count in
    let is_count : length (letters (length payoffs)) ≡ length payoffs = length-letters (length payoffs) in
    record {
      targets = names_by (letters (length payoffs)) names;
      target_count = record { at_least = omega (arith, counted.at_least, is_count); at_most = omega (arith, counted.at_most, is_count) };
      scale_range = record { at_least = omega (arith, ints); at_most = omega (arith, ints) };
      defended = record {
        schedules = rw is_count (lists_by (length payoffs) 500 200 (named_from 1 schedules) is_schedules);
        resources = lists_by (length (named_from 1 schedules)) 32 500 (named_from 1 resources) is_resources;
      };
      types = record { count = count_by 1 8 1 refl; names = names_by ((thief payoffs).name ∷ []) refl };
      each_type = All-cons (IsSecurityType (length (letters (length payoffs)))) (thief payoffs) [] (thief-type payoffs in_range) (All-nil (IsSecurityType (length (letters (length payoffs)))));
      few_rows = λ _. at_most few;
      scaled = λ positive. absurd (omega (arith, ints, positive));
    }

guarded-worth : (schedules resources : List (List ℕ)) (payoffs : List Payoff) → GuardedTest schedules resources payoffs
    → (k : List Ticket) → commitment_test (guarded schedules resources payoffs) k ≡ true
    → (a b : ℤ) → IsValue (guarded schedules resources payoffs) k a b → IsWorth (guarded schedules resources payoffs) k a b
guarded-worth schedules resources payoffs test k tested a b is =
    record { game = guarded-game schedules resources payoffs test; commitment = commitment_by (guarded schedules resources payoffs) k tested; value = is }

player-type : (name : List ℕ) (leader follower : List (List ℤ)) → table_test 2 2 leader ≡ true → table_test 2 2 follower ≡ true → IsMatrixType 2 (player name leader follower)
unfolding is_name
player-type name leader follower leads follows = record {
  prior = range_by (pos 1) (pos (2 ^ 20)) (pos 1) refl;
  no_payoffs = refl;
  action_count = count_by 1 64 2 refl;
  action_names = names_by (letters 2) refl;
  leader = table_by 2 2 leader leads;
  follower = table_by 2 2 follower follows;
}

tabled-game : (types : List Attacker) → count_test 1 8 (length types) ≡ true → names_test (map (λ (x : Attacker). x.name) types) ≡ true
    → All (IsMatrixType 2) types → nat_le (program_rows (tabled types)) 1536 ≡ true → IsGame (tabled types)
unfolding is_name
tabled-game types count names each few = record {
  rows = names_by (letters 2) refl;
  row_count = count_by 1 4096 2 refl;
  no_scale = refl;
  no_patrols = refl;
  no_schedules = refl;
  no_resources = refl;
  types = record { count = count_by 1 8 (length types) count; names = names_by (map (λ (x : Attacker). x.name) types) names };
  each_type = each;
  few_rows = at_most few;
}

-- a place of the targets up to two or three
upto_two : (P : ℕ → Type 0) → P 1 → P 2 → (t : ℕ) → 1 ≤ t → t ≤ 2 → P t
upto_two P one two zero low high = absurd (omega (arith, low))
upto_two P one two (suc zero) low high = one
upto_two P one two (suc (suc zero)) low high = two
upto_two P one two (suc (suc (suc t))) low high = absurd (omega (arith, high))

upto_three : (P : ℕ → Type 0) → P 1 → P 2 → P 3 → (t : ℕ) → 1 ≤ t → t ≤ 3 → P t
upto_three P one two three zero low high = absurd (omega (arith, low))
upto_three P one two three (suc zero) low high = one
upto_three P one two three (suc (suc zero)) low high = two
upto_three P one two three (suc (suc (suc zero))) low high = three
upto_three P one two three (suc (suc (suc (suc t)))) low high = absurd (omega (arith, high))

abbrev InShare : Game → ℤ → ℤ → List Ticket → ℕ → Type 0
InShare g num den k t = cover_count g k t *ℤ (den *ℤ g.scale) ≡ count_at g num den t *ℤ weight_total k

one_patrol : IsSolved two_targets (pos 4) (pos 3) Resources two_tickets (pos 2) (pos 3)
unfolding is_name
one_patrol =
    solved 1 (pos 4) two_payoffs (refl, refl, refl, refl, refl, refl, refl) (pos 4) (pos 3) Resources (record { positive = at_most_z refl; level = record { some = λ e. cc; sum = refl } })
    two_tickets refl (upto_two (InShare two_targets (pos 4) (pos 3) two_tickets) refl refl) (pos 2) (pos 3) (record { positive = at_most_z refl; same = refl })

no_patrol : IsSolved unpatrolled (pos 4) (pos 1) Resources idle (minus 2) (pos 1)
unfolding is_name
no_patrol =
    solved 0 (pos 4) two_payoffs (refl, refl, refl, refl, refl, refl, refl) (pos 4) (pos 1) Resources (record { positive = at_most_z refl; level = record { some = λ e. cc; sum = refl } })
    idle refl (upto_two (InShare unpatrolled (pos 4) (pos 1) idle) refl refl) (minus 2) (pos 1) (record { positive = at_most_z refl; same = refl })

two_patrols : IsSolved three_targets (pos 1) (pos 3) Resources pairs (minus 1) (pos 3)
unfolding is_name
two_patrols =
    solved 2 (pos 1) (plain ∷ plain ∷ plain ∷ []) (refl, refl, refl, refl, refl, refl, refl) (pos 1) (pos 3) Resources (record { positive = at_most_z refl; level = record { some = λ e. cc; sum = refl } })
    pairs refl (upto_three (InShare three_targets (pos 1) (pos 3) pairs) refl refl refl) (minus 1) (pos 3) (record { positive = at_most_z refl; same = refl })

three_patrols : IsSolved well_patrolled (pos 1) (pos 1) (Target 2) held_down (pos 1) (pos 1)
unfolding is_name
three_patrols =
    solved 3 (pos 4) (pays (pos 2) (minus 2) (pos 0) (pos 4) ∷ pays (pos 1) (minus 1) (pos 1) (pos 2) ∷ []) (refl, refl, refl, refl, refl, refl, refl) (pos 1) (pos 1) (Target 2)
    (record { positive = at_most_z refl; level = record { from_one = at_most refl; in_range = at_most refl; pays = refl } })
    held_down refl (upto_two (InShare well_patrolled (pos 1) (pos 1) held_down) refl refl) (pos 1) (pos 1) (record { positive = at_most_z refl; same = refl })

two_resources : IsWorth four_targets four_tickets (minus 1) (pos 4)
unfolding is_name
two_resources =
    guarded-worth ((1 ∷ 2 ∷ []) ∷ (3 ∷ 4 ∷ []) ∷ (1 ∷ 3 ∷ []) ∷ (2 ∷ 4 ∷ []) ∷ []) ((1 ∷ 2 ∷ []) ∷ (3 ∷ 4 ∷ []) ∷ []) (plain ∷ plain ∷ plain ∷ plain ∷ []) (refl, refl, refl, refl, refl, refl)
    four_tickets refl (minus 1) (pos 4) (record { positive = at_most_z refl; same = refl })

one_shared : IsWorth neighbours neighbour_tickets (minus 1) (pos 3)
unfolding is_name
one_shared =
    guarded-worth ((1 ∷ []) ∷ (2 ∷ []) ∷ (3 ∷ []) ∷ []) ((1 ∷ 2 ∷ []) ∷ (2 ∷ 3 ∷ []) ∷ []) (plain ∷ plain ∷ plain ∷ []) (refl, refl, refl, refl, refl, refl)
    neighbour_tickets refl (minus 1) (pos 3) (record { positive = at_most_z refl; same = refl })

one_resource : IsWorth in_a_row row_tickets (minus 1) (pos 2)
unfolding is_name
one_resource =
    guarded-worth ((1 ∷ 2 ∷ []) ∷ (2 ∷ 3 ∷ []) ∷ []) ((1 ∷ 2 ∷ []) ∷ []) (plain ∷ plain ∷ plain ∷ []) (refl, refl, refl, refl, refl, refl)
    row_tickets refl (minus 1) (pos 2) (record { positive = at_most_z refl; same = refl })

first : Attacker
first = player (codes "first") leads ((pos 1 ∷ pos 0 ∷ []) ∷ (pos 0 ∷ pos 2 ∷ []) ∷ [])

second : Attacker
second = player (codes "second") leads ((pos 0 ∷ pos 1 ∷ []) ∷ (pos 2 ∷ pos 0 ∷ []) ∷ [])

first-type : IsMatrixType 2 first
unfolding first
first-type = player-type (codes "first") leads ((pos 1 ∷ pos 0 ∷ []) ∷ (pos 0 ∷ pos 2 ∷ []) ∷ []) refl refl

second-type : IsMatrixType 2 second
unfolding second
second-type = player-type (codes "second") leads ((pos 0 ∷ pos 1 ∷ []) ∷ (pos 2 ∷ pos 0 ∷ []) ∷ []) refl refl

one_type : IsWorth one_player row_mix (pos 11) (pos 3)
unfolding is_name first
one_type = record {
  game = tabled-game (first ∷ []) refl refl (All-cons (IsMatrixType 2) first [] first-type (All-nil (IsMatrixType 2))) refl;
  commitment = commitment_by one_player row_mix refl;
  value = record { positive = at_most_z refl; same = refl };
}

two_types : IsWorth two_players row_mix (pos 11) (pos 3)
unfolding is_name first second
two_types = record {
  game = tabled-game (first ∷ second ∷ []) refl refl (All-cons (IsMatrixType 2) first (second ∷ []) first-type (All-cons (IsMatrixType 2) second [] second-type (All-nil (IsMatrixType 2)))) refl;
  commitment = commitment_by two_players row_mix refl;
  value = record { positive = at_most_z refl; same = refl };
}

refused : AreRefused
refused = record {
  empty = λ is. is.some refl;
  weightless = λ is. let h : pos 1 ≤ℤ pos 0 = is.positive 0 (ticket 0 []) (at_most refl) in omega (arith, ints, h);
  repeated = λ is. is.distinct 0 1 (ticket 0 []) (at_most refl) (at_most refl) refl;
  past_the_list = λ is. let h : IsLegalJoint two_targets (3 ∷ []) = is.legal 0 (ticket 0 []) (at_most refl) in let low : 3 ≤ 2 = h.in_list 0 (at_most refl) in omega (arith, low);
  too_many = λ is. let h : IsLegalJoint two_targets (1 ∷ 2 ∷ []) = is.legal 0 (ticket 0 []) (at_most refl) in let e : 2 ≡ 1 = h.one_each in omega (arith, e);
}

robber-type : (name : List ℕ) (often : ℕ) (payoffs : List Payoff) → range_test (pos 1) (pos (2 ^ 20)) (pos often) ≡ true → list_all payoff_test payoffs ≡ true
    → IsSecurityType (length payoffs) (robber name often payoffs)
robber-type name often payoffs comes in_range = record {
  prior = range_by (pos 1) (pos (2 ^ 20)) (pos often) comes;
  one_each = refl;
  pays = all_pass IsPayoff payoff_test payoff_by payoffs in_range;
  no_actions = refl;
  no_leader = refl;
  no_follower = refl;
}

thieves : IsGame two_thieves
unfolding is_name
thieves = record {
  targets = names_by (letters 2) refl;
  target_count = count_by 1 200 2 refl;
  scale_range = range_by (pos 0) (pos (2 ^ 32)) (pos 0) refl;
  defended = record {
    schedules = lists_by 2 500 200 (named_from 1 ((1 ∷ []) ∷ (2 ∷ []) ∷ [])) refl;
    resources = lists_by 2 32 500 (named_from 1 ((2 ∷ []) ∷ (1 ∷ 2 ∷ []) ∷ [])) refl;
  };
  types = record { count = count_by 1 8 2 refl; names = names_by (codes "first" ∷ codes "second" ∷ []) refl };
  each_type =
      All-cons (IsSecurityType 2) (robber (codes "first") 2 first_payoffs) (robber (codes "second") 3 second_payoffs ∷ []) (robber-type (codes "first") 2 first_payoffs refl refl)
      (All-cons (IsSecurityType 2) (robber (codes "second") 3 second_payoffs) [] (robber-type (codes "second") 3 second_payoffs refl refl) (All-nil (IsSecurityType 2)));
  few_rows = λ _. at_most refl;
  scaled = λ positive. absurd (omega (arith, ints, positive));
}

opponent-type : (name : List ℕ) (often actions : ℕ) (leader follower : List (List ℤ)) → range_test (pos 1) (pos (2 ^ 20)) (pos often) ≡ true → count_test 1 64 actions ≡ true
    → names_test (letters actions) ≡ true → table_test 3 actions leader ≡ true → table_test 3 actions follower ≡ true → IsMatrixType 3 (opponent name often actions leader follower)
opponent-type name often actions leader follower comes few named leads follows = record {
  prior = range_by (pos 1) (pos (2 ^ 20)) (pos often) comes;
  no_payoffs = refl;
  action_count = rw (length-letters actions) (count_by 1 64 actions few);
  action_names = names_by (letters actions) named;
  leader = rw (length-letters actions) (table_by 3 actions leader leads);
  follower = rw (length-letters actions) (table_by 3 actions follower follows);
}

rows_game : IsGame three_rows
unfolding is_name
rows_game = record {
  rows = names_by (letters 3) refl;
  row_count = count_by 1 4096 3 refl;
  no_scale = refl;
  no_patrols = refl;
  no_schedules = refl;
  no_resources = refl;
  types = record { count = count_by 1 8 2 refl; names = names_by (codes "first" ∷ codes "second" ∷ []) refl };
  each_type =
      All-cons (IsMatrixType 3) two_actions (three_actions ∷ []) (opponent-type two_actions.name 2 2 two_actions.leader two_actions.follower refl refl refl refl refl)
      (All-cons (IsMatrixType 3) three_actions [] (opponent-type three_actions.name 3 3 three_actions.leader three_actions.follower refl refl refl refl refl) (All-nil (IsMatrixType 3)));
  few_rows = at_most refl;
}

spelled : AreSpelled
unfolding is_name
spelled = record { mixed = refl; empty = refl; dotted = refl; spaced = refl; longest = refl; too_long = refl }

unscaled : AreUnscaled
unscaled = record {
  no_help = λ is. let h : pos 1 <ℤ pos 1 = is.defender_gains in omega (arith, ints, h);
  no_hurt = λ is. let h : pos 4 <ℤ pos 4 = is.attacker_loses in omega (arith, ints, h);
  by_three = λ is. let h : pos 1 ≡ pos 0 = is.divides in omega (arith, ints, h);
  by_eight = λ is. let h : pos 4 ≡ pos 0 = is.divides in omega (arith, ints, h);
}

illegal : AreIllegal
illegal = record {
  other_list = λ is. let h : IsLegalJoint two_thieves (2 ∷ 1 ∷ []) = is.legal 0 (ticket 0 []) (at_most refl) in let low : 2 ≤ 1 = h.in_list 0 (at_most refl) in omega (arith, low);
  too_few = λ is. let h : IsLegalJoint two_thieves (1 ∷ []) = is.legal 0 (ticket 0 []) (at_most refl) in let e : 1 ≡ 2 = h.one_each in omega (arith, e);
  row_zero = λ is. let h : IsRow three_rows (0 ∷ []) = is.legal 0 (ticket 0 []) (at_most refl) in let low : 1 ≤ 0 = h.from_one in omega (arith, low);
  past_the_rows = λ is. let h : IsRow three_rows (4 ∷ []) = is.legal 0 (ticket 0 []) (at_most refl) in let low : 4 ≤ 3 = h.in_list in omega (arith, low);
}

no_levels : AreNoLevels
no_levels = record {
  takes_more = λ is. let k : SpendsAll two_targets (pos 1) (pos 1) = is.level in let e : pos 5 ≡ pos 4 = k.sum in omega (arith, ints, e);
  takes_less = λ is. let k : SpendsAll two_targets (pos 3) (pos 1) = is.level in let e : pos 1 ≡ pos 4 = k.sum in omega (arith, ints, e);
  below_the_floor = λ is. let k : IsFullyCovered well_patrolled (pos 0) (pos 1) 2 = is.level in let e : pos 1 ≡ pos 0 = k.pays in omega (arith, ints, e);
  past_the_targets = λ is. let k : IsFullyCovered two_targets (pos 0) (pos 1) 3 = is.level in let high : 3 ≤ 2 = k.in_range in omega (arith, high);
  target_zero = λ is. let k : IsFullyCovered two_targets (pos 0) (pos 1) 0 = is.level in let low : 1 ≤ 0 = k.from_one in omega (arith, low);
}

-- the promises of a schedule
held_members : (members : List ℕ) → IsGame (holding members) → AreMembers 2 200 members
held_members members is =
    let h : IsSecurityGame (holding members) = is in
    let k : AreListed (holding members) = h.defended in
    k.schedules.members 1 unnamed (at_most refl)

no_games : AreNoGames
no_games = record {
  of_none = λ is. let low : 1 ≤ 0 = (held_members [] is).size.at_least in omega (arith, low);
  of_zero = λ is. let k = (held_members (0 ∷ []) is).known 0 0 (at_most refl) in let low : 1 ≤ 0 = k.at_least in omega (arith, low);
  past_the_last = λ is. let k = (held_members (3 ∷ []) is).known 0 0 (at_most refl) in let high : 3 ≤ 2 = k.at_most in omega (arith, high);
  of_one_twice = λ is. (held_members (2 ∷ 2 ∷ []) is).distinct 0 1 0 (at_most refl) (at_most refl) refl;
  beside_patrols = λ is.
      let h : IsSecurityGame (record two_targets { schedules = named_from 1 ((1 ∷ []) ∷ []) }) = is in
      let k : ArePatrols (record two_targets { schedules = named_from 1 ((1 ∷ []) ∷ []) }) 1 = h.defended in
      let none : length (named_from 1 ((1 ∷ []) ∷ [])) ≡ 0 = ap length k.no_schedules in omega (arith, none);
  one_name = λ is. let h : IsMatrixGame (record three_rows { types = two_actions ∷ two_actions ∷ [] }) = is in h.types.names.distinct 0 1 [] (at_most refl) (at_most refl) refl;
  scale_without_patrols = λ is. let h : IsSecurityGame (record in_a_row { scale = pos 1 }) = is in (h.scaled (at_most_z refl)).identical refl;
  scale_with_prior = λ is.
      let h : IsSecurityGame twice_two_targets = is in
      let e : pos 2 ≡ pos 1 = (h.scaled (at_most_z refl)).prior_one 0 nobody (at_most refl) in omega (arith, ints, e);
}

poor : IsWorth two_targets always_first (minus 1) (pos 1)
poor = record { game = one_patrol.worth.game; commitment = commitment_by two_targets always_first refl; value = record { positive = at_most_z refl; same = refl } }

-- worth 2 on three tickets is more than worth -1 on one
not_optimal : IsOptimal two_targets always_first → ⊥
not_optimal best = let h : pos 2 ≤ℤ (pos 0 -ℤ pos 3) = best two_tickets one_patrol.worth.commitment in omega (arith, ints, h)

pub worked : WorkedExamples
worked = record {
  one_patrol = one_patrol;
  no_patrol = no_patrol;
  two_patrols = two_patrols;
  three_patrols = three_patrols;
  two_resources = two_resources;
  one_shared = one_shared;
  one_resource = one_resource;
  on_both_tickets = refl;
  one_type = one_type;
  tie = record { first = refl; second = refl; less = refl; more = refl };
  two_types = two_types;
  more_than_once = refl;
  bound = refl;
  two_worth = refl;
  refused = refused;
  poor = poor;
  not_optimal = not_optimal;
  idle_for_two = record { game = thieves; commitment = commitment_by two_thieves half_idle refl; value = record { positive = at_most_z refl; same = refl } };
  both_at_one = refl;
  most_of_thieves = record { most_of_first = refl; most_of_second = refl; shift_of_both = refl };
  different_types = record { game = rows_game; commitment = commitment_by three_rows each_row refl; value = record { positive = at_most_z refl; same = refl } };
  most_of_rows = record { most_of_first = refl; most_of_second = refl; shift_of_both = refl };
  counted = record {
    patrols = refl;
    targets_of_patrols = refl;
    resources = refl;
    schedules = refl;
    targets = refl;
    actions = refl;
    other_actions = refl;
    program_rows_of_targets = refl;
    program_rows_of_actions = refl;
  };
  spelled = spelled;
  unscaled = unscaled;
  illegal = illegal;
  no_games = no_games;
  no_levels = no_levels;
  prior_two = λ is. let e : pos 2 ≡ pos 1 = is.prior_one in omega (arith, ints, e);
}
