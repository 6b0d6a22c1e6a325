-- Small games whose answers can be worked out by hand.
use Rattle.std.specs.Prelude.{◌≡◌, ℕ, ◌+◌, true, false, List, [], ◌∷◌, codes, map, length, ℤ, pos, ◌-ℤ◌, Some, None}
use Rattle.sg_model.specs.declared.kind.Kind.TheVariants.{Security, Matrix}
use Rattle.sg_model.specs.declared.level.Level.{Level}
use Rattle.sg_model.specs.declared.level.Level.TheVariants.{Resources, Target}
use Rattle.sg_model.specs.declared.ticket.Ticket.{Ticket}
use Rattle.sg_model.specs.Sums.{numbers}
use Rattle.sg_model.specs.Games.{Attacker, Game, Named, Payoff, action_count, resource_count, schedule_count}
use Rattle.sg_model.specs.Payoffs.{greatest_of, shift_of}
use Rattle.sg_model.specs.Commitments.{IsCommitment, IsValue, cover_count, is_best, sum_d, worth}
use Rattle.sg_model.specs.Optimality.{IsOptimal}
use Rattle.sg_model.specs.Origami.{AreLevelTickets, IsOrigami, IsScaled, IsWater, water_bound}
use Rattle.sg_model.specs.Names.{is_name}
use Rattle.sg_model.specs.Limits.{IsGame, program_rows}

-- minus n
abbrev pub minus : ℕ → ℤ
minus n = pos 0 -ℤ pos n

-- the names a, b, c and so on
abbrev pub letters : ℕ → List (List ℕ)
letters n = map (λ i. (96 + i) ∷ []) (numbers n)

-- the payoffs of a target, in the order of a game file
abbrev pub pays : ℤ → ℤ → ℤ → ℤ → Payoff
pays dc du ac au = record { dc = dc; du = du; ac = ac; au = au }

-- one attacker with these payoffs
abbrev pub thief : List Payoff → Attacker
thief payoffs = record { name = codes "thief"; prior = pos 1; payoffs = payoffs; actions = []; leader = []; follower = [] }

-- lists of members, named a, b, c and so on from the i-th letter
abbrev pub named_from : ℕ → List (List ℕ) → List Named
named_from i [] = []
named_from i (members ∷ rest) = record { name = (96 + i) ∷ []; members = members } ∷ named_from (i + 1) rest

-- identical patrols with a scale
abbrev pub patrolled : ℕ → ℤ → List Payoff → Game
patrolled patrols scale payoffs = record {
  kind = Security;
  scale = scale;
  patrols = Some patrols;
  goals = letters (length payoffs);
  schedules = [];
  resources = [];
  types = thief payoffs ∷ [];
}

-- schedules by their targets, and resources by their schedules
abbrev pub guarded : List (List ℕ) → List (List ℕ) → List Payoff → Game
guarded schedules resources payoffs = record {
  kind = Security;
  scale = pos 0;
  patrols = None;
  goals = letters (length payoffs);
  schedules = named_from 1 schedules;
  resources = named_from 1 resources;
  types = thief payoffs ∷ [];
}

-- a type with two actions, what the defender gets and what it gets: a list for each row
abbrev pub player : List ℕ → List (List ℤ) → List (List ℤ) → Attacker
player name leader follower = record { name = name; prior = pos 1; payoffs = []; actions = letters 2; leader = leader; follower = follower }

-- two rows against these types
abbrev pub tabled : List Attacker → Game
tabled types = record { kind = Matrix; scale = pos 0; patrols = None; goals = letters 2; schedules = []; resources = []; types = types }

-- a play with its weight
abbrev pub ticket : ℕ → List ℕ → Ticket
ticket weight code = record { play = record { code = code }; weight = pos weight }

-- a target that the defender wants quiet and the attacker wants: nothing where covered, else one to the attacker
abbrev pub plain : Payoff
plain = pays (pos 0) (minus 1) (pos 0) (pos 1)

-- two targets, the first worth twice the second
abbrev pub two_payoffs : List Payoff
two_payoffs = pays (pos 2) (minus 2) (pos 0) (pos 4) ∷ pays (pos 1) (minus 1) (pos 0) (pos 2) ∷ []

-- they and one patrol
abbrev pub two_targets : Game
two_targets = patrolled 1 (pos 4) two_payoffs

-- the first target on two tickets of three
abbrev pub two_tickets : List Ticket
two_tickets = ticket 2 (1 ∷ []) ∷ ticket 1 (2 ∷ []) ∷ []

-- the same targets without a patrol
abbrev pub unpatrolled : Game
unpatrolled = patrolled 0 (pos 4) two_payoffs

-- the one play there
abbrev pub idle : List Ticket
idle = ticket 1 [] ∷ []

-- three targets, two patrols
abbrev pub three_targets : Game
three_targets = patrolled 2 (pos 1) (plain ∷ plain ∷ plain ∷ [])

-- each pair once
abbrev pub pairs : List Ticket
pairs = ticket 1 (1 ∷ 2 ∷ []) ∷ ticket 1 (1 ∷ 3 ∷ []) ∷ ticket 1 (2 ∷ 3 ∷ []) ∷ []

-- more patrols than targets, of which the second pays the attacker 1 though it is covered for certain
abbrev pub well_patrolled : Game
well_patrolled = patrolled 3 (pos 4) (pays (pos 2) (minus 2) (pos 0) (pos 4) ∷ pays (pos 1) (minus 1) (pos 1) (pos 2) ∷ [])

-- the second target always, the first on three tickets of four
abbrev pub held_down : List Ticket
held_down = ticket 3 (1 ∷ 2 ∷ 0 ∷ []) ∷ ticket 1 (2 ∷ 0 ∷ 0 ∷ []) ∷ []

-- four targets; one resource takes the first or the last two, the other the odd or the even ones
abbrev pub four_targets : Game
four_targets = guarded ((1 ∷ 2 ∷ []) ∷ (3 ∷ 4 ∷ []) ∷ (1 ∷ 3 ∷ []) ∷ (2 ∷ 4 ∷ []) ∷ []) ((1 ∷ 2 ∷ []) ∷ (3 ∷ 4 ∷ []) ∷ []) (plain ∷ plain ∷ plain ∷ plain ∷ [])

-- each joint schedule once
abbrev pub four_tickets : List Ticket
four_tickets = ticket 1 (1 ∷ 1 ∷ []) ∷ ticket 1 (1 ∷ 2 ∷ []) ∷ ticket 1 (2 ∷ 1 ∷ []) ∷ ticket 1 (2 ∷ 2 ∷ []) ∷ []

-- three targets, of which both resources may take the second
abbrev pub neighbours : Game
neighbours = guarded ((1 ∷ []) ∷ (2 ∷ []) ∷ (3 ∷ []) ∷ []) ((1 ∷ 2 ∷ []) ∷ (2 ∷ 3 ∷ []) ∷ []) (plain ∷ plain ∷ plain ∷ [])

-- each pair of targets once
abbrev pub neighbour_tickets : List Ticket
neighbour_tickets = ticket 1 (1 ∷ 1 ∷ []) ∷ ticket 1 (1 ∷ 2 ∷ []) ∷ ticket 1 (2 ∷ 2 ∷ []) ∷ []

-- three targets in a row, one resource that takes two neighbours
abbrev pub in_a_row : Game
in_a_row = guarded ((1 ∷ 2 ∷ []) ∷ (2 ∷ 3 ∷ []) ∷ []) ((1 ∷ 2 ∷ []) ∷ []) (plain ∷ plain ∷ plain ∷ [])

-- both pairs of neighbours once
abbrev pub row_tickets : List Ticket
row_tickets = ticket 1 (1 ∷ []) ∷ ticket 1 (2 ∷ []) ∷ []

-- what the defender gets in the tables
abbrev pub leads : List (List ℤ)
leads = (pos 2 ∷ pos 4 ∷ []) ∷ (pos 1 ∷ pos 3 ∷ []) ∷ []

-- one type, which answers the first row by its first action and the second row by its second
abbrev pub one_player : Game
one_player = tabled (player (codes "first") leads ((pos 1 ∷ pos 0 ∷ []) ∷ (pos 0 ∷ pos 2 ∷ []) ∷ []) ∷ [])

-- a second type, which answers the other way round
abbrev pub two_players : Game
two_players = tabled (player (codes "first") leads ((pos 1 ∷ pos 0 ∷ []) ∷ (pos 0 ∷ pos 2 ∷ []) ∷ []) ∷ player (codes "second") leads ((pos 0 ∷ pos 1 ∷ []) ∷ (pos 2 ∷ pos 0 ∷ []) ∷ []) ∷ [])

-- the first row on two tickets of three
abbrev pub row_mix : List Ticket
row_mix = two_tickets

-- an attacker that comes this often, with these payoffs
abbrev pub robber : List ℕ → ℕ → List Payoff → Attacker
robber name often payoffs = record { name = name; prior = pos often; payoffs = payoffs; actions = []; leader = []; follower = [] }

-- the payoffs of one attacker at two targets, at all of which the defender loses
abbrev pub first_payoffs : List Payoff
first_payoffs = pays (minus 1) (minus 5) (pos 1) (pos 6) ∷ pays (minus 2) (minus 3) (pos 0) (pos 4) ∷ []

-- those of another
abbrev pub second_payoffs : List Payoff
second_payoffs = pays (pos 4) (pos 3) (minus 2) (pos 2) ∷ pays (pos 7) (pos 2) (minus 1) (pos 5) ∷ []

-- the first attacker comes on two of five days, the second on three; one resource may take the second target alone, the other one either target
abbrev pub two_thieves : Game
two_thieves = record {
  kind = Security;
  scale = pos 0;
  patrols = None;
  goals = letters 2;
  schedules = named_from 1 ((1 ∷ []) ∷ (2 ∷ []) ∷ []);
  resources = named_from 1 ((2 ∷ []) ∷ (1 ∷ 2 ∷ []) ∷ []);
  types = robber (codes "first") 2 first_payoffs ∷ robber (codes "second") 3 second_payoffs ∷ [];
}

-- both resources at the second target on two tickets of three, and both idle on the third
abbrev pub half_idle : List Ticket
half_idle = ticket 2 (1 ∷ 2 ∷ []) ∷ ticket 1 (0 ∷ 0 ∷ []) ∷ []

-- a type that comes this often, with so many actions, what the defender gets and what it gets: a list for each row
abbrev pub opponent : List ℕ → ℕ → ℕ → List (List ℤ) → List (List ℤ) → Attacker
opponent name often actions leader follower = record { name = name; prior = pos often; payoffs = []; actions = letters actions; leader = leader; follower = follower }

-- two actions against three rows, on two of five days
abbrev pub two_actions : Attacker
two_actions =
    opponent (codes "first") 2 2 ((pos 7 ∷ pos 3 ∷ []) ∷ (pos 4 ∷ pos 9 ∷ []) ∷ (pos 5 ∷ pos 6 ∷ []) ∷ [])
    ((pos 1 ∷ pos 0 ∷ []) ∷ (pos 0 ∷ pos 2 ∷ []) ∷ (pos 0 ∷ pos 0 ∷ []) ∷ [])

-- three actions against them, on three
abbrev pub three_actions : Attacker
three_actions =
    opponent (codes "second") 3 3 ((pos 8 ∷ pos 4 ∷ pos 3 ∷ []) ∷ (pos 3 ∷ pos 5 ∷ pos 10 ∷ []) ∷ (pos 6 ∷ pos 6 ∷ pos 6 ∷ []) ∷ [])
    ((pos 2 ∷ pos 1 ∷ pos 0 ∷ []) ∷ (pos 0 ∷ pos 1 ∷ pos 3 ∷ []) ∷ (pos 1 ∷ pos 1 ∷ pos 1 ∷ []) ∷ [])

-- three rows against both
abbrev pub three_rows : Game
three_rows = record { kind = Matrix; scale = pos 0; patrols = None; goals = letters 3; schedules = []; resources = []; types = two_actions ∷ three_actions ∷ [] }

-- the first row on two tickets of four, and each other row on one
abbrev pub each_row : List Ticket
each_row = ticket 2 (1 ∷ []) ∷ ticket 1 (2 ∷ []) ∷ ticket 1 (3 ∷ []) ∷ []

-- the two targets, with an attacker of prior 2
abbrev pub twice_two_targets : Game
twice_two_targets = record two_targets { types = robber (codes "thief") 2 two_payoffs ∷ [] }

-- a game of a game file with a commitment of value a / b
pub record IsWorth (g : Game) (k : List Ticket) (a b : ℤ) : Type 0 where
  pub game : IsGame g
  pub commitment : IsCommitment g k
  pub value : IsValue g k a b

-- a game of identical patrols, its level with the reason, and tickets in the shares of the level, which are optimal with value a / b
pub record IsSolved (g : Game) (num den : ℤ) (why : Level) (k : List Ticket) (a b : ℤ) : Type 0 where
  pub worth : IsWorth g k a b
  pub origami : IsOrigami g
  pub level : IsWater g num den why
  pub tickets : AreLevelTickets g num den k
  pub optimal : IsOptimal g k

-- both actions are best for type l, and the second gives the defender more: 11 to 5
pub record IsTie (g : Game) (k : List Ticket) (l : ℕ) : Type 0 where
  pub first : is_best g k l 1 ≡ true
  pub second : is_best g k l 2 ≡ true
  pub less : sum_d g k l 1 ≡ pos 5
  pub more : sum_d g k l 2 ≡ pos 11

-- the defender's greatest payoffs against two types, and the shift
pub record HasMost (g : Game) (first second shift : ℤ) : Type 0 where
  pub most_of_first : greatest_of g 1 ≡ first
  pub most_of_second : greatest_of g 2 ≡ second
  pub shift_of_both : shift_of g ≡ shift

-- how many there are of what
pub record AreCounted : Type 0 where
  pub patrols : resource_count three_targets ≡ 2
  pub targets_of_patrols : schedule_count three_targets ≡ 3
  pub resources : resource_count in_a_row ≡ 1
  pub schedules : schedule_count in_a_row ≡ 2
  pub targets : action_count in_a_row 1 ≡ 3
  pub actions : action_count three_rows 1 ≡ 2
  pub other_actions : action_count three_rows 2 ≡ 3
  pub program_rows_of_targets : program_rows two_thieves ≡ 9
  pub program_rows_of_actions : program_rows three_rows ≡ 4

-- names: letters, digits, an underscore and a dash; no empty one, no dot, no space; 64 letters and not 65
pub record AreSpelled : Type 0 where
  pub mixed : is_name (codes "North_gate-2") ≡ true
  pub empty : is_name [] ≡ false
  pub dotted : is_name (codes "a.b") ≡ false
  pub spaced : is_name (codes "a b") ≡ false
  pub longest : is_name (map (λ i. 97) (numbers 64)) ≡ true
  pub too_long : is_name (map (λ i. 97) (numbers 65)) ≡ false

-- payoffs that don't fit a scale of 4: covering that doesn't help the defender, or doesn't hurt the attacker, or by 3
pub record AreUnscaled : Type 0 where
  pub no_help : IsScaled (pos 4) (pays (pos 1) (pos 1) (pos 0) (pos 4)) → ⊥
  pub no_hurt : IsScaled (pos 4) (pays (pos 1) (pos 0) (pos 4) (pos 4)) → ⊥
  pub by_three : IsScaled (pos 4) (pays (pos 1) (pos 0) (pos 0) (pos 3)) → ⊥
  pub by_eight : IsScaled (pos 4) (pays (pos 1) (pos 0) (pos 0) (pos 8)) → ⊥

-- plays that aren't legal: a choice that only the other resource has, a choice for one of two resources, row 0, a row past the last
pub record AreIllegal : Type 0 where
  pub other_list : IsCommitment two_thieves (ticket 1 (2 ∷ 1 ∷ []) ∷ []) → ⊥
  pub too_few : IsCommitment two_thieves (ticket 1 (1 ∷ []) ∷ []) → ⊥
  pub row_zero : IsCommitment three_rows (ticket 1 (0 ∷ []) ∷ []) → ⊥
  pub past_the_rows : IsCommitment three_rows (ticket 1 (4 ∷ []) ∷ []) → ⊥

-- no water-level facts: a level that takes more than the one patrol, or less; one below what a target pays though it is covered for certain;
-- and targets that aren't there
pub record AreNoLevels : Type 0 where
  pub takes_more : IsWater two_targets (pos 1) (pos 1) Resources → ⊥
  pub takes_less : IsWater two_targets (pos 3) (pos 1) Resources → ⊥
  pub below_the_floor : IsWater well_patrolled (pos 0) (pos 1) (Target 2) → ⊥
  pub past_the_targets : IsWater two_targets (pos 0) (pos 1) (Target 3) → ⊥
  pub target_zero : IsWater two_targets (pos 0) (pos 1) (Target 0) → ⊥

-- a schedule of one resource that guards two targets
abbrev pub holding : List ℕ → Game
holding members = guarded ((1 ∷ []) ∷ members ∷ []) ((1 ∷ []) ∷ []) (plain ∷ plain ∷ [])

-- what no game file promises: a schedule of no target, of target 0, of one past the last, or of one twice; a schedule beside patrols;
-- two types of one name; and a scale without patrols, or with a prior of 2
pub record AreNoGames : Type 0 where
  pub of_none : IsGame (holding []) → ⊥
  pub of_zero : IsGame (holding (0 ∷ [])) → ⊥
  pub past_the_last : IsGame (holding (3 ∷ [])) → ⊥
  pub of_one_twice : IsGame (holding (2 ∷ 2 ∷ [])) → ⊥
  pub beside_patrols : IsGame (record two_targets { schedules = named_from 1 ((1 ∷ []) ∷ []) }) → ⊥
  pub one_name : IsGame (record three_rows { types = two_actions ∷ two_actions ∷ [] }) → ⊥
  pub scale_without_patrols : IsGame (record in_a_row { scale = pos 1 }) → ⊥
  pub scale_with_prior : IsGame twice_two_targets → ⊥

-- lists of tickets for the two targets that are no commitments: none at all, no weight, a play twice, a choice that isn't there, a patrol too many
pub record AreRefused : Type 0 where
  pub empty : IsCommitment two_targets [] → ⊥
  pub weightless : IsCommitment two_targets (ticket 0 (1 ∷ []) ∷ []) → ⊥
  pub repeated : IsCommitment two_targets (ticket 1 (1 ∷ []) ∷ ticket 2 (1 ∷ []) ∷ []) → ⊥
  pub past_the_list : IsCommitment two_targets (ticket 1 (3 ∷ []) ∷ []) → ⊥
  pub too_many : IsCommitment two_targets (ticket 1 (1 ∷ 2 ∷ []) ∷ []) → ⊥

-- the first target always: a commitment, but no optimal one
abbrev pub always_first : List Ticket
always_first = ticket 1 (1 ∷ []) ∷ []

-- the answers, as worked out by hand
pub record WorkedExamples : Type 0 where
  pub one_patrol : IsSolved two_targets (pos 4) (pos 3) Resources two_tickets (pos 2) (pos 3)
  pub no_patrol : IsSolved unpatrolled (pos 4) (pos 1) Resources idle (minus 2) (pos 1)
  pub two_patrols : IsSolved three_targets (pos 1) (pos 3) Resources pairs (minus 1) (pos 3)
  pub three_patrols : IsSolved well_patrolled (pos 1) (pos 1) (Target 2) held_down (pos 1) (pos 1)
  pub two_resources : IsWorth four_targets four_tickets (minus 1) (pos 4)
  pub one_shared : IsWorth neighbours neighbour_tickets (minus 1) (pos 3)
  pub one_resource : IsWorth in_a_row row_tickets (minus 1) (pos 2)
  pub on_both_tickets : cover_count in_a_row row_tickets 2 ≡ pos 2
  pub one_type : IsWorth one_player row_mix (pos 11) (pos 3)
  pub tie : IsTie one_player row_mix 1
  pub two_types : IsWorth two_players row_mix (pos 11) (pos 3)
  pub more_than_once : cover_count three_targets pairs 3 ≡ pos 2
  pub bound : water_bound two_targets (pos 4) (pos 3) ≡ pos 8
  pub two_worth : worth two_players row_mix ≡ pos 22
  pub refused : AreRefused
  pub poor : IsWorth two_targets always_first (minus 1) (pos 1)
  pub not_optimal : IsOptimal two_targets always_first → ⊥
  pub idle_for_two : IsWorth two_thieves half_idle (minus 1) (pos 5)
  pub both_at_one : cover_count two_thieves half_idle 2 ≡ pos 2
  pub most_of_thieves : HasMost two_thieves (minus 1) (pos 7) (pos 6)
  pub different_types : IsWorth three_rows each_row (pos 121) (pos 20)
  pub most_of_rows : HasMost three_rows (pos 9) (pos 10) (minus 2)
  pub counted : AreCounted
  pub spelled : AreSpelled
  pub unscaled : AreUnscaled
  pub illegal : AreIllegal
  pub prior_two : IsOrigami twice_two_targets → ⊥
  pub no_games : AreNoGames
  pub no_levels : AreNoLevels
