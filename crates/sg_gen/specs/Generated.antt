-- The game of a shape and a seed.
use Rattle.std.specs.Prelude.{ℕ, ◌+◌, ◌-◌, ◌*◌, ◌%◌, ◌^◌, List, [], ◌∷◌, ◌++◌, map, flat_map, length, ℤ, pos, negsuc, ◌+ℤ◌, ◌-ℤ◌, Some, None, codes, decimal}
use Rattle.sg_model.specs.declared.kind.Kind.TheVariants.{Security, Matrix}
use Rattle.sg_model.specs.Games.{Attacker, Game, Named, payoff_of}
use Rattle.sg_model.specs.Sums.{numbers, numbers_from}
use Rattle.sg_gen.specs.declared.shape.Shape.{Shape}
use Rattle.sg_gen.specs.declared.shape.Shape.TheVariants.{Free, Blocks, Table}
use Rattle.sg_gen.specs.Draws.{by_number, in_turn, word_of_seed}

-- ---- names

-- a front and a number
abbrev pub numbered : List ℕ → ℕ → List ℕ
numbered front k = front ++ decimal k

-- n names with this front, from 1
abbrev pub numbered_names : List ℕ → ℕ → List (List ℕ)
numbered_names front n = map (numbered front) (numbers n)

-- lists of members with such names, from k
abbrev pub named_lists : List ℕ → ℕ → List (List ℕ) → List Named
named_lists front k [] = []
named_lists front k (members ∷ rest) = record { name = numbered front k; members = members } ∷ named_lists front (k + 1) rest

-- the one type of a game in security form, with the four payoffs of each target
abbrev pub lone_attacker : List (List ℤ) → Attacker
lone_attacker rows = record { name = numbered (codes "a") 1; prior = pos 1; payoffs = map payoff_of rows; actions = []; leader = []; follower = [] }

-- ---- games of identical patrols

-- the four payoffs of a target: four words from place k, for the gap, the covered attacker, the covered defender and the uncovered defender
abbrev pub free_row : ℕ → ℕ → List ℤ
free_row seed k =
    let gap = 2 ^ (10 + word_of_seed seed k % 11) in
    let covered = pos 0 -ℤ pos (word_of_seed seed (k + 1) % 1000) in
    pos (word_of_seed seed (k + 2) % 1000) ∷ (negsuc 0 -ℤ pos (word_of_seed seed (k + 3) % 1000)) ∷ covered ∷ (covered +ℤ pos gap) ∷ []

abbrev pub free_game : ℕ → ℕ → ℕ → Game
free_game seed targets patrols = record {
  kind = Security;
  scale = pos (2 ^ 32);
  patrols = Some patrols;
  goals = numbered_names (codes "t") targets;
  schedules = [];
  resources = [];
  types = lone_attacker (in_turn free_row 4 targets seed 0) ∷ [];
}

-- ---- games of blocks

-- the schedules of a block of so many targets behind the first ones: each target alone, then each pair in order
abbrev pub block_lists : ℕ → ℕ → List (List ℕ)
block_lists width before =
    map (λ a. (before + a) ∷ []) (numbers width)
    ++ flat_map (λ a. map (λ b. (before + a) ∷ (before + b) ∷ []) (numbers_from (a + 1) (width - a))) (numbers width)

-- the schedules of all blocks
abbrev pub blocks_lists : ℕ → ℕ → List (List ℕ)
blocks_lists blocks width = flat_map (λ k. block_lists width (k * width)) (numbers_from 0 blocks)

-- the schedules of each resource: those of its own block, of so many
abbrev pub shares_of : ℕ → ℕ → List (List ℕ)
shares_of blocks count = map (λ k. numbers_from (k * count + 1) count) (numbers_from 0 blocks)

-- the four payoffs of a target: one word
abbrev pub block_row : ℕ → ℕ → ℕ → List ℤ
block_row span seed k =
    let u = 1 + word_of_seed seed k % span in
    pos 0 ∷ (pos 0 -ℤ pos u) ∷ pos 0 ∷ pos u ∷ []

abbrev pub blocks_game : ℕ → ℕ → ℕ → ℕ → Game
blocks_game seed blocks width span = record {
  kind = Security;
  scale = pos 0;
  patrols = None;
  goals = numbered_names (codes "t") (blocks * width);
  schedules = named_lists (codes "s") 1 (blocks_lists blocks width);
  resources = named_lists (codes "r") 1 (shares_of blocks (length (block_lists width 0)));
  types = lone_attacker (in_turn (block_row span) 1 (blocks * width) seed 0) ∷ [];
}

-- ---- games in matrix form

-- a payoff of one word, from -10 to 10
abbrev pub drawn_pay : ℕ → ℕ → ℤ
drawn_pay seed k = pos (word_of_seed seed k % 21) -ℤ pos 10

-- a table of payoffs, row by row, from place k
abbrev pub drawn_table : ℕ → ℕ → ℕ → ℕ → List (List ℤ)
drawn_table rows actions seed k = in_turn (in_turn drawn_pay 1 actions) actions rows seed k

-- type l, from 0, from place k: all that the leader gets, then all that it gets itself
abbrev pub drawn_attacker : ℕ → ℕ → ℕ → ℕ → ℕ → Attacker
drawn_attacker rows actions l seed k = record {
  name = numbered (codes "a") (l + 1);
  prior = pos 1;
  payoffs = [];
  actions = numbered_names (codes "x") actions;
  leader = drawn_table rows actions seed k;
  follower = drawn_table rows actions seed (k + rows * actions);
}

-- the first n types, one after another
abbrev pub drawn_attackers : ℕ → ℕ → ℕ → ℕ → ℕ → List Attacker
drawn_attackers rows actions n seed k = by_number (drawn_attacker rows actions) (rows * actions + rows * actions) n seed k

abbrev pub matrix_game : ℕ → ℕ → ℕ → ℕ → Game
matrix_game seed rows actions types = record {
  kind = Matrix;
  scale = pos 0;
  patrols = None;
  goals = numbered_names (codes "r") rows;
  schedules = [];
  resources = [];
  types = drawn_attackers rows actions types seed 0;
}

-- the game of a shape and a seed
abbrev pub made_game : Shape → ℕ → Game
made_game (Free targets patrols) seed = free_game seed targets patrols
made_game (Blocks resources width span) seed = blocks_game seed resources width span
made_game (Table rows actions types) seed = matrix_game seed rows actions types
