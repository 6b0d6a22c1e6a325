-- Where the limits of a game file lie, each told by games that keep all others.
use Rattle.std.specs.Prelude.{◌≡◌, ◌↔◌, ℕ, ◌^◌, ◌≤◌, List, [], ◌∷◌, codes, map, length, ℤ, pos, ◌≤ℤ◌, Some, None}
use Rattle.sg_model.specs.declared.kind.Kind.TheVariants.{Security, Matrix}
use Rattle.sg_model.specs.Games.{Attacker, Game, Named, Payoff}
use Rattle.sg_model.specs.Names.{AreNames}
use Rattle.sg_model.specs.Limits.{IsGame}
use Rattle.sg_model.specs.Examples.{letters, minus, plain, robber}

-- identical patrols on targets of these names, against one attacker
abbrev pub on_targets : List (List ℕ) → ℕ → ℤ → Game
on_targets names patrols scale = record {
  kind = Security;
  scale = scale;
  patrols = Some patrols;
  goals = names;
  schedules = [];
  resources = [];
  types = robber (codes "thief") 1 (map (λ name. plain) names) ∷ [];
}

-- one patrol and one target, with these payoffs of an attacker that comes this often
abbrev pub on_one : ℕ → Payoff → Game
on_one often payoff = record {
  kind = Security;
  scale = pos 0;
  patrols = Some 1;
  goals = letters 1;
  schedules = [];
  resources = [];
  types = robber (codes "thief") often (payoff ∷ []) ∷ [];
}

-- patrols on targets of these names, against attackers of those names
abbrev pub against : List (List ℕ) → List (List ℕ) → ℕ → Game
against types names patrols = record {
  kind = Security;
  scale = pos 0;
  patrols = Some patrols;
  goals = names;
  schedules = [];
  resources = [];
  types = map (λ type. robber type 1 (map (λ name. plain) names)) types;
}

-- a schedule of the first target, or a resource with the first schedule
abbrev pub single : List ℕ → Named
single name = record { name = name; members = 1 ∷ [] }

-- one target, schedules of these names that hold it, and resources of those names that may take the first of them
abbrev pub scheduled : List (List ℕ) → List (List ℕ) → Game
scheduled schedules resources = record {
  kind = Security;
  scale = pos 0;
  patrols = None;
  goals = letters 1;
  schedules = map single schedules;
  resources = map single resources;
  types = robber (codes "thief") 1 (plain ∷ []) ∷ [];
}

-- an attacker with actions of these names, and with the same payoff in each row
abbrev pub player_on : List (List ℕ) → List (List ℕ) → Attacker
player_on names actions = record {
  name = codes "thief";
  prior = pos 1;
  payoffs = [];
  actions = actions;
  leader = map (λ name. map (λ action. pos 1) actions) names;
  follower = map (λ name. map (λ action. pos 1) actions) names;
}

-- rows of these names, against actions of those names
abbrev pub on_rows : List (List ℕ) → List (List ℕ) → Game
on_rows names actions = record {
  kind = Matrix;
  scale = pos 0;
  patrols = None;
  goals = names;
  schedules = [];
  resources = [];
  types = player_on names actions ∷ [];
}

-- a payoff from -2^30 to 2^30
abbrev pub IsInRange : ℤ → Type 0
IsInRange z = (minus (2 ^ 30) ≤ℤ z) × (z ≤ℤ pos (2 ^ 30))

-- which of them are games
pub record LimitsAreExact : Type 0 where
  -- one to 200 targets, and with a scale one to 10,000
  pub targets : (names : List (List ℕ)) → AreNames names → IsGame (on_targets names 1 (pos 0)) ↔ ((1 ≤ length names) × (length names ≤ 200))
  pub scaled_targets : (names : List (List ℕ)) → AreNames names → IsGame (on_targets names 1 (pos 1)) ↔ ((1 ≤ length names) × (length names ≤ 10000))
  -- at most 32 patrols, and with a scale 200
  pub patrols : (n : ℕ) → IsGame (on_targets (letters 1) n (pos 0)) ↔ (n ≤ 32)
  pub scaled_patrols : (n : ℕ) → IsGame (on_targets (letters 1) n (pos 1)) ↔ (n ≤ 200)
  -- a scale of at most 2^32, where 0 is none
  pub scales : (n : ℕ) → IsGame (on_targets (letters 1) 1 (pos n)) ↔ (n ≤ 2 ^ 32)
  -- priors from 1 to 2^20, and payoffs from -2^30 to 2^30
  pub priors : (n : ℕ) → IsGame (on_one n plain) ↔ ((1 ≤ n) × (n ≤ 2 ^ 20))
  pub payoffs : (p : Payoff) → IsGame (on_one 1 p) ↔ (IsInRange p.dc × IsInRange p.du × IsInRange p.ac × IsInRange p.au)
  -- one to eight types
  pub types : (names : List (List ℕ)) → AreNames names → IsGame (against names (letters 1) 1) ↔ ((1 ≤ length names) × (length names ≤ 8))
  -- eight types on 154 targets leave room for three patrols under 1,536 rows of a linear program
  pub program : (names : List (List ℕ)) → AreNames names → length names ≡ 154 → (n : ℕ) → IsGame (against (letters 8) names n) ↔ (n ≤ 3)
  -- at most 500 schedules, and at most 32 resources
  pub schedules : (names : List (List ℕ)) → AreNames names → IsGame (scheduled names []) ↔ (length names ≤ 500)
  pub resources : (names : List (List ℕ)) → AreNames names → IsGame (scheduled (letters 1) names) ↔ (length names ≤ 32)
  -- one to 4,096 rows, and one to 64 actions
  pub rows : (names : List (List ℕ)) → AreNames names → IsGame (on_rows names (letters 1)) ↔ ((1 ≤ length names) × (length names ≤ 4096))
  pub actions : (names : List (List ℕ)) → AreNames names → IsGame (on_rows (letters 1) names) ↔ ((1 ≤ length names) × (length names ≤ 64))
