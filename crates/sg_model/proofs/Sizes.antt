-- The lists of a game file's game are short, and so are the counts that are read from them.
use Rattle.std.proofs.Common.{◌≡◌, ℕ, ◌+◌, ◌<◌, ◌≤◌, ◌^◌, Bool, true, false, cond, List, [], length, ap, refl, arith, inl, inr, Option, Some, None, IfSome, MatchBool}
use Rattle.std.specs.List.{All}
use Rattle.std.proofs.lemmas.List.{get_or_default}
use Rattle.std.proofs.lemmas.List.Elements.{All-nil, All-weaker}
use Rattle.sg_model.specs.Sums.{nth, numbers}
use Rattle.sg_model.specs.Games.{Attacker, Game, Named, action_count, attacker, is_matrix, nobody, resource_count, resource_schedules, schedule_count, unnamed}
use Rattle.sg_model.specs.Plays.{IsLegal, IsLegalJoint, IsRow}
use Rattle.sg_model.specs.Limits.{AreMembers, IsDefended, IsGame, IsMatrixType, IsSecurityType, is_scaled}
use Rattle.sg_model.specs.GameLaws.{HasShortLists, HasShortTables, HasSmallCounts, IsShort}
use Rattle.sg_model.proofs.Numbers.{length-numbers_from}
use Rattle.sg_model.proofs.Promises.{All-none, game_cases, nth-or}

below-either : (b : Bool) (k x y m : ℕ) → k ≤ cond b x y → x < m → y < m → k < m
below-either true k x y m h p q = omega arith
below-either false k x y m h p q = omega arith

cond-below : (b : Bool) (x y m : ℕ) → x < m → y < m → cond b x y < m
cond-below true x y m p q = p
cond-below false x y m p q = q

none-short : {X : Type 0} (xs : List X) → xs ≡ [] → IsShort xs
none-short xs e = omega (arith, ap length e)

abbrev ShortMembers : Named → Type 0
ShortMembers x = IsShort x.members

-- what defends a game
record HasShortDefence (g : Game) (o : Option ℕ) : Type 0 where
  schedules : IsShort g.schedules
  schedule_members : All ShortMembers g.schedules
  resources : IsShort g.resources
  resource_members : All ShortMembers g.resources
  patrols : IfSome o (λ n. n < 2 ^ 16)

defence : (g : Game) (patrols : Option ℕ) → IsDefended g patrols → HasShortDefence g patrols
defence g (Some n) h = record {
  schedules = none-short g.schedules h.no_schedules;
  schedule_members = All-none ShortMembers g.schedules h.no_schedules;
  resources = none-short g.resources h.no_resources;
  resource_members = All-none ShortMembers g.resources h.no_resources;
  patrols = below-either (is_scaled g) n 200 32 (2 ^ 16) h.few (omega arith) (omega arith);
}
defence g None h = record {
  schedules = omega (arith, h.schedules.few);
  schedule_members = All-weaker (λ (x : Named). AreMembers (length g.goals) 200 x.members) ShortMembers (λ x is. omega (arith, is.size.at_most)) g.schedules h.schedules.members;
  resources = omega (arith, h.resources.few);
  resource_members = All-weaker (λ (x : Named). AreMembers (length g.schedules) 500 x.members) ShortMembers (λ x is. omega (arith, is.size.at_most)) g.resources h.resources.members;
  patrols = tt;
}

security-tables : (goals : ℕ) → goals < 2 ^ 16 → (x : Attacker) → IsSecurityType goals x → HasShortTables x
security-tables goals h x is = record {
  payoffs = omega (arith, is.one_each);
  actions = none-short x.actions is.no_actions;
  leader = none-short x.leader is.no_leader;
  leader_rows = All-none IsShort x.leader is.no_leader;
  follower = none-short x.follower is.no_follower;
  follower_rows = All-none IsShort x.follower is.no_follower;
}

matrix-tables : (rows : ℕ) → rows < 2 ^ 16 → (x : Attacker) → IsMatrixType rows x → HasShortTables x
matrix-tables rows h x is = record {
  payoffs = none-short x.payoffs is.no_payoffs;
  actions = omega (arith, is.action_count.at_most);
  leader = omega (arith, is.leader.rows);
  leader_rows = λ i d lt. omega (arith, is.leader.columns i d lt, is.action_count.at_most);
  follower = omega (arith, is.follower.rows);
  follower_rows = λ i d lt. omega (arith, is.follower.columns i d lt, is.action_count.at_most);
}

pub short_lists : (g : Game) → IsGame g → HasShortLists g
short_lists g h = elim (game_cases g h) [
  | inl s ↦ (
      let d = defence g g.patrols s.game.defended in
      let goals = below-either (is_scaled g) (length g.goals) 10000 200 (2 ^ 16) s.game.target_count.at_most (omega arith) (omega arith) in
      record {
        goals = goals;
        schedules = d.schedules;
        schedule_members = d.schedule_members;
        resources = d.resources;
        resource_members = d.resource_members;
        types = omega (arith, s.game.types.count.at_most);
        tables = All-weaker (IsSecurityType (length g.goals)) HasShortTables (security-tables (length g.goals) goals) g.types s.game.each_type;
        patrols = d.patrols;
      })
  | inr m ↦ (
      let goals : length g.goals < 2 ^ 16 = omega (arith, m.game.row_count.at_most) in
      record {
        goals = goals;
        schedules = none-short g.schedules m.game.no_schedules;
        schedule_members = All-none ShortMembers g.schedules m.game.no_schedules;
        resources = none-short g.resources m.game.no_resources;
        resource_members = All-none ShortMembers g.resources m.game.no_resources;
        types = omega (arith, m.game.types.count.at_most);
        tables = All-weaker (IsMatrixType (length g.goals)) HasShortTables (matrix-tables (length g.goals) goals) g.types m.game.each_type;
        patrols = ap-none g.patrols m.game.no_patrols;
      })
]
  where
    ap-none : (o : Option ℕ) → o ≡ None → IfSome o (λ n. n < 2 ^ 16)
    ap-none o e = rw e tt

-- by whether there are patrols
patrol_cases : (g : Game) (P : Type 0) → ((n : ℕ) → g.patrols ≡ Some n → P) → (g.patrols ≡ None → P) → P
patrol_cases g P p q = elim g.patrols as (λ (o : Option ℕ). g.patrols ≡ o → P) [ Some n ↦ (λ e. p n e) | None ↦ (λ e. q e) ] refl

resources-small : (g : Game) → HasShortLists g → resource_count g < 2 ^ 16
resources-small g s =
    patrol_cases g (resource_count g < 2 ^ 16)
    (λ n e. let is : resource_count g ≡ n = rw e refl in let low : n < 2 ^ 16 = rw e at s.patrols in omega (arith, is, low))
    (λ e. let is : resource_count g ≡ length g.resources = rw e refl in omega (arith, is, s.resources))

schedules-small : (g : Game) → HasShortLists g → schedule_count g < 2 ^ 16
schedules-small g s =
    patrol_cases g (schedule_count g < 2 ^ 16)
    (λ n e. let is : schedule_count g ≡ length g.goals = rw e refl in omega (arith, is, s.goals))
    (λ e. let is : schedule_count g ≡ length g.schedules = rw e refl in omega (arith, is, s.schedules))

choices-small : (g : Game) → HasShortLists g → (r : ℕ) → length (resource_schedules g r) < 2 ^ 16
choices-small g s r =
    patrol_cases g (length (resource_schedules g r) < 2 ^ 16)
    (λ n e. let is : resource_schedules g r ≡ numbers (length g.goals) = rw e refl in omega (arith, ap length is, length-numbers_from 1 (length g.goals), s.goals))
    (λ e. let is : resource_schedules g r ≡ (nth g.resources r unnamed).members = rw e refl in
    omega (arith, ap length is, nth-or ShortMembers g.resources unnamed (omega arith) s.resource_members r))

no_tables : HasShortTables nobody
no_tables = record { payoffs = omega arith; actions = omega arith; leader = omega arith; leader_rows = All-nil IsShort; follower = omega arith; follower_rows = All-nil IsShort }

actions-small : (g : Game) → HasShortLists g → (l : ℕ) → action_count g l < 2 ^ 16
actions-small g s l = cond-below (is_matrix g) (length (attacker g l).actions) (length g.goals) (2 ^ 16) (nth-or HasShortTables g.types nobody no_tables s.tables l).actions s.goals

abbrev SmallPlay : List ℕ → Type 0
SmallPlay play = IsShort play × All (λ c. c < 2 ^ 16) play

row-small : (g : Game) → HasShortLists g → (play : List ℕ) → IsRow g play → SmallPlay play
row-small g s play is = (
  omega (arith, is.one),
  λ i d lt. let first : i ≡ 0 = omega (arith, lt, is.one) in rw first (omega (arith, get_or_default play 0 d 0 (omega (arith, is.one)), is.in_list, s.goals)),
)

joint-small : (g : Game) → HasShortLists g → (play : List ℕ) → IsLegalJoint g play → SmallPlay play
joint-small g s play is = (
  omega (arith, is.one_each, resources-small g s),
  λ i d lt. omega (arith, get_or_default play i d 0 lt, is.in_list i lt, choices-small g s (i + 1)),
)

legal-small : (g : Game) → HasShortLists g → (play : List ℕ) → IsLegal g play → SmallPlay play
legal-small g s play = elim (is_matrix g) as (λ (b : Bool). MatchBool b (IsRow g play) (IsLegalJoint g play) → SmallPlay play) [ true ↦ row-small g s play | false ↦ joint-small g s play ]

pub small_counts : (g : Game) → HasShortLists g → HasSmallCounts g
small_counts g s = record { resources = resources-small g s; schedules = schedules-small g s; actions = actions-small g s; plays = legal-small g s }
