-- What the promises of a game file give.
use Rattle.std.specs.Prelude.{◌≡◌, ℕ, ◌<◌, ◌^◌, true, List, length, IfSome, All}
use Rattle.sg_model.specs.Games.{Attacker, Game, Named, action_count, payoff, resource_count, schedule_count}
use Rattle.sg_model.specs.Plays.{IsLegal, pay_d, pay_a}
use Rattle.sg_model.specs.Payoffs.{IsPeopled}
use Rattle.sg_model.specs.Origami.{IsOrigami}
use Rattle.sg_model.specs.Limits.{IsGame, IsPay, IsPayoff, is_scaled}

-- a list of fewer than 2^16 items
abbrev pub IsShort : {X : Type 0} → List X → Type 0
IsShort xs = length xs < 2 ^ 16

-- the lists of a type of attacker are short
pub record HasShortTables (x : Attacker) : Type 0 where
  pub payoffs : IsShort x.payoffs
  pub actions : IsShort x.actions
  pub leader : IsShort x.leader
  pub leader_rows : All IsShort x.leader
  pub follower : IsShort x.follower
  pub follower_rows : All IsShort x.follower

-- all lists of a game are short, so that 16 bits count their items
pub record HasShortLists (g : Game) : Type 0 where
  pub goals : IsShort g.goals
  pub schedules : IsShort g.schedules
  pub schedule_members : All (λ (x : Named). IsShort x.members) g.schedules
  pub resources : IsShort g.resources
  pub resource_members : All (λ (x : Named). IsShort x.members) g.resources
  pub types : IsShort g.types
  pub tables : All HasShortTables g.types
  pub patrols : IfSome g.patrols (λ n. n < 2 ^ 16)

-- so are the counts that are read from them
pub record HasSmallCounts (g : Game) : Type 0 where
  pub resources : resource_count g < 2 ^ 16
  pub schedules : schedule_count g < 2 ^ 16
  pub actions : (l : ℕ) → action_count g l < 2 ^ 16
  pub plays : (play : List ℕ) → IsLegal g play → IsShort play × All (λ c. c < 2 ^ 16) play

-- all payoffs are from -2^30 to 2^30, whatever is played and attacked, even beyond the tables
pub record HasPayoffsInRange (g : Game) : Type 0 where
  pub listed : (l t : ℕ) → IsPayoff (payoff g l t)
  pub defender : (l : ℕ) (play : List ℕ) (a : ℕ) → IsPay (pay_d g l play a)
  pub attacker : (l : ℕ) (play : List ℕ) (a : ℕ) → IsPay (pay_a g l play a)

-- there is a type, each type has an action, and each prior is at least 1
abbrev pub GameIsPeopled : Type 0
GameIsPeopled = (g : Game) → IsGame g → IsPeopled g

-- a declared scale means identical patrols and one attacker, with gaps that divide the scale
abbrev pub ScaleMeansOrigami : Type 0
ScaleMeansOrigami = (g : Game) → IsGame g → is_scaled g ≡ true → IsOrigami g

-- all lists are short, and all counts small
abbrev pub GameIsSmall : Type 0
GameIsSmall = (g : Game) → IsGame g → HasShortLists g × HasSmallCounts g

-- all payoffs are in range
abbrev pub PayoffsAreInRange : Type 0
PayoffsAreInRange = (g : Game) → IsGame g → HasPayoffsInRange g
