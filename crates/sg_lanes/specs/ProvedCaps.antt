-- The cap of a type, once all its nodes are worked.
use Rattle.std.specs.Prelude.{◌≡◌, ◌≢◌, ℕ, List, [], length, ℤ, pos, ◌*ℤ◌, ◌≤ℤ◌, Option, Some, None}
use Rattle.sg_model.specs.Games.{Game, action_count, attacker}
use Rattle.sg_model.specs.declared.limit.TheConstants.{PAYOFF_LIMIT}
use Rattle.sg_num.specs.Exact.{Fits}
use Rattle.sg_tree.specs.declared.fact.Fact.{Fact}
use Rattle.sg_tree.specs.declared.report.Cap.{Cap}
use Rattle.sg_tree.specs.declared.worked.Worked.{Worked}
use Rattle.sg_bounds.specs.Caps.{IsUnderCap}
use Rattle.sg_bounds.specs.Facts.{rho_of}
use Rattle.sg_search.specs.Searches.{Search}
use Rattle.sg_search.specs.Bounding.{cap_at, cap_facts}

-- a search of which the worked nodes alone are told: facts, caps and the bounds of prefixes are read off these
abbrev pub only_worked : List Worked → Search
only_worked ws = record { lanes = []; splits = []; worked = ws; stuck = [] }

-- the facts of a type's cap nodes, where all are worked
abbrev pub AreAllFacts : Game → Search → ℕ → Option (List Fact) → Type 0
AreAllFacts g s l None = length (cap_facts g s l) ≢ action_count g l
AreAllFacts g s l (Some fs) = (length (cap_facts g s l) ≡ action_count g l) × (fs ≡ cap_facts g s l)

-- the cap of a type, where all its nodes are worked
abbrev pub IsProvedCap : Game → Search → ℕ → Option Cap → Type 0
IsProvedCap g s l None = length (cap_facts g s l) ≢ action_count g l
IsProvedCap g s l (Some c) = (length (cap_facts g s l) ≡ action_count g l) × (c ≡ cap_at g s l)

-- a fact of a type's cap node: its multiplier times the prior fits 128 bits, and its bound is within what a payoff can be
pub record IsCapFact (g : Game) (l : ℕ) (f : Fact) : Type 0 where
  pub rho : pos 1 ≤ℤ rho_of f
  pub fits : Fits (rho_of f *ℤ (attacker g l).prior)
  pub under : IsUnderCap g l PAYOFF_LIMIT f
