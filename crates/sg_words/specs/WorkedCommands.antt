-- Words of the program's own commands with numbers, as worked out by hand.
use Rattle.std.specs.Prelude.{◌≡◌, ℕ, List, [], ◌∷◌, Option, Some, None, codes}
use Rattle.sg_words.specs.Words.{Text}
use Rattle.sg_options.specs.declared.budget.Budget.{Budget}
use Rattle.sg_options.specs.declared.order.Order.{Order}
use Rattle.sg_options.specs.declared.order.Choice.TheVariants.{Auto, Listed}
use Rattle.sg_options.specs.declared.order.Walk.TheVariants.{Best, File, Seeded}
use Rattle.sg_words.specs.Commands.{Asked, command_given, make, roster, solve}

-- what words behind `roster` ask for
abbrev pub rostered : List Text → Option Asked
rostered words = command_given (codes "roster" ∷ words)

-- the roster of the report `r` on the game `g`, by this seed
abbrev pub by_seed : ℕ → Option Asked
by_seed seed = Some (roster (codes "g") (codes "r") seed)

-- seeds that are given, at their ends too, and words that give no command
pub record WorkedRosters : Type 0 where
  pub default : rostered (codes "g" ∷ codes "r" ∷ []) ≡ by_seed 0
  pub apart : rostered (codes "g" ∷ codes "--seed" ∷ codes "7" ∷ codes "r" ∷ []) ≡ by_seed 7
  pub joined : rostered (codes "--seed=12" ∷ codes "g" ∷ codes "r" ∷ []) ≡ by_seed 12
  pub least : rostered (codes "g" ∷ codes "r" ∷ codes "--seed=0" ∷ []) ≡ by_seed 0
  pub greatest : rostered (codes "g" ∷ codes "r" ∷ codes "--seed" ∷ codes "18446744073709551615" ∷ []) ≡ by_seed 18446744073709551615
  pub past : rostered (codes "g" ∷ codes "r" ∷ codes "--seed" ∷ codes "18446744073709551616" ∷ []) ≡ None
  pub signed : rostered (codes "g" ∷ codes "r" ∷ codes "--seed" ∷ codes "-1" ∷ []) ≡ None
  pub leading_zero : rostered (codes "g" ∷ codes "r" ∷ codes "--seed" ∷ codes "01" ∷ []) ≡ None
  pub empty : rostered (codes "g" ∷ codes "r" ∷ codes "--seed=" ∷ []) ≡ None
  pub twice : rostered (codes "g" ∷ codes "r" ∷ codes "--seed=3" ∷ codes "--seed=3" ∷ []) ≡ None
  pub front : rostered (codes "g" ∷ codes "r" ∷ codes "--see" ∷ codes "3" ∷ []) ≡ None
  pub few : rostered (codes "g" ∷ codes "--seed=3" ∷ []) ≡ None

-- what words behind `make` ask for
abbrev pub made : List Text → Option Asked
made words = command_given (codes "make" ∷ words)

-- seeds of generated games; what the first word spells is not judged here
pub record WorkedMakes : Type 0 where
  pub least : made (codes "free-1-0" ∷ codes "0" ∷ []) ≡ Some (make (codes "free-1-0") 0)
  pub greatest : made (codes "free-1-0" ∷ codes "18446744073709551615" ∷ []) ≡ Some (make (codes "free-1-0") 18446744073709551615)
  pub any_text : made (codes "" ∷ codes "7" ∷ []) ≡ Some (make (codes "") 7)
  pub past : made (codes "free-1-0" ∷ codes "18446744073709551616" ∷ []) ≡ None
  pub leading_zero : made (codes "free-1-0" ∷ codes "01" ∷ []) ≡ None
  pub empty : made (codes "free-1-0" ∷ codes "" ∷ []) ≡ None
  pub signed : made (codes "free-1-0" ∷ codes "-1" ∷ []) ≡ None
  pub signed_behind : made (codes "free-1-0" ∷ codes "--" ∷ codes "-1" ∷ []) ≡ None
  pub few : made (codes "free-1-0" ∷ []) ≡ None
  pub many : made (codes "free-1-0" ∷ codes "1" ∷ codes "2" ∷ []) ≡ None
  pub option : made (codes "free-1-0" ∷ codes "--seed" ∷ codes "1" ∷ []) ≡ None

-- what words behind `solve` ask for
abbrev pub solved : List Text → Option Asked
solved words = command_given (codes "solve" ∷ words)

-- the budget and the order where no option is given
abbrev pub usual_budget : Budget
usual_budget = record { nodes = 100000; pivots = 100000; looks = 100000000 }

abbrev pub usual_order : Order
usual_order = record { walk = File; lanes = 1; seed = 0; family = Auto }

-- the game `g` solved with this budget in this order
abbrev pub by_search : Budget → Order → Option Asked
by_search budget order = Some (solve (codes "g") budget order)

-- each option of a search, at its ends too, and words that give no command
pub record WorkedSolves : Type 0 where
  pub default : solved (codes "g" ∷ []) ≡ by_search usual_budget usual_order
  pub nodes : solved (codes "g" ∷ codes "--nodes=7" ∷ []) ≡ by_search (record usual_budget { nodes = 7 }) usual_order
  pub most_nodes : solved (codes "--nodes" ∷ codes "1000000" ∷ codes "g" ∷ []) ≡ by_search (record usual_budget { nodes = 1000000 }) usual_order
  pub no_nodes : solved (codes "g" ∷ codes "--nodes=0" ∷ []) ≡ None
  pub past_nodes : solved (codes "g" ∷ codes "--nodes=1000001" ∷ []) ≡ None
  pub pivots : solved (codes "g" ∷ codes "--pivots=1" ∷ []) ≡ by_search (record usual_budget { pivots = 1 }) usual_order
  pub most_pivots : solved (codes "g" ∷ codes "--pivots=1000000000" ∷ []) ≡ by_search (record usual_budget { pivots = 1000000000 }) usual_order
  pub no_pivots : solved (codes "g" ∷ codes "--pivots=0" ∷ []) ≡ None
  pub past_pivots : solved (codes "g" ∷ codes "--pivots=1000000001" ∷ []) ≡ None
  pub looks : solved (codes "g" ∷ codes "--looks=1" ∷ []) ≡ by_search (record usual_budget { looks = 1 }) usual_order
  pub most_looks : solved (codes "g" ∷ codes "--looks=1000000000000000000" ∷ []) ≡ by_search (record usual_budget { looks = 1000000000000000000 }) usual_order
  pub no_looks : solved (codes "g" ∷ codes "--looks=0" ∷ []) ≡ None
  pub past_looks : solved (codes "g" ∷ codes "--looks=1000000000000000001" ∷ []) ≡ None
  pub listed : solved (codes "g" ∷ codes "--family=listed" ∷ []) ≡ by_search usual_budget (record usual_order { family = Listed })
  pub automatic : solved (codes "g" ∷ codes "--family" ∷ codes "auto" ∷ []) ≡ by_search usual_budget usual_order
  pub other_family : solved (codes "g" ∷ codes "--family=list" ∷ []) ≡ None
  pub in_file_order : solved (codes "g" ∷ codes "--order=file" ∷ []) ≡ by_search usual_budget usual_order
  pub best_first : solved (codes "g" ∷ codes "--order=best" ∷ []) ≡ by_search usual_budget (record usual_order { walk = Best })
  pub seeded : solved (codes "g" ∷ codes "--order=seeded" ∷ codes "--seed=5" ∷ []) ≡ by_search usual_budget (record usual_order { walk = Seeded; seed = 5 })
  pub other_order : solved (codes "g" ∷ codes "--order=first" ∷ []) ≡ None
  pub lanes : solved (codes "g" ∷ codes "--lanes=8" ∷ []) ≡ by_search usual_budget (record usual_order { lanes = 8 })
  pub no_lanes : solved (codes "g" ∷ codes "--lanes=0" ∷ []) ≡ None
  pub past_lanes : solved (codes "g" ∷ codes "--lanes=9" ∷ []) ≡ None
  pub twice : solved (codes "g" ∷ codes "--lanes=2" ∷ codes "--lanes=2" ∷ []) ≡ None
  pub no_game : solved (codes "--lanes=2" ∷ []) ≡ None
  pub two_games : solved (codes "g" ∷ codes "h" ∷ []) ≡ None
