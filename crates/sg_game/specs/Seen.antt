-- The game that parts describe.
use Rattle.std.specs.Prelude.{ℕ, List, map, ℤ, pos, negsuc, String, string_bytes, option_map, unwrap_or, slice_index_or, Vec}
use Rattle.std.specs.declared.alloc.Global.{Global}
use Rattle.sg_model.specs.Games.{Payoff, Attacker, Named, Game, payoff_of}
use Rattle.sg_model.specs.Sums.{positive_part}
use Rattle.sg_game.specs.declared.parts.Parts.{Parts}
use Rattle.sg_game.specs.declared.parts.ListParts.{ListParts}
use Rattle.sg_game.specs.declared.parts.TypeParts.{TypeParts}

-- texts as lists of bytes
abbrev pub texts : List (String Global) → List (List ℕ)
texts names = map string_bytes names

-- lists of numbers
abbrev pub number_lists : List (Vec ℤ Global) → List (List ℤ)
number_lists lists = map (λ (v : Vec ℤ Global). v.items) lists

-- a schedule or a resource
abbrev pub named_of : ListParts → Named
named_of x = record { name = string_bytes x.name; members = x.members.items }

-- a type of attacker
abbrev pub attacker_of : TypeParts → Attacker
attacker_of x = record {
  name = string_bytes x.name;
  prior = x.prior;
  payoffs = map payoff_of (number_lists x.payoffs.items);
  actions = texts x.actions.items;
  leader = number_lists x.leader.items;
  follower = number_lists x.follower.items;
}

-- the game of these parts
abbrev pub game_of : Parts → Game
game_of p = record {
  kind = p.kind;
  scale = unwrap_or p.scale (pos 0);
  patrols = option_map positive_part p.patrols;
  goals = texts p.goals.items;
  schedules = map named_of p.schedules.items;
  resources = map named_of p.resources.items;
  types = map attacker_of p.types.items;
}
