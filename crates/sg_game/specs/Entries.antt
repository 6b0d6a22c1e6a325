-- Where entries stand, and the names that a set holds.
use Rattle.std.specs.Prelude.{◌≡◌, ℕ, List, String, bytes_eq}
use Rattle.std.specs.List.{list_any}
use Rattle.std.specs.BTreeSet.{BTreeSet, contains_text}
use Rattle.std.specs.declared.alloc.Global.{Global}
use Rattle.sg_model.specs.declared.fault.Place.{Place}
use Rattle.sg_model.specs.declared.fault.Place.TheVariants.{Target, Row, Schedule, Resource, Attacker}
use Rattle.sg_game.specs.declared.entries.Listing.{Listing}
use Rattle.sg_game.specs.declared.entries.Listing.TheVariants.{Targets, Rows, Schedules, Resources, Types, Actions}

-- where entry n of a list stands
abbrev pub place_of : Listing → ℕ → Place
place_of Targets n = Target n
place_of Rows n = Row n
place_of Schedules n = Schedule n
place_of Resources n = Resource n
place_of Types n = Attacker n
place_of (Actions l) n = Attacker l

-- the set holds exactly these names
abbrev pub Holds : BTreeSet (String Global) → List (List ℕ) → Type 0
Holds seen names = (q : List ℕ) → contains_text seen q ≡ list_any (λ known. bytes_eq known q) names
