-- Names with their numbers, and numbers that were there.
use Rattle.std.specs.Prelude.{◌≡◌, ◌==◌, ℕ, List, String}
use Rattle.std.specs.List.{list_any}
use Rattle.std.specs.Ordering.{nat_cmp}
use Rattle.std.specs.BTreeSet.{BTreeSet, contains}
use Rattle.std.specs.BTreeMap.{BTreeMap, get_by_text}
use Rattle.std.specs.declared.alloc.Global.{Global}
use Rattle.sg_format.specs.Lists.{number_of}

-- the map has the names, each with its number counted from 1
abbrev pub Numbers : BTreeMap (String Global) ℕ → List (List ℕ) → Type 0
Numbers index names = (name : List ℕ) → get_by_text index name ≡ number_of name names

-- the set has the numbers
abbrev pub Marks : BTreeSet ℕ → List ℕ → Type 0
Marks seen numbers = (number : ℕ) → contains nat_cmp seen number ≡ list_any (λ other. other == number) numbers
