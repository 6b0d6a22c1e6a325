-- A list in which one part of one entry breaks its rule is refused for it.
use Rattle.std.proofs.Common.{◌≡◌, ◌≢◌, ℕ, suc, ◌+◌, Bool, List, [], ◌∷◌, length, map, take, get_or, Some, Result, Ok}
use Rattle.std.specs.Prelude.{if◌then◌else◌}
use Rattle.std.specs.List.{AllPairs}
use Rattle.toml.specs.Data.{Data, array}
use Rattle.sg_model.specs.declared.fault.Place.{Place}
use Rattle.sg_model.specs.declared.fault.Place.TheVariants as place_of
use Rattle.sg_model.specs.declared.fault.GameFault.{GameFault}
use Rattle.sg_model.specs.Sums.{nth}
use Rattle.sg_model.specs.Games.{Attacker, Named, nobody, unnamed}
use Rattle.sg_model.specs.Steps.{◌>>=◌}
use Rattle.sg_format.specs.Steps.{refused}
use Rattle.sg_format.specs.Lists.{each, few_at, named_at, named_lists_at, some_at}
use Rattle.sg_format.specs.Types.{matrix_type_at, matrix_types_at, security_type_at, security_types_at}
use Rattle.sg_format.specs.Parts.{Agrees, at_number, Group, NamedPart, TypePart, before, matrix_type_rule, members_key, named_path, named_rule, names_of, security_type_rule, type_path}
use Rattle.sg_format.proofs.Inversion.{after}
use Rattle.sg_format.proofs.Broken.{reason_of}
use Rattle.sg_format.proofs.Entries.{entry_at, few_is, few_other, some_is, some_other}
use Rattle.sg_format.proofs.Parted.{front_is, only, place_is}
use Rattle.sg_format.proofs.Tables.{named_part_fails}
use Rattle.sg_format.proofs.SecurityTables.{security_part_fails}
use Rattle.sg_format.proofs.MatrixTables.{matrix_part_fails}

-- the item at a number is the one at its index
nth_at : {X : Type 0} (xs : List X) (n k : ℕ) (d x : X) → n ≡ suc k → get_or xs k d ≡ x → nth xs n d ≡ x
nth_at xs n k d x e there = rw e there

pub security_entry_fails : (scaled : Bool) (targets : ℕ) (first second : Data) (xs : List Attacker) (n : ℕ) (part : TypePart) (value : Data) (r : ℕ)
    → security_types_at scaled targets first ≡ Ok xs → Agrees (at_number n ∷ type_path part) value (Some first) second
    → reason_of (security_type_rule scaled targets (map (λ (x : Attacker). x.name) (before n xs)) part) value ≡ Some r → security_types_at scaled targets second ≡ refused r (place_of.Attacker n)
unfolding security_types_at
security_entry_fails scaled targets first second xs n part value r h c e =
    let limit : ℕ = if scaled then 1 else 8 in
    let read : List Attacker → Data → Result Attacker GameFault = λ others. security_type_at (place_of.Attacker (length others + 1)) scaled targets others in
    let was : first ≡ array c.old = only first (array c.old) c.was in
    let start : (some_at place_of.Document limit (array c.old) >>= (λ items. each read [] items)) ≡ Ok xs = rw was at h in
    after (some_at place_of.Document limit (array c.old)) start (λ found e1 rest.
    let whole_is : each read [] c.old ≡ Ok xs = rw (some_is place_of.Document limit c.old found e1) at rest in
    let entry = entry_at read c.old xs c.index c.entry whole_is c.there in
    let place = place_of.Attacker (length (take c.index xs) + 1) in
    let broken = security_part_fails place scaled targets (take c.index xs) c.entry c.value entry.value part value r entry.is c.agree (rw (front_is xs n c.index c.number) at e) in
    let f = entry.fails c.new c.value (record { reason = r; place = place }) c.earlier c.here broken in
    let is = c.is in
    let set = some_other place_of.Document limit c.old c.new found c.size e1 in
    let there : length (take c.index xs) + 1 ≡ n = place_is xs n c.index entry.within c.number in
    let last : security_types_at scaled targets second ≡ refused r place = rw (is, set) f in
    rw there at last)

pub matrix_entry_fails : (rows : ℕ) (first second : Data) (xs : List Attacker) (n : ℕ) (part : TypePart) (value : Data) (r : ℕ)
    → matrix_types_at rows first ≡ Ok xs → Agrees (at_number n ∷ type_path part) value (Some first) second
    → reason_of (matrix_type_rule rows (nth xs n nobody).actions (map (λ (x : Attacker). x.name) (before n xs)) part) value ≡ Some r → matrix_types_at rows second ≡ refused r (place_of.Attacker n)
unfolding matrix_types_at
matrix_entry_fails rows first second xs n part value r h c e =
    let read : List Attacker → Data → Result Attacker GameFault = λ others. matrix_type_at (place_of.Attacker (length others + 1)) rows others in
    let was : first ≡ array c.old = only first (array c.old) c.was in
    let start : (some_at place_of.Document 8 (array c.old) >>= (λ items. each read [] items)) ≡ Ok xs = rw was at h in
    after (some_at place_of.Document 8 (array c.old)) start (λ found e1 rest.
    let whole_is : each read [] c.old ≡ Ok xs = rw (some_is place_of.Document 8 c.old found e1) at rest in
    let entry = entry_at read c.old xs c.index c.entry whole_is c.there in
    let place = place_of.Attacker (length (take c.index xs) + 1) in
    let own = nth_at xs n c.index nobody entry.value c.number (entry.there nobody) in
    let broken = matrix_part_fails place rows (take c.index xs) c.entry c.value entry.value part value r entry.is c.agree (rw (own, front_is xs n c.index c.number) at e) in
    let f = entry.fails c.new c.value (record { reason = r; place = place }) c.earlier c.here broken in
    let is = c.is in
    let set = some_other place_of.Document 8 c.old c.new found c.size e1 in
    let there : length (take c.index xs) + 1 ≡ n = place_is xs n c.index entry.within c.number in
    let last : matrix_types_at rows second ≡ refused r place = rw (is, set) f in
    rw there at last)

pub named_entry_fails : (place : ℕ → Place) (group : Group) (known : List (List ℕ)) (limit members_limit : ℕ) (first second : Data) (xs : List Named) (n : ℕ) (part : NamedPart) (value : Data) (r : ℕ)
    → AllPairs (λ x y. x ≢ y) known → named_lists_at place (members_key group) known limit members_limit first ≡ Ok xs → Agrees (at_number n ∷ named_path group part) value (Some first) second
    → reason_of (named_rule (members_key group) members_limit known (nth xs n unnamed).members (names_of (before n xs)) part) value ≡ Some r
    → named_lists_at place (members_key group) known limit members_limit second ≡ refused r (place n)
unfolding named_lists_at
named_entry_fails place group known limit members_limit first second xs n part value r distinct h c e =
    let read : List Named → Data → Result Named GameFault = λ others. named_at (place (length others + 1)) (members_key group) known members_limit others in
    let was : first ≡ array c.old = only first (array c.old) c.was in
    let start : (few_at place_of.Document limit (array c.old) >>= (λ items. each read [] items)) ≡ Ok xs = rw was at h in
    after (few_at place_of.Document limit (array c.old)) start (λ found e1 rest.
    let whole_is : each read [] c.old ≡ Ok xs = rw (few_is place_of.Document limit c.old found e1) at rest in
    let entry = entry_at read c.old xs c.index c.entry whole_is c.there in
    let here = place (length (take c.index xs) + 1) in
    let own = nth_at xs n c.index unnamed entry.value c.number (entry.there unnamed) in
    let broken = named_part_fails here group known members_limit (take c.index xs) c.entry c.value entry.value part value r distinct entry.is c.agree (rw (own, front_is xs n c.index c.number) at e) in
    let f = entry.fails c.new c.value (record { reason = r; place = here }) c.earlier c.here broken in
    let is = c.is in
    let set = few_other place_of.Document limit c.old c.new found c.size e1 in
    let there : length (take c.index xs) + 1 ≡ n = place_is xs n c.index entry.within c.number in
    let last : named_lists_at place (members_key group) known limit members_limit second ≡ refused r here = rw (is, set) f in
    rw there at last)
