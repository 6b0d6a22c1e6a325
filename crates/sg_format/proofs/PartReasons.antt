-- For each reason, the values that break a rule for it.
use Rattle.std.proofs.Common.{◌≡◌, ◌≢◌, ◌⊎◌, ℕ, zero, suc, ◌<◌, ◌-◌, Bool, true, false, ◌&&◌, ◌||◌, ◌==◌, nat_le, nat_lt, int_le, List, [], ◌∷◌, length, map, take, get_or, ℤ, ◌<ℤ◌, Option, Some, None, is_some, refl, sym, ap, subst, ◌∙◌, arith, inl, inr}
use Rattle.std.specs.Prelude.{bytes_eq, codes, if◌then◌else◌}
use Rattle.std.specs.List.{All, Contains, list_any}
use Rattle.std.proofs.lemmas.Int.{ints}
use Rattle.std.proofs.lemmas.Bool.{cases_Bool, or_cases}
use Rattle.std.proofs.lemmas.Bool.Decides.{Decides-eqb, nat_tests}
use Rattle.std.proofs.lemmas.List.{length-map, take-map}
use Rattle.std.proofs.lemmas.List.Elements.{All-head, All-map, All-nil, All-tail, All-take, All-weaker}
use Rattle.std.proofs.lemmas.Slice.Eq.{bytes_eq-Decides}
use Rattle.toml.specs.Data.{Data, Items, Members, array, as_array, as_integer, as_str, as_table, get_member, integer, no_items, string, table}
use Rattle.sg_model.specs.declared.kind.Kind.{Kind}
use Rattle.sg_model.specs.declared.kind.Kind.TheVariants.{Security, Matrix}
use Rattle.sg_model.specs.Names.{AreNames, is_name}
use Rattle.sg_model.specs.Sums.{nth}
use Rattle.sg_model.specs.Games.{Attacker, Game, Named, nobody, unnamed}
use Rattle.sg_model.specs.Limits.{AreListed, AreMembers, IsCount, IsDefended, IsGame, IsMatrixGame, IsMatrixType, IsSecurityGame, is_scaled}
use Rattle.sg_model.specs.declared.reason.TheConstants.{MISSING_KEY, WRONG_KIND, UNKNOWN_KEY, EMPTY_LIST, UNKNOWN_NAME, REPEATED_NAME, OUT_OF_RANGE, TOO_LARGE}
use Rattle.sg_format.specs.Documents.{has_only}
use Rattle.sg_format.specs.Lists.{item_count}
use Rattle.sg_format.specs.Parts.{NamedPart, NamesPart, Part, PaysPart, Rule, TypePart, before, entries_exactly, few_entries, goals, grouped, groups, known_besides, listed_rule, matrix_rule, matrix_type_rule, members, members_rule, name, name_besides, named_rule, names, names_of, names_rule, no_rule, number_within, of_follower, of_leader, of_targets, own_name, part_rule, patrols, patrols_rule, pay, pay_row, pays, pays_rule, resources, rule_by, scale, schedules, security_type_rule, some_entries, table_with, type_actions, type_name, type_pays, type_prior, typed, types, types_before, whole_named, whole_type}
use Rattle.sg_format.specs.PartLaws.{EmptyPartIsRefused, LongPartIsRefused, MissingFieldIsRefused, OutOfRangeIsRefused, RepeatedNameIsRefused, UnknownFieldIsRefused, UnknownNameIsRefused, WrongKindIsRefused, is_of_kind, most_entries, names_before}
use Rattle.sg_format.proofs.Accepted.{game_of_table-game}
use Rattle.sg_format.proofs.Keys.{same, unknown_found}
use Rattle.sg_format.proofs.Shapes.{matrix_form, security_form}
use Rattle.sg_format.proofs.Broken.{asked, lacking, reason_of}
use Rattle.sg_format.proofs.PartFaults.{faulty_part}

other_kind : {A : Type 0} (o : Option A) (later : A → Option ℕ) → is_some o ≡ false → asked o WRONG_KIND later ≡ Some WRONG_KIND
other_kind None later e = refl
other_kind (Some x) later e = absurd (cc)

kind_reason : (rule : Rule) (value : Data) → is_of_kind rule value ≡ false → reason_of rule value ≡ Some WRONG_KIND
kind_reason no_rule value e = absurd (cc)
kind_reason (number_within low high) value e = other_kind (as_integer value) _ e
kind_reason (name_besides others) value e = other_kind (as_str value) _ e
kind_reason (known_besides known others) value e = other_kind (as_str value) _ e
kind_reason (few_entries limit) value e = other_kind (as_array value) _ e
kind_reason (some_entries limit) value e = other_kind (as_array value) _ e
kind_reason (entries_exactly n) value e = other_kind (as_array value) _ e
kind_reason (table_with keys) value e = other_kind (as_table value) _ e

pub wrong : WrongKindIsRefused
wrong first second g part value h d e = faulty_part first second g part value WRONG_KIND h d (kind_reason (part_rule g part) value e)

pub unknown_field : UnknownFieldIsRefused
unknown_field first second inner g part keys key value h d rule there unknown =
    let fails : has_only (λ k. list_any (bytes_eq k) keys) inner ≡ false = unknown_found (λ k. list_any (bytes_eq k) keys) key inner value there unknown in
    faulty_part first second g part (table inner) UNKNOWN_KEY h d (rw (rule, fails) refl)

lacks : (keys : List (List ℕ)) (key : List ℕ) (t : Members) → list_any (bytes_eq key) keys ≡ true → get_member key t ≡ None → lacking keys t ≡ Some MISSING_KEY
lacks [] key t known none = absurd (cc)
lacks (first ∷ keys) key t known none =
    elim (or_cases (bytes_eq key first) (list_any (bytes_eq key) keys) known) [
      | inl is ↦ (let gone : get_member first t ≡ None = ap (λ (k : List ℕ). get_member k t) (sym (same key first is)) ∙ none in rw gone refl)
      | inr later ↦ elim (cases_Bool (is_some (get_member first t))) [
        | inl here ↦ rw here (lacks keys key t later none)
        | inr gone ↦ rw gone refl
      ]
    ]

pub missing_field : MissingFieldIsRefused
missing_field first second inner g part keys key h d rule fine known none =
    let gone = lacks keys key inner known none in
    faulty_part first second g part (table inner) MISSING_KEY h d (rw (rule, fine) gone)

pub empty_part : EmptyPartIsRefused
empty_part first second g part limit h d rule = faulty_part first second g part (array no_items) EMPTY_LIST h d (rw rule refl)

long_reason : (rule : Rule) (limit : ℕ) (items : Items) → most_entries rule ≡ Some limit → limit < item_count items → reason_of rule (array items) ≡ Some TOO_LARGE
long_reason no_rule limit items e many = absurd (cc)
long_reason (number_within low high) limit items e many = absurd (cc)
long_reason (name_besides others) limit items e many = absurd (cc)
long_reason (known_besides known others) limit items e many = absurd (cc)
long_reason (few_entries n) limit items e many =
    let one : n ≡ limit = cc in
    let long : nat_le (item_count items) n ≡ false = rw one (grind (arith, nat_tests)) in
    rw long refl
long_reason (some_entries n) limit items e many =
    let one : n ≡ limit = cc in
    let some : nat_lt 0 (item_count items) ≡ true = grind (arith, nat_tests) in
    let long : nat_le (item_count items) n ≡ false = rw one (grind (arith, nat_tests)) in
    rw (some, long) refl
long_reason (entries_exactly n) limit items e many = absurd (cc)
long_reason (table_with keys) limit items e many = absurd (cc)

pub long_part : LongPartIsRefused
long_part first second g part limit items h d most many = faulty_part first second g part (array items) TOO_LARGE h d (long_reason (part_rule g part) limit items most many)

none_equal : (text : List ℕ) (known : List (List ℕ)) → All (λ other. text ≢ other) known → list_any (bytes_eq text) known ≡ false
none_equal text [] all = refl
none_equal text (first ∷ known) all =
    elim (cases_Bool (bytes_eq text first)) [
      | inl is ↦ absurd (All-head (λ other. text ≢ other) first known all (same text first is))
      | inr isnt ↦ (let rest = none_equal text known (All-tail (λ other. text ≢ other) first known all) in rw isnt rest)
    ]

pub unknown_name_is : UnknownNameIsRefused
unknown_name_is first second g part known others text h d rule all =
    let none = none_equal text known all in
    faulty_part first second g part (string text) UNKNOWN_NAME h d (rw (rule, none) refl)

any_at : (test : List ℕ → Bool) (xs : List (List ℕ)) (k : ℕ) (d : List ℕ) → k < length xs → test (get_or xs k d) ≡ true → list_any test xs ≡ true
any_at test [] k d within e = absurd (omega (arith, within))
any_at test (x ∷ xs) zero d within e = rw e refl
any_at test (x ∷ xs) (suc k) d within e =
    let rest = any_at test xs k d (omega (arith, within)) e in
    or_late (test x) (list_any test xs) rest
  where
    or_late : (a b : Bool) → b ≡ true → (a || b) ≡ true
    or_late true b h = refl
    or_late false b h = h

contains_any : (text : List ℕ) (xs : List (List ℕ)) → Contains xs text → list_any (bytes_eq text) xs ≡ true
contains_any text xs c = any_at (bytes_eq text) xs c.0 text c.1 ((bytes_eq-Decides text _).1 (sym c.2))

-- the names that stand before one would be right if they stood there alone
abbrev AreRight : Rule → Type 0
AreRight no_rule = Unit {0}
AreRight (number_within low high) = Unit {0}
AreRight (name_besides others) = All (λ text. is_name text ≡ true) others
AreRight (known_besides known others) = All (λ text. list_any (bytes_eq text) known ≡ true) others
AreRight (few_entries limit) = Unit {0}
AreRight (some_entries limit) = Unit {0}
AreRight (entries_exactly n) = Unit {0}
AreRight (table_with keys) = Unit {0}

names_right : (limit : ℕ) (all : List (List ℕ)) (part : NamesPart) → All (λ text. is_name text ≡ true) all → AreRight (names_rule limit all part)
names_right limit all names h = tt
names_right limit all (name n) h = All-take (λ text. is_name text ≡ true) (n - 1) all h

members_right : (limit : ℕ) (known : List (List ℕ)) (numbers : List ℕ) (part : NamesPart) → All (IsCount 1 (length known)) numbers → AreRight (members_rule limit known numbers part)
members_right limit known numbers names h = tt
members_right limit known numbers (name n) h =
    All-map (λ text. list_any (bytes_eq text) known ≡ true) (λ m. nth known m []) (take (n - 1) numbers)
    (λ k d within. known_one (get_or (take (n - 1) numbers) k d) (All-take (IsCount 1 (length known)) (n - 1) numbers h k d within))
  where
    known_one : (m : ℕ) → IsCount 1 (length known) m → list_any (bytes_eq (nth known m [])) known ≡ true
    known_one zero is = absurd (omega (arith, is.at_least))
    known_one (suc m) is = any_at (bytes_eq (get_or known m [])) known m [] (omega (arith, is.at_most)) ((bytes_eq-Decides (get_or known m []) (get_or known m [])).1 refl)

pays_right : (rows columns : ℕ) (part : PaysPart) → AreRight (pays_rule rows columns part)
pays_right rows columns pays = tt
pays_right rows columns (pay_row r) = tt
pays_right rows columns (pay r i) = tt

security_type_right : (scaled : Bool) (targets : ℕ) (others : List (List ℕ)) (part : TypePart) → All (λ text. is_name text ≡ true) others → AreRight (security_type_rule scaled targets others part)
security_type_right scaled targets others whole_type h = tt
security_type_right scaled targets others type_name h = h
security_type_right scaled targets others type_prior h = tt
security_type_right scaled targets others (type_actions part) h = tt
security_type_right scaled targets others (type_pays of_targets part) h = pays_right targets 4 part
security_type_right scaled targets others (type_pays of_leader part) h = tt
security_type_right scaled targets others (type_pays of_follower part) h = tt

matrix_type_right : (rows : ℕ) (actions others : List (List ℕ)) (part : TypePart) → All (λ text. is_name text ≡ true) actions → All (λ text. is_name text ≡ true) others
    → AreRight (matrix_type_rule rows actions others part)
matrix_type_right rows actions others whole_type a h = tt
matrix_type_right rows actions others type_name a h = h
matrix_type_right rows actions others type_prior a h = tt
matrix_type_right rows actions others (type_actions part) a h = names_right 64 actions part a
matrix_type_right rows actions others (type_pays of_targets part) a h = tt
matrix_type_right rows actions others (type_pays of_leader part) a h = pays_right rows (length actions) part
matrix_type_right rows actions others (type_pays of_follower part) a h = pays_right rows (length actions) part

named_right : (key : List ℕ) (limit : ℕ) (known : List (List ℕ)) (numbers : List ℕ) (others : List (List ℕ)) (part : NamedPart) → All (IsCount 1 (length known)) numbers
    → All (λ text. is_name text ≡ true) others → AreRight (named_rule key limit known numbers others part)
named_right key limit known numbers others whole_named a h = tt
named_right key limit known numbers others own_name a h = h
named_right key limit known numbers others (members part) a h = members_right limit known numbers part a

-- what holds of all items, and where there is none
at_all : {X : Type 0} (P : X → Type 0) (xs : List X) (n : ℕ) (d : X) → All P xs → P d → P (nth xs n d)
at_all P xs zero d all none = none
at_all P xs (suc k) d all none = at_index P xs k d all none
  where
    at_index : {X : Type 0} (P : X → Type 0) (xs : List X) (k : ℕ) (d : X) → All P xs → P d → P (get_or xs k d)
    at_index P [] k d all none = none
    at_index P (x ∷ xs) zero d all none = All-head P x xs all
    at_index P (x ∷ xs) (suc k) d all none = at_index P xs k d (All-tail P x xs all) none

types_right : (g : Game) (n : ℕ) → AreNames (map (λ (x : Attacker). x.name) g.types) → All (λ text. is_name text ≡ true) (types_before n g)
types_right g n h = subst (All (λ text. is_name text ≡ true)) (take-map (λ (x : Attacker). x.name) (n - 1) g.types) (All-take (λ text. is_name text ≡ true) (n - 1) (map (λ (x : Attacker). x.name) g.types) h.spelled)

lists_right : (xs : List Named) (n : ℕ) → AreNames (names_of xs) → All (λ text. is_name text ≡ true) (names_of (before n xs))
lists_right xs n h = subst (All (λ text. is_name text ≡ true)) (take-map (λ (x : Named). x.name) (n - 1) xs) (All-take (λ text. is_name text ≡ true) (n - 1) (names_of xs) h.spelled)

matrix_right : (g : Game) (part : Part) → IsMatrixGame g → AreRight (matrix_rule g part)
matrix_right g (goals part) h = names_right 4096 g.goals part h.rows.spelled
matrix_right g scale h = tt
matrix_right g patrols h = tt
matrix_right g (groups group) h = tt
matrix_right g (grouped group n part) h = tt
matrix_right g types h = tt
matrix_right g (typed n part) h =
    let Fine : Attacker → Type 0 = λ x. All (λ text. is_name text ≡ true) x.actions in
    let actions = at_all Fine g.types n nobody (All-weaker (IsMatrixType (length g.goals)) Fine (λ x is. is.action_names.spelled) g.types h.each_type) (All-nil (λ text. is_name text ≡ true)) in
    matrix_type_right (length g.goals) (nth g.types n nobody).actions (types_before n g) part actions (types_right g n h.types.names)

patrols_right : (scaled : Bool) (g : Game) (part : Part) → IsSecurityGame g → AreRight (patrols_rule scaled g part)
patrols_right scaled g (goals part) h = names_right (if scaled then 10000 else 200) g.goals part h.targets.spelled
patrols_right scaled g scale h = tt
patrols_right scaled g patrols h = tt
patrols_right scaled g (groups group) h = tt
patrols_right scaled g (grouped group n part) h = tt
patrols_right scaled g types h = tt
patrols_right scaled g (typed n part) h = security_type_right scaled (length g.goals) (types_before n g) part (types_right g n h.types.names)

listed_right : (g : Game) (part : Part) → IsSecurityGame g → AreListed g → AreRight (listed_rule g part)
listed_right g (goals part) h l = names_right 200 g.goals part h.targets.spelled
listed_right g scale h l = tt
listed_right g patrols h l = tt
listed_right g (groups schedules) h l = tt
listed_right g (groups resources) h l = tt
listed_right g (grouped schedules n part) h l =
    let count = length g.goals in
    let Fine : Named → Type 0 = λ x. All (IsCount 1 count) x.members in
    let all = at_all Fine g.schedules n unnamed (All-weaker (λ (x : Named). AreMembers count 200 x.members) Fine (λ x is. is.known) g.schedules l.schedules.members) (All-nil (IsCount 1 count)) in
    named_right (codes "targets") 200 g.goals (nth g.schedules n unnamed).members (names_of (before n g.schedules)) part all (lists_right g.schedules n l.schedules.names)
listed_right g (grouped resources n part) h l =
    let count = length (names_of g.schedules) in
    let same : length g.schedules ≡ count = sym (length-map g.schedules (λ (x : Named). x.name)) in
    let Fine : Named → Type 0 = λ x. All (IsCount 1 count) x.members in
    let all = at_all Fine g.resources n unnamed (All-weaker (λ (x : Named). AreMembers (length g.schedules) 500 x.members) Fine (λ x is. subst (λ (k : ℕ). All (IsCount 1 k) x.members) same is.known) g.resources l.resources.members) (All-nil (IsCount 1 count)) in
    named_right (codes "schedules") 500 (names_of g.schedules) (nth g.resources n unnamed).members (names_of (before n g.resources)) part all (lists_right g.resources n l.resources.names)
listed_right g types h l = tt
listed_right g (typed n part) h l = security_type_right false (length g.goals) (types_before n g) part (types_right g n h.types.names)

security_right : (g : Game) (o : Option ℕ) (part : Part) → IsSecurityGame g → IsDefended g o → AreRight (rule_by Security o g part)
security_right g (Some n) part h d = patrols_right (is_scaled g) g part h
security_right g None part h d = listed_right g part h d

part_right : (g : Game) (part : Part) → IsGame g → (kind : Kind) → g.kind ≡ kind → AreRight (rule_by kind g.patrols g part)
part_right g part h Matrix e = matrix_right g part (matrix_form g h e)
part_right g part h Security e = (let is = security_form g h e in security_right g g.patrols part is is.defended)

holds_of : (P : List ℕ → Type 0) (xs : List (List ℕ)) (text : List ℕ) → All P xs → Contains xs text → P text
holds_of P xs text all c = subst P c.2 (all c.0 text c.1)

repeat_reason : (rule : Rule) (text : List ℕ) → AreRight rule → Contains (names_before rule) text → reason_of rule (string text) ≡ Some REPEATED_NAME
repeat_reason no_rule text right c = absurd (omega (arith, c.1))
repeat_reason (number_within low high) text right c = absurd (omega (arith, c.1))
repeat_reason (name_besides others) text right c =
    let spelled = holds_of (λ t. is_name t ≡ true) others text right c in
    let twice = contains_any text others c in
    rw (spelled, twice) refl
repeat_reason (known_besides known others) text right c =
    let is = holds_of (λ t. list_any (bytes_eq t) known ≡ true) others text right c in
    let twice = contains_any text others c in
    rw (is, twice) refl
repeat_reason (few_entries limit) text right c = absurd (omega (arith, c.1))
repeat_reason (some_entries limit) text right c = absurd (omega (arith, c.1))
repeat_reason (entries_exactly n) text right c = absurd (omega (arith, c.1))
repeat_reason (table_with keys) text right c = absurd (omega (arith, c.1))

pub repeated : RepeatedNameIsRefused
repeated first second g part text h d c =
    faulty_part first second g part (string text) REPEATED_NAME h d (repeat_reason (part_rule g part) text (part_right g part (game_of_table-game first g h) g.kind refl) c)

outside : (low high z : ℤ) → (z <ℤ low) ⊎ (high <ℤ z) → (int_le low z && int_le z high) ≡ false
outside low high z (inl below) = (let p : int_le low z ≡ false = sym (omega (arith, ints, below)) in rw p refl)
outside low high z (inr above) = (let p : int_le z high ≡ false = sym (omega (arith, ints, above)) in and_none (int_le low z) (int_le z high) p)
  where
    and_none : (a b : Bool) → b ≡ false → (a && b) ≡ false
    and_none true b h = h
    and_none false b h = refl

unequal : (m n : ℕ) → m ≢ n → (m == n) ≡ false
unequal m n ne = elim (cases_Bool (m == n)) [
  | inl is ↦ absurd (ne ((Decides-eqb m n).0 is))
  | inr isnt ↦ isnt
]

pub out : OutOfRangeIsRefused
out = record {
  number = λ first second g part low high z h d rule off. (let fails = outside low high z off in faulty_part first second g part (integer z) OUT_OF_RANGE h d (rw (rule, fails) refl));
  spelling = λ first second g part others text h d rule wrong. faulty_part first second g part (string text) OUT_OF_RANGE h d (rw (rule, wrong) refl);
  size = λ first second g part n items h d rule ne. (let fails = unequal (item_count items) n ne in faulty_part first second g part (array items) OUT_OF_RANGE h d (rw (rule, fails) refl));
}
