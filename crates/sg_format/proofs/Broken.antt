-- The reason for which a value breaks a rule, and that the first steps of reading it end there.
use Rattle.std.proofs.Common.{◌≡◌, ℕ, Bool, true, false, not, ◌&&◌, ◌==◌, nat_le, nat_lt, int_le, List, [], ◌∷◌, ℤ, Option, Some, None, Result, Ok, is_some, refl}
use Rattle.std.specs.Prelude.{bytes_eq}
use Rattle.std.specs.List.{list_any}
use Rattle.toml.specs.Data.{Data, Members, as_array, as_integer, as_str, as_table, get_member}
use Rattle.sg_model.specs.declared.fault.Place.{Place}
use Rattle.sg_model.specs.declared.fault.GameFault.{GameFault}
use Rattle.sg_model.specs.Names.{is_name}
use Rattle.sg_model.specs.Steps.{◌>>=◌}
use Rattle.sg_format.specs.Steps.{needed, passed, refused}
use Rattle.sg_model.specs.declared.reason.TheConstants.{MISSING_KEY, WRONG_KIND, UNKNOWN_KEY, EMPTY_LIST, UNKNOWN_NAME, REPEATED_NAME, OUT_OF_RANGE, TOO_LARGE}
use Rattle.sg_format.specs.Documents.{has_only, name_at, number_at}
use Rattle.sg_format.specs.Lists.{few_at, item_count, new_name, some_at}
use Rattle.sg_format.specs.Parts.{Rule, no_rule, number_within, name_besides, known_besides, few_entries, some_entries, entries_exactly, table_with}

-- the reason where nothing is there, or a later one
abbrev pub asked : {A : Type 0} → Option A → ℕ → (A → Option ℕ) → Option ℕ
asked None reason later = Some reason
asked (Some x) reason later = later x

-- the reason where the test fails, or a later one
abbrev pub tested : Bool → ℕ → Option ℕ → Option ℕ
tested false reason later = Some reason
tested true reason later = later

-- the reason for a key that isn't there
abbrev pub lacking : List (List ℕ) → Members → Option ℕ
lacking [] table = None
lacking (key ∷ keys) table = tested (is_some (get_member key table)) MISSING_KEY (lacking keys table)

-- the reason for which a value breaks a rule, if it does
abbrev pub reason_of : Rule → Data → Option ℕ
reason_of no_rule value = None
reason_of (number_within low high) value = asked (as_integer value) WRONG_KIND (λ z. tested (int_le low z && int_le z high) OUT_OF_RANGE None)
reason_of (name_besides others) value = asked (as_str value) WRONG_KIND (λ text. tested (is_name text) OUT_OF_RANGE (tested (not (list_any (bytes_eq text) others)) REPEATED_NAME None))
reason_of (known_besides known others) value = asked (as_str value) WRONG_KIND (λ text. tested (list_any (bytes_eq text) known) UNKNOWN_NAME (tested (not (list_any (bytes_eq text) others)) REPEATED_NAME None))
reason_of (few_entries limit) value = asked (as_array value) WRONG_KIND (λ items. tested (nat_le (item_count items) limit) TOO_LARGE None)
reason_of (some_entries limit) value = asked (as_array value) WRONG_KIND (λ items. tested (nat_lt 0 (item_count items)) EMPTY_LIST (tested (nat_le (item_count items) limit) TOO_LARGE None))
reason_of (entries_exactly n) value = asked (as_array value) WRONG_KIND (λ items. tested (item_count items == n) OUT_OF_RANGE None)
reason_of (table_with keys) value = asked (as_table value) WRONG_KIND (λ table. tested (has_only (λ key. list_any (bytes_eq key) keys) table) UNKNOWN_KEY (lacking keys table))

-- a needed value that isn't there, or a fault of what comes after it
pub need_fails : {A B : Type 0} (o : Option A) (reason : ℕ) (later : A → Option ℕ) (place : Place) (next : A → Result B GameFault) (r : ℕ) → asked o reason later ≡ Some r
    → ((x : A) → o ≡ Some x → later x ≡ Some r → next x ≡ refused r place) → (needed o reason place >>= next) ≡ refused r place
need_fails None reason later place next r e k = let same : reason ≡ r = cc in rw same refl
need_fails (Some x) reason later place next r e k = k x refl e

-- a test that fails, or a fault of what comes after it
pub test_fails : {B : Type 0} (test : Bool) (reason : ℕ) (later : Option ℕ) (place : Place) (rest : Result B GameFault) (r : ℕ) → tested test reason later ≡ Some r
    → (test ≡ true → later ≡ Some r → rest ≡ refused r place) → (passed test reason place >>= (λ u. rest)) ≡ refused r place
test_fails false reason later place rest r e k = let same : reason ≡ r = cc in rw same refl
test_fails true reason later place rest r e k = k refl e

pub no_reason : {Goal : Type 0} (r : ℕ) → None ≡ Some r → Goal
no_reason r e = absurd (cc)

pub number_fails : (place : Place) (low high : ℤ) (value : Data) (r : ℕ) → reason_of (number_within low high) value ≡ Some r → number_at place low high value ≡ refused r place
unfolding number_at
number_fails place low high value r e =
    need_fails (as_integer value) WRONG_KIND _ place _ r e (λ z here e1.
    test_fails (int_le low z && int_le z high) OUT_OF_RANGE None place _ r e1 (λ test e2. no_reason r e2))

pub new_name_fails : (place : Place) (others : List (List ℕ)) (value : Data) (r : ℕ) → reason_of (name_besides others) value ≡ Some r → new_name place others value ≡ refused r place
unfolding new_name name_at
new_name_fails place others value r e = name_steps (as_str value) e
  where
    name_steps : (o : Option (List ℕ)) → asked o WRONG_KIND (λ text. tested (is_name text) OUT_OF_RANGE (tested (not (list_any (bytes_eq text) others)) REPEATED_NAME None)) ≡ Some r
        → ((needed o WRONG_KIND place >>= (λ text. passed (is_name text) OUT_OF_RANGE place >>= (λ u. Ok text))) >>= (λ name. passed (not (list_any (bytes_eq name) others)) REPEATED_NAME place >>= (λ u. Ok name))) ≡ refused r place
    name_steps None e = let same : WRONG_KIND ≡ r = cc in rw same refl
    name_steps (Some text) e = spelled_steps text (is_name text) e
      where
        spelled_steps : (text : List ℕ) (test : Bool) → tested test OUT_OF_RANGE (tested (not (list_any (bytes_eq text) others)) REPEATED_NAME None) ≡ Some r
            → ((passed test OUT_OF_RANGE place >>= (λ u. Ok text)) >>= (λ name. passed (not (list_any (bytes_eq name) others)) REPEATED_NAME place >>= (λ u. Ok name))) ≡ refused r place
        spelled_steps text false e = let same : OUT_OF_RANGE ≡ r = cc in rw same refl
        spelled_steps text true e = test_fails (not (list_any (bytes_eq text) others)) REPEATED_NAME None place _ r e (λ test e2. no_reason r e2)

pub few_fails : (place : Place) (limit : ℕ) (value : Data) (r : ℕ) → reason_of (few_entries limit) value ≡ Some r → few_at place limit value ≡ refused r place
unfolding few_at
few_fails place limit value r e =
    need_fails (as_array value) WRONG_KIND _ place _ r e (λ items here e1.
    test_fails (nat_le (item_count items) limit) TOO_LARGE None place _ r e1 (λ test e2. no_reason r e2))

pub some_fails : (place : Place) (limit : ℕ) (value : Data) (r : ℕ) → reason_of (some_entries limit) value ≡ Some r → some_at place limit value ≡ refused r place
unfolding some_at
some_fails place limit value r e =
    need_fails (as_array value) WRONG_KIND _ place _ r e (λ items here e1.
    test_fails (nat_lt 0 (item_count items)) EMPTY_LIST _ place _ r e1 (λ some e2.
    test_fails (nat_le (item_count items) limit) TOO_LARGE None place _ r e2 (λ test e3. no_reason r e3)))
