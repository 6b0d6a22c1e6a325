-- A list of names, of members or of payoffs in which one part breaks its rule is refused for it.
use Rattle.std.proofs.Common.{◌≡◌, ◌≢◌, ℕ, zero, suc, ◌<◌, ◌+◌, ◌-◌, ◌^◌, Bool, true, false, not, ◌||◌, ◌==◌, nat_lt, List, [], ◌∷◌, length, map, take, get_or, ℤ, pos, ◌-ℤ◌, Option, Some, None, Result, Ok, Err, is_some, refl, sym, ◌∙◌, arith, cond, inl, inr}
use Rattle.std.specs.Prelude.{bytes_eq}
use Rattle.std.specs.List.{All, AllPairs, list_any, position_from}
use Rattle.std.proofs.lemmas.Bool.{cases_Bool, or_cases}
use Rattle.std.proofs.lemmas.Bool.Decides.{Decides-eqb, nat_tests}
use Rattle.std.proofs.lemmas.List.{length-take-le}
use Rattle.std.proofs.lemmas.List.Elements.{All-head, All-tail, All-take}
use Rattle.toml.specs.Data.{Data, Items, array, as_array, as_str, get_item}
use Rattle.sg_model.specs.declared.fault.Place.{Place}
use Rattle.sg_model.specs.declared.fault.GameFault.{GameFault}
use Rattle.sg_model.specs.Sums.{nth}
use Rattle.sg_model.specs.Limits.{IsCount}
use Rattle.sg_model.specs.Steps.{◌>>=◌}
use Rattle.sg_format.specs.Steps.{needed, passed, refused}
use Rattle.sg_model.specs.declared.reason.TheConstants.{WRONG_KIND, UNKNOWN_NAME, REPEATED_NAME, OUT_OF_RANGE}
use Rattle.sg_format.specs.Documents.{items_at}
use Rattle.sg_format.specs.Lists.{each, item_count, known_at, member_at, members_at, names_at, new_name, number_of, some_at}
use Rattle.sg_format.specs.Types.{pay_at, pay_table_at, pays_at}
use Rattle.sg_format.specs.Parts.{Agrees, NamesPart, PaysPart, before, entries_exactly, known_besides, members_rule, name, names, names_path, names_rule, pay, pay_row, pays, pays_path, pays_rule}
use Rattle.sg_format.proofs.Inversion.{after, after_test}
use Rattle.sg_format.proofs.Keys.{same}
use Rattle.sg_format.proofs.Listed.{members_at-members}
use Rattle.sg_format.proofs.Broken.{asked, need_fails, new_name_fails, no_reason, number_fails, reason_of, some_fails, test_fails, tested}
use Rattle.sg_format.proofs.Entries.{entry_at, some_is, some_other}

-- the value that some give is that one
pub only : {A : Type 0} (x y : A) → Some x ≡ Some y → x ≡ y
only x y e = cc

-- the number of those before an entry, and one, is the number of the entry
pub place_is : {A : Type 0} (xs : List A) (n k : ℕ) → k < length xs → n ≡ suc k → length (take k xs) + 1 ≡ n
place_is xs n k within e = omega (arith, e, length-take-le k xs (omega (arith, within)))

-- where a list of names has its faults
abbrev pub names_place : Place → (ℕ → Place) → NamesPart → Place
names_place whole place names = whole
names_place whole place (name n) = place n

-- those before an entry, by its number or its index
pub front_is : {A : Type 0} (xs : List A) (n k : ℕ) → n ≡ suc k → before n xs ≡ take k xs
front_is xs n k e = let p : n - 1 ≡ k = omega (arith, e) in rw p refl

pub names_part_fails : (whole : Place) (place : ℕ → Place) (limit : ℕ) (first second : Data) (xs : List (List ℕ)) (part : NamesPart) (value : Data) (r : ℕ)
    → names_at whole place limit first ≡ Ok xs → Agrees (names_path part) value (Some first) second → reason_of (names_rule limit xs part) value ≡ Some r
    → names_at whole place limit second ≡ refused r (names_place whole place part)
unfolding names_at
names_part_fails whole place limit first second xs names value r h c e =
    let f = some_fails whole limit value r e in
    rw (c, f) refl
names_part_fails whole place limit first second xs (name n) value r h c e =
    let read : List (List ℕ) → Data → Result (List ℕ) GameFault = λ others entry. new_name (place (length others + 1)) others entry in
    let was : first ≡ array c.old = only first (array c.old) c.was in
    let start : (some_at whole limit (array c.old) >>= (λ items. each read [] items)) ≡ Ok xs = rw was at h in
    after (some_at whole limit (array c.old)) start (λ found e1 rest.
    let whole_is : each read [] c.old ≡ Ok xs = rw (some_is whole limit c.old found e1) at rest in
    let entry = entry_at read c.old xs c.index c.entry whole_is c.there in
    let broken = new_name_fails (place (length (take c.index xs) + 1)) (take c.index xs) c.value r (rw (front_is xs n c.index c.number, sym c.agree) at e) in
    let f = entry.fails c.new c.value (record { reason = r; place = place (length (take c.index xs) + 1) }) c.earlier c.here broken in
    let is = c.is in
    let set = some_other whole limit c.old c.new found c.size e1 in
    let there : length (take c.index xs) + 1 ≡ n = place_is xs n c.index entry.within c.number in
    let last : names_at whole place limit second ≡ refused r (place (length (take c.index xs) + 1)) = rw (is, set) f in
    rw there at last)

-- a test finds an item just where a position is found
position_any : {X : Type 0} (test : X → Bool) (i : ℕ) (xs : List X) → is_some (position_from test i xs) ≡ list_any test xs
position_any test i [] = refl
position_any test i (x ∷ xs) = by_test (test x) (position_any test (i + 1) xs)
  where
    by_test : (b : Bool) → is_some (position_from test (i + 1) xs) ≡ list_any test xs → is_some (cond b (Some i) (position_from test (i + 1) xs)) ≡ (b || list_any test xs)
    by_test true more = refl
    by_test false more = more

-- where a position is found, the test passes
record IsFound {X : Type 0} (test : X → Bool) (i : ℕ) (xs : List X) (n : ℕ) : Type 0 where
  index : ℕ
  number : n ≡ i + index
  within : index < length xs
  passes : (d : X) → test (get_or xs index d) ≡ true

position_found : {X : Type 0} (test : X → Bool) (i : ℕ) (xs : List X) (n : ℕ) → position_from test i xs ≡ Some n → IsFound test i xs n
position_found test i [] n e = absurd (cc)
position_found test i (x ∷ xs) n e = by_test (test x) refl (position_found test (i + 1) xs n) e
  where
    by_test : (b : Bool) → test x ≡ b → (position_from test (i + 1) xs ≡ Some n → IsFound test (i + 1) xs n) → cond b (Some i) (position_from test (i + 1) xs) ≡ Some n → IsFound test i (x ∷ xs) n
    by_test true is more h = record { index = 0; number = (let s : i ≡ n = cc in omega (arith, s)); within = omega arith; passes = λ d. is }
    by_test false is more h =
        let f = more h in
        record { index = suc f.index; number = omega (arith, f.number); within = omega (arith, f.within); passes = f.passes }

-- two equal names of a list without repeats are at one place
one_place : (known : List (List ℕ)) (i j : ℕ) → AllPairs (λ x y. x ≢ y) known → i < length known → j < length known → get_or known i [] ≡ get_or known j [] → i ≡ j
one_place known i j apart low high e =
    elim (cases_Bool (nat_lt i j)) [
      | inl less ↦ absurd (apart i j [] (grind (arith, nat_tests)) high e)
      | inr more ↦ elim (cases_Bool (nat_lt j i)) [
        | inl less ↦ absurd (apart j i [] (grind (arith, nat_tests)) low (sym e))
        | inr equal ↦ grind (arith, nat_tests)
      ]
    ]

twin : (known : List (List ℕ)) (text : List ℕ) (n m : ℕ) → AllPairs (λ x y. x ≢ y) known → number_of text known ≡ Some n → IsCount 1 (length known) m
    → bytes_eq text (nth known m []) ≡ true → (m == n) ≡ true
twin known text n zero apart e within is = absurd (omega (arith, within.at_least))
twin known text n (suc m) apart e within is =
    let f = position_found (bytes_eq text) 1 known n e in
    let here = same text (get_or known m []) is in
    let there = same text (get_or known f.index []) (f.passes []) in
    let one = one_place known m f.index apart (omega (arith, within.at_most)) f.within (sym here ∙ there) in
    (Decides-eqb (suc m) n).1 (omega (arith, one, f.number))

repeats : (known : List (List ℕ)) (text : List ℕ) (n : ℕ) (numbers : List ℕ) → AllPairs (λ x y. x ≢ y) known → number_of text known ≡ Some n → All (IsCount 1 (length known)) numbers
    → list_any (bytes_eq text) (map (λ m. nth known m []) numbers) ≡ true → list_any (λ other. other == n) numbers ≡ true
repeats known text n [] apart e all is = absurd (cc)
repeats known text n (m ∷ numbers) apart e all is =
    elim (or_cases (bytes_eq text (nth known m [])) (list_any (bytes_eq text) (map (λ k. nth known k []) numbers)) is) [
      | inl here ↦ (let q = twin known text n m apart e (All-head (IsCount 1 (length known)) m numbers all) here in rw q refl)
      | inr later ↦ (let q = repeats known text n numbers apart e (All-tail (IsCount 1 (length known)) m numbers all) later in or_right (m == n) (list_any (λ other. other == n) numbers) q)
    ]
  where
    or_right : (a b : Bool) → b ≡ true → (a || b) ≡ true
    or_right true b h = refl
    or_right false b h = h

member_fails : (place : Place) (known : List (List ℕ)) (numbers : List ℕ) (value : Data) (r : ℕ) → AllPairs (λ x y. x ≢ y) known → All (IsCount 1 (length known)) numbers
    → reason_of (known_besides known (map (λ m. nth known m []) numbers)) value ≡ Some r → member_at place known numbers value ≡ refused r place
unfolding member_at known_at
member_fails place known numbers value r apart all e = by_text (as_str value) e
  where
    by_number : (text : List ℕ) (o : Option ℕ) → number_of text known ≡ o → tested (is_some o) UNKNOWN_NAME (tested (not (list_any (bytes_eq text) (map (λ m. nth known m []) numbers))) REPEATED_NAME None) ≡ Some r
        → (needed o UNKNOWN_NAME place >>= (λ n. passed (not (list_any (λ other. other == n) numbers)) REPEATED_NAME place >>= (λ u. Ok n))) ≡ refused r place
    by_number text None is e = let one : UNKNOWN_NAME ≡ r = cc in rw one refl
    by_number text (Some n) is e = by_repeat (list_any (bytes_eq text) (map (λ m. nth known m []) numbers)) refl e
      where
        by_repeat : (b : Bool) → list_any (bytes_eq text) (map (λ m. nth known m []) numbers) ≡ b → tested (not b) REPEATED_NAME None ≡ Some r
            → (passed (not (list_any (λ other. other == n) numbers)) REPEATED_NAME place >>= (λ u. Ok n)) ≡ refused r place
        by_repeat true h e = let one : REPEATED_NAME ≡ r = cc in let q = repeats known text n numbers apart is all h in rw (q, one) refl
        by_repeat false h e = no_reason r e

    by_text : (o : Option (List ℕ)) → asked o WRONG_KIND (λ text. tested (list_any (bytes_eq text) known) UNKNOWN_NAME (tested (not (list_any (bytes_eq text) (map (λ m. nth known m []) numbers))) REPEATED_NAME None)) ≡ Some r
        → ((needed o WRONG_KIND place >>= (λ text. needed (number_of text known) UNKNOWN_NAME place)) >>= (λ n. passed (not (list_any (λ other. other == n) numbers)) REPEATED_NAME place >>= (λ u. Ok n))) ≡ refused r place
    by_text None e = let one : WRONG_KIND ≡ r = cc in rw one refl
    by_text (Some text) e = by_number text (number_of text known) refl (rw (sym (position_any (bytes_eq text) 1 known)) at e)

pub members_part_fails : (place : Place) (known : List (List ℕ)) (limit : ℕ) (first second : Data) (xs : List ℕ) (part : NamesPart) (value : Data) (r : ℕ) → AllPairs (λ x y. x ≢ y) known
    → members_at place known limit first ≡ Ok xs → Agrees (names_path part) value (Some first) second → reason_of (members_rule limit known xs part) value ≡ Some r
    → members_at place known limit second ≡ refused r place
unfolding members_at
members_part_fails place known limit first second xs names value r apart h c e =
    let f = some_fails place limit value r e in
    rw (c, f) refl
members_part_fails place known limit first second xs (name n) value r apart h c e =
    let was : first ≡ array c.old = only first (array c.old) c.was in
    let start : (some_at place limit (array c.old) >>= (λ items. each (member_at place known) [] items)) ≡ Ok xs = rw was at h in
    after (some_at place limit (array c.old)) start (λ found e1 rest.
    let whole_is : each (member_at place known) [] c.old ≡ Ok xs = rw (some_is place limit c.old found e1) at rest in
    let entry = entry_at (member_at place known) c.old xs c.index c.entry whole_is c.there in
    let all = (members_at-members place known limit first xs h).known in
    let broken = member_fails place known (take c.index xs) c.value r apart (All-take (IsCount 1 (length known)) c.index xs all) (rw (front_is xs n c.index c.number, sym c.agree) at e) in
    let f = entry.fails c.new c.value (record { reason = r; place = place }) c.earlier c.here broken in
    let is = c.is in
    let set = some_other place limit c.old c.new found c.size e1 in
    rw (is, set) f)

-- an array of a wrong length
size_fails : {B : Type 0} (place : Place) (n : ℕ) (value : Data) (next : Items → Result B GameFault) (r : ℕ) → reason_of (entries_exactly n) value ≡ Some r
    → (items_at place value >>= (λ items. passed (item_count items == n) OUT_OF_RANGE place >>= (λ u. next items))) ≡ refused r place
size_fails place n value next r e =
    need_fails (as_array value) WRONG_KIND _ place _ r e (λ items here e1.
    test_fails (item_count items == n) OUT_OF_RANGE None place _ r e1 (λ test e2. no_reason r e2))

pays_size_fails : (place : Place) (count : ℕ) (value : Data) (r : ℕ) → reason_of (entries_exactly count) value ≡ Some r → pays_at place count value ≡ refused r place
unfolding pays_at
pays_size_fails place count value r e = size_fails place count value (λ items. each (λ others. pay_at place) [] items) r e

pay_fails : (place : Place) (count : ℕ) (first second : Data) (xs : List ℤ) (i : ℕ) (value : Data) (r : ℕ) → pays_at place count first ≡ Ok xs
    → Agrees (pays_path (pay_row i)) value (Some first) second → reason_of (pays_rule count count (pay 1 i)) value ≡ Some r → pays_at place count second ≡ refused r place
unfolding pays_at
pay_fails place count first second xs i value r h c e =
    let read : List ℤ → Data → Result ℤ GameFault = λ others. pay_at place in
    let was : first ≡ array c.old = only first (array c.old) c.was in
    let start : (passed (item_count c.old == count) OUT_OF_RANGE place >>= (λ u. each read [] c.old)) ≡ Ok xs = rw was at h in
    after_test (item_count c.old == count) OUT_OF_RANGE place start (λ long rest.
    let entry = entry_at read c.old xs c.index c.entry rest c.there in
    let broken = number_fails place (pos 0 -ℤ pos (2 ^ 30)) (pos (2 ^ 30)) c.value r (rw (sym c.agree) at e) in
    let f = entry.fails c.new c.value (record { reason = r; place = place }) c.earlier c.here broken in
    let is = c.is in
    let still = c.size in
    rw (is, still, long) f)

-- a table of payoffs with another row, which has a fault of its own
row_fails : (place : Place) (rows columns : ℕ) (first second : Data) (xs : List (List ℤ)) (k : ℕ) (items others : Items) (entry value : Data) (fault : GameFault)
    → pay_table_at place rows columns first ≡ Ok xs → Some first ≡ Some (array items) → get_item k items ≡ Some entry → second ≡ array others → get_item k others ≡ Some value
    → ((i : ℕ) → i < k → get_item i others ≡ get_item i items) → item_count others ≡ item_count items
    → ((row : List ℤ) → pays_at place columns entry ≡ Ok row → pays_at place columns value ≡ Err fault) → pay_table_at place rows columns second ≡ Err fault
unfolding pay_table_at
row_fails place rows columns first second xs k items others entry value fault h was there is here earlier still broken =
    let read : List (List ℤ) → Data → Result (List ℤ) GameFault = λ others. pays_at place columns in
    let old : first ≡ array items = only first (array items) was in
    let start : (passed (item_count items == rows) OUT_OF_RANGE place >>= (λ u. each read [] items)) ≡ Ok xs = rw old at h in
    after_test (item_count items == rows) OUT_OF_RANGE place start (λ long rest.
    let row = entry_at read items xs k entry rest there in
    let f = row.fails others value fault earlier here (broken row.value row.is) in
    rw (is, still, long) f)

pub pays_part_fails : (place : Place) (rows columns : ℕ) (first second : Data) (xs : List (List ℤ)) (part : PaysPart) (value : Data) (r : ℕ)
    → pay_table_at place rows columns first ≡ Ok xs → Agrees (pays_path part) value (Some first) second → reason_of (pays_rule rows columns part) value ≡ Some r
    → pay_table_at place rows columns second ≡ refused r place
unfolding pay_table_at
pays_part_fails place rows columns first second xs pays value r h c e =
    let f = size_fails place rows value (λ items. each (λ others. pays_at place columns) [] items) r e in
    rw c f
pays_part_fails place rows columns first second xs (pay_row n) value r h c e =
    let broken = pays_size_fails place columns c.value r (rw (sym c.agree) at e) in
    row_fails place rows columns first second xs c.index c.old c.new c.entry c.value (record { reason = r; place = place }) h c.was c.there c.is c.here c.earlier c.size (λ row is. broken)
pays_part_fails place rows columns first second xs (pay n i) value r h c e =
    row_fails place rows columns first second xs c.index c.old c.new c.entry c.value (record { reason = r; place = place }) h c.was c.there c.is c.here c.earlier c.size
    (λ row is. pay_fails place columns c.entry c.value row i value r is c.agree e)
