-- Reading the lists of a document that spells parts: counts, names, and entries with names.
use Rattle.std.proofs.Common.{◌≡◌, ◌∙◌, ℕ, suc, ◌+◌, not, List, [], ◌∷◌, ◌++◌, length, map, Option, None, Result, Ok, refl, sym, ap}
use Rattle.std.specs.Prelude.{bytes_eq, nat_le}
use Rattle.std.specs.List.{All, list_any}
use Rattle.std.proofs.lemmas.Bool.Decides.{same_from_decides}
use Rattle.std.proofs.lemmas.List.{append_assoc, append-nil, length-map, map_push}
use Rattle.std.proofs.lemmas.List.Elements.{All-head, All-tail}
use Rattle.std.proofs.lemmas.Slice.Eq.{bytes_eq-Decides}
use Rattle.toml.specs.Data.{Data, string}
use Rattle.sg_model.specs.declared.fault.Place.{Place}
use Rattle.sg_model.specs.declared.fault.GameFault.{GameFault}
use Rattle.sg_model.specs.Names.{is_name}
use Rattle.sg_game.specs.Faults.{◌orelse◌, fault_unless, name_fault, entries_fault}
use Rattle.sg_model.specs.Steps.{◌>>=◌}
use Rattle.sg_format.specs.Steps.{passed}
use Rattle.sg_format.specs.Documents.{name_at}
use Rattle.sg_format.specs.Lists.{item_count, each, some_at, few_at, names_at, new_name}
use Rattle.sg_format.specs.FaultExamples.{items_of, listed}
use Rattle.sg_document_laws.specs.Tables.{names_data}
use Rattle.sg_document_laws.specs.Orders.{told}
use Rattle.sg_document_laws.proofs.Told.{after, after_test, last_test, or_none}

-- counts

pub item_count-items_of : (values : List Data) → item_count (items_of values) ≡ length values
item_count-items_of [] = refl
item_count-items_of (value ∷ rest) = ap (λ n. suc n) (item_count-items_of rest)

-- the fault of a list that must have an item
abbrev pub count_fault : ℕ → Place → ℕ → Option GameFault
count_fault limit place n = fault_unless (nat_le 1 n) 6 place orelse fault_unless (nat_le n limit) 10 place

pub some_at-listed : (place : Place) (limit : ℕ) (values : List Data) → some_at place limit (listed values) ≡ told (count_fault limit place (length values)) (items_of values)
unfolding some_at
some_at-listed place limit values =
    rw (← item_count-items_of values)
    (after_test (nat_le 1 (item_count (items_of values))) 6 place (passed (nat_le (item_count (items_of values)) limit) 10 place >>= (λ few. Ok (items_of values)))
    (fault_unless (nat_le (item_count (items_of values)) limit) 10 place) (items_of values) (λ e. last_test (nat_le (item_count (items_of values)) limit) 10 place (items_of values)))

pub few_at-listed : (place : Place) (limit : ℕ) (values : List Data) → few_at place limit (listed values) ≡ told (fault_unless (nat_le (length values) limit) 10 place) (items_of values)
unfolding few_at
few_at-listed place limit values =
    rw (← item_count-items_of values) (last_test (nat_le (item_count (items_of values)) limit) 10 place (items_of values))

-- a map that changes nothing
pub map_same : {X : Type 0} (xs : List X) → map (λ x. x) xs ≡ xs
map_same [] = refl
map_same (x ∷ xs) = ap (λ ys. x ∷ ys) (map_same xs)

-- two maps, one after the other
pub map_map : {X Y Z : Type 0} (f : Y → Z) (g : X → Y) (xs : List X) → map f (map g xs) ≡ map (λ x. f (g x)) xs
map_map f g [] = refl
map_map f g (x ∷ xs) = ap (λ ys. f (g x) ∷ ys) (map_map f g xs)

-- names

eq_swap : (a b : List ℕ) → bytes_eq a b ≡ bytes_eq b a
eq_swap a b = same_from_decides (bytes_eq a b) (bytes_eq b a) (bytes_eq-Decides a b) (λ e. sym ((bytes_eq-Decides b a).0 e), λ e. (bytes_eq-Decides b a).1 (sym e))

any_swap : (name : List ℕ) (before : List (List ℕ)) → list_any (bytes_eq name) before ≡ list_any (λ known. bytes_eq known name) before
any_swap name [] = refl
any_swap name (x ∷ xs) = rw (eq_swap name x, any_swap name xs) refl

pub name_at-string : (place : Place) (name : List ℕ) → name_at place (string name) ≡ told (fault_unless (is_name name) 9 place) name
unfolding name_at
name_at-string place name = last_test (is_name name) 9 place name

pub new_name-string : (place : Place) (before : List (List ℕ)) (name : List ℕ) → new_name place before (string name) ≡ told (name_fault before place name) name
unfolding new_name
new_name-string place before name =
    after (name_at place (string name)) (λ text. passed (not (list_any (bytes_eq text) before)) 8 place >>= (λ new. Ok text))
    (fault_unless (is_name name) 9 place) (fault_unless (not (list_any (λ known. bytes_eq known name) before)) 8 place) name name (name_at-string place name)
    (λ e. rw (any_swap name before) (last_test (not (list_any (λ known. bytes_eq known name) before)) 8 place name))

-- entries, each read by those before it

module _ {X A : Type 0} (name : X → List ℕ) (rest : Place → X → Option GameFault) (place : ℕ → Place) (spell : X → Data) (is : X → A) (P : X → Type 0) (read : List A → Data → Result A GameFault) where
  -- where entry n stands, behind those before it
  abbrev pub here : List X → Place
  here before = place (length (map name before) + 1)

  -- the first fault of an entry
  abbrev pub entry_fault : List X → X → Option GameFault
  entry_fault before x = name_fault (map name before) (here before) (name x) orelse rest (here before) x

  -- the reading of one entry tells the fault of its name, and then that of the rest of it
  abbrev pub ReadsEach : Type 0
  ReadsEach = (before : List X) (x : X) → P x → read (map is before) (spell x) ≡ told (entry_fault before x) (is x)

  pub each-entries : ReadsEach → (before xs : List X) → All P xs → each read (map is before) (items_of (map spell xs)) ≡ told (entries_fault name rest place (map name before) xs) (map is (before ++ xs))
  unfolding each
  each-entries one before [] h = rw (append-nil before) refl
  each-entries one before (x ∷ xs) h =
      let more = each-entries one (before ++ x ∷ []) xs (All-tail P x xs h) in
      let tail : each read (map is before ++ is x ∷ []) (items_of (map spell xs)) ≡ told (entries_fault name rest place (map name before ++ name x ∷ []) xs) (map is (before ++ x ∷ xs)) =
      rw (map_push is before x, map_push name before x, append_assoc before (x ∷ []) xs) at more in
      after (read (map is before) (spell x)) (λ y. each read (map is before ++ y ∷ []) (items_of (map spell xs))) (entry_fault before x)
      (entries_fault name rest place (map name before ++ name x ∷ []) xs) (is x) (map is (before ++ x ∷ xs)) (one before x (All-head P x xs h)) (λ e. tail)

-- a list of names

-- a name has no other faults than its own
abbrev pub no_more : {X : Type 0} → Place → X → Option GameFault
no_more here x = None

pub all_any : {X : Type 0} (xs : List X) → All (λ (x : X). Unit {0}) xs
all_any xs = λ i d lt. tt

module _ {X : Type 0} (name : X → List ℕ) where
  each_name : (place : ℕ → Place) (names : List X)
      → each (λ before entry. new_name (place (length before + 1)) before entry) [] (items_of (map string (map name names))) ≡ told (entries_fault name no_more place [] names) (map name names)
  each_name place names =
      let read : List (List ℕ) → Data → Result (List ℕ) GameFault = λ before entry. new_name (place (length before + 1)) before entry in
      let one : ReadsEach name no_more place (λ x. string (name x)) name (λ (x : X). Unit {0}) read = λ before x u.
      new_name-string (place (length (map name before) + 1)) (map name before) (name x)
      ∙ ap (λ fault. told fault (name x)) (sym (or_none (name_fault (map name before) (place (length (map name before) + 1)) (name x)))) in
      rw (map_map string name names) (each-entries name no_more place (λ x. string (name x)) name (λ (x : X). Unit {0}) read one [] names (all_any names))

  pub names_at-array : (whole : Place) (place : ℕ → Place) (limit : ℕ) (names : List X)
      → names_at whole place limit (names_data (map name names)) ≡ told (count_fault limit whole (length names) orelse entries_fault name no_more place [] names) (map name names)
  unfolding names_at
  names_at-array whole place limit names =
      let values : List Data = map string (map name names) in
      let many : length values ≡ length names = length-map (map name names) string ∙ length-map names name in
      let some : some_at whole limit (listed values) ≡ told (count_fault limit whole (length names)) (items_of values) = rw (← many) (some_at-listed whole limit values) in
      after (some_at whole limit (listed values)) (λ items. each (λ before entry. new_name (place (length before + 1)) before entry) [] items)
      (count_fault limit whole (length names)) (entries_fault name no_more place [] names) (items_of values) (map name names) some (λ e. each_name place names)
