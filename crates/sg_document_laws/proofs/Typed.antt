-- Reading the numbers, the payoffs and the types of attacker of a document that spells parts.
use Rattle.std.proofs.Common.{◌≡◌, ◌∙◌, ℕ, ◌+◌, ◌^◌, ◌==◌, Bool, false, ◌&&◌, List, [], ◌∷◌, ◌++◌, length, map, ℤ, pos, ◌-ℤ◌, Option, Result, Ok, refl, ap}
use Rattle.std.specs.Prelude.{int_le, nat_eq}
use Rattle.std.specs.List.{All, list_all}
use Rattle.std.proofs.lemmas.List.{append_assoc, append-nil, length-map}
use Rattle.toml.specs.Data.{Data, integer, string}
use Rattle.sg_model.specs.declared.fault.Place.{Place}
use Rattle.sg_model.specs.declared.fault.Place.TheVariants as place_of
use Rattle.sg_model.specs.declared.fault.GameFault.{GameFault}
use Rattle.sg_model.specs.Games.{Attacker, payoff_of}
use Rattle.sg_game.specs.Faults.{◌orelse◌, fault_unless, is_within, is_pay, name_fault, entries_fault, prior_limit, type_limit}
use Rattle.sg_model.specs.Steps.{◌>>=◌}
use Rattle.sg_format.specs.Steps.{passed}
use Rattle.sg_format.specs.Documents.{number_at}
use Rattle.sg_format.specs.Lists.{item_count, each, names_at, new_name, some_at}
use Rattle.sg_format.specs.Types.{matrix_type_at, matrix_types_at, pay_at, pay_table_at, pays_at, prior_at, security_type_at, security_types_at}
use Rattle.sg_format.specs.FaultExamples.{items_of, listed}
use Rattle.sg_document_laws.specs.Tables.{matrix_type, names_data, pays_data, security_type, table_data}
use Rattle.sg_document_laws.specs.Orders.{told}
use Rattle.sg_document_laws.proofs.Told.{after, after_test, both_tests, in_turn, into, last_test}
use Rattle.sg_document_laws.proofs.Listed.{ReadsEach, count_fault, each-entries, item_count-items_of, map_map, map_same, names_at-array, no_more, new_name-string, some_at-listed}

-- numbers

pub number_at-integer : (place : Place) (low high z : ℤ) → number_at place low high (integer z) ≡ told (fault_unless (is_within low high z) 9 place) z
unfolding number_at
number_at-integer place low high z = last_test (int_le low z && int_le z high) 9 place z

-- items that are told by one test

module _ {X A : Type 0} (read : Data → Result A GameFault) (spell : X → Data) (is : X → A) (test : X → Bool) (place : Place) where
  each_tested : ((x : X) → read (spell x) ≡ told (fault_unless (test x) 9 place) (is x)) → (before : List A) (xs : List X)
      → each (λ earlier. read) before (items_of (map spell xs)) ≡ told (fault_unless (list_all test xs) 9 place) (before ++ map is xs)
  unfolding each
  each_tested one before [] = rw (append-nil before) refl
  each_tested one before (x ∷ xs) =
      let more = each_tested one (before ++ is x ∷ []) xs in
      let tail = rw (append_assoc before (is x ∷ []) (map is xs)) at more in
      after (read (spell x)) (λ y. each (λ earlier. read) (before ++ y ∷ []) (items_of (map spell xs))) (fault_unless (test x) 9 place) (fault_unless (list_all test xs) 9 place)
      (is x) (before ++ is x ∷ map is xs) (one x) (λ e. tail)
      ∙ both_tests (test x) (list_all test xs) 9 place (before ++ is x ∷ map is xs)

  -- so many of them
  pub listed_tested : ((x : X) → read (spell x) ≡ told (fault_unless (test x) 9 place) (is x)) → (count : ℕ) (xs : List X)
      → (passed (item_count (items_of (map spell xs)) == count) 9 place >>= (λ long. each (λ earlier. read) [] (items_of (map spell xs))))
      ≡ told (fault_unless (nat_eq (length xs) count && list_all test xs) 9 place) (map is xs)
  listed_tested one count xs =
      let many : item_count (items_of (map spell xs)) ≡ length xs = item_count-items_of (map spell xs) ∙ length-map xs spell in
      rw many
      (after_test (length xs == count) 9 place (each (λ earlier. read) [] (items_of (map spell xs))) (fault_unless (list_all test xs) 9 place) (map is xs) (λ e. each_tested one [] xs)
      ∙ both_tests (nat_eq (length xs) count) (list_all test xs) 9 place (map is xs))

pays_told : (place : Place) (count : ℕ) (row : List ℤ) → pays_at place count (pays_data row) ≡ told (fault_unless (nat_eq (length row) count && list_all is_pay row) 9 place) row
unfolding pays_at
pays_told place count row =
    let one : (z : ℤ) → pay_at place (integer z) ≡ told (fault_unless (is_pay z) 9 place) z = λ z. number_at-integer place (pos 0 -ℤ pos (2 ^ 30)) (pos (2 ^ 30)) z in
    listed_tested (pay_at place) integer (λ z. z) is_pay place one count row
    ∙ ap (λ zs. told (fault_unless (nat_eq (length row) count && list_all is_pay row) 9 place) zs) (map_same row)

-- a list for each of m rows, each with n payoffs
abbrev pub are_rows : {V : Type 0} → (V → List ℤ) → ℕ → ℕ → List V → Bool
are_rows items m n lists = nat_eq (length lists) m && list_all (λ row. nat_eq (length (items row)) n && list_all is_pay (items row)) lists

pub table_told : {V : Type 0} (items : V → List ℤ) (place : Place) (m n : ℕ) (lists : List V) → pay_table_at place m n (table_data (map items lists)) ≡ told (fault_unless (are_rows items m n lists) 9 place) (map items lists)
unfolding pay_table_at
table_told items place m n lists =
    rw (map_map pays_data items lists)
    (listed_tested (pays_at place n) (λ row. pays_data (items row)) items (λ row. nat_eq (length (items row)) n && list_all is_pay (items row)) place (λ row. pays_told place n (items row)) m lists)

-- types

-- the names of what is read
names_read : {X : Type 0} (name : X → List ℕ) (is : X → Attacker) → ((x : X) → (is x).name ≡ name x) → (xs : List X) → map (λ (y : Attacker). y.name) (map is xs) ≡ map name xs
names_read name is same [] = refl
names_read name is same (x ∷ xs) = rw (same x, names_read name is same xs) refl

-- the first fault of a prior
abbrev pub prior_fault : ℤ → Place → ℤ → Option GameFault
prior_fault limit place prior = fault_unless (is_within (pos 1) limit prior) 9 place

-- the first fault of the types: none of them, too many, or one of them
abbrev pub all_types_fault : {X : Type 0} → (X → List ℕ) → (Place → X → Option GameFault) → ℕ → List X → Option GameFault
all_types_fault name rest limit xs = count_fault limit place_of.Document (length xs) orelse entries_fault name rest place_of.Attacker [] xs

-- in security form

-- the type that is read of a name, a prior and payoffs
abbrev pub security_form : List ℕ → ℤ → List (List ℤ) → Attacker
security_form name prior lists = record { name = name; prior = prior; payoffs = map payoff_of lists; actions = []; leader = []; follower = [] }

module _ {X V : Type 0} (name : X → List ℕ) (prior : X → ℤ) (payoffs : X → List V) (items : V → List ℤ) (is : X → Attacker) (P : X → Type 0)
    (named : (x : X) → (is x).name ≡ name x) (formed : (x : X) → P x → security_form (name x) (prior x) (map items (payoffs x)) ≡ is x) (scaled : Bool) (targets : ℕ) where
  -- the first fault of a type but for its name
  abbrev pub security_fault : Place → X → Option GameFault
  security_fault place x = prior_fault (prior_limit scaled) place (prior x) orelse fault_unless (are_rows items targets 4 (payoffs x)) 9 place

  -- its table
  abbrev pub spell_security : X → Data
  spell_security x = security_type (name x) (prior x) (map items (payoffs x))

  security_told : (place : Place) (before : List X) (x : X) → P x
      → security_type_at place scaled targets (map is before) (spell_security x) ≡ told (name_fault (map name before) place (name x) orelse security_fault place x) (is x)
  unfolding security_type_at
  security_told place before x own =
      let earlier : List (List ℕ) = map name before in
      let f1 = name_fault earlier place (name x) in
      let f2 = prior_fault (prior_limit scaled) place (prior x) in
      let f3 = fault_unless (are_rows items targets 4 (payoffs x)) 9 place in
      let weight : Data = integer (prior x) in
      let listing : Data = table_data (map items (payoffs x)) in
      let last = into (pay_table_at place targets 4 listing) (security_form (name x) (prior x)) f3 (map items (payoffs x)) (table_told items place targets 4 (payoffs x))
      ∙ ap (λ y. told f3 y) (formed x own) in
      rw (names_read name is named before)
      (after (new_name place earlier (string (name x))) (λ own_name. prior_at place scaled weight >>= (λ often. pay_table_at place targets 4 listing >>= (λ lists. Ok (security_form own_name often lists))))
      f1 (f2 orelse f3) (name x) (is x) (new_name-string place earlier (name x)) (λ e1.
      after (prior_at place scaled weight) (λ often. pay_table_at place targets 4 listing >>= (λ lists. Ok (security_form (name x) often lists)))
      f2 f3 (prior x) (is x) (number_at-integer place (pos 1) (prior_limit scaled) (prior x)) (λ e2. last)))

  pub security_types_told : (xs : List X) → All P xs → security_types_at scaled targets (listed (map spell_security xs)) ≡ told (all_types_fault name security_fault (type_limit scaled) xs) (map is xs)
  unfolding security_types_at
  security_types_told xs own =
      let values : List Data = map spell_security xs in
      let some : some_at place_of.Document (type_limit scaled) (listed values) ≡ told (count_fault (type_limit scaled) place_of.Document (length xs)) (items_of values) =
      rw (← length-map xs spell_security) (some_at-listed place_of.Document (type_limit scaled) values) in
      let read : List Attacker → Data → Result Attacker GameFault = λ before. security_type_at (place_of.Attacker (length before + 1)) scaled targets before in
      let one : ReadsEach name security_fault place_of.Attacker spell_security is P read =
      λ before x h. rw (length-map before is, length-map before name) (security_told (place_of.Attacker (length before + 1)) before x h) in
      after (some_at place_of.Document (type_limit scaled) (listed values)) (λ entries. each read [] entries) (count_fault (type_limit scaled) place_of.Document (length xs))
      (entries_fault name security_fault place_of.Attacker [] xs) (items_of values) (map is xs) some
      (λ e. each-entries name security_fault place_of.Attacker spell_security is P read one [] xs own)

-- in matrix form

-- the type that is read of a name, a prior, actions and two tables
abbrev pub matrix_form : List ℕ → ℤ → List (List ℕ) → List (List ℤ) → List (List ℤ) → Attacker
matrix_form name prior actions leader follower = record { name = name; prior = prior; payoffs = []; actions = actions; leader = leader; follower = follower }

module _ {X N V : Type 0} (name : X → List ℕ) (prior : X → ℤ) (actions : X → List N) (action : N → List ℕ) (leader follower : X → List V) (items : V → List ℤ) (is : X → Attacker) (P : X → Type 0)
    (named : (x : X) → (is x).name ≡ name x)
    (formed : (x : X) → P x → matrix_form (name x) (prior x) (map action (actions x)) (map items (leader x)) (map items (follower x)) ≡ is x) (goals : ℕ) where
  -- the first fault of a type but for its name
  abbrev pub matrix_fault : Place → X → Option GameFault
  matrix_fault place x = prior_fault (prior_limit false) place (prior x) orelse (
      count_fault 64 place (length (actions x))
      orelse entries_fault action no_more (λ k. place) [] (actions x)
      orelse fault_unless (are_rows items goals (length (actions x)) (leader x)) 9 place
      orelse fault_unless (are_rows items goals (length (actions x)) (follower x)) 9 place)

  -- its table
  abbrev pub spell_matrix : X → Data
  spell_matrix x = matrix_type (name x) (prior x) (map action (actions x)) (map items (leader x)) (map items (follower x))

  matrix_told : (place : Place) (before : List X) (x : X) → P x
      → matrix_type_at place goals (map is before) (spell_matrix x) ≡ told (name_fault (map name before) place (name x) orelse matrix_fault place x) (is x)
  unfolding matrix_type_at
  matrix_told place before x own =
      let earlier : List (List ℕ) = map name before in
      let n : ℕ = length (actions x) in
      let f1 = name_fault earlier place (name x) in
      let f2 = prior_fault (prior_limit false) place (prior x) in
      let f3 = count_fault 64 place n orelse entries_fault action no_more (λ k. place) [] (actions x) in
      let f4 = fault_unless (are_rows items goals n (leader x)) 9 place in
      let f5 = fault_unless (are_rows items goals n (follower x)) 9 place in
      let weight : Data = integer (prior x) in
      let texts : List (List ℕ) = map action (actions x) in
      let first : List (List ℤ) = map items (leader x) in
      let second : List (List ℤ) = map items (follower x) in
      let last = into (pay_table_at place goals n (table_data second)) (matrix_form (name x) (prior x) texts first) f5 second (table_told items place goals n (follower x))
      ∙ ap (λ y. told f5 y) (formed x own) in
      let tables = after (pay_table_at place goals n (table_data first)) (λ leads. pay_table_at place goals n (table_data second) >>= (λ follows. Ok (matrix_form (name x) (prior x) texts leads follows)))
      f4 f5 first (is x) (table_told items place goals n (leader x)) (λ e. last) in
      rw (names_read name is named before, in_turn f3 f4 f5)
      (after (new_name place earlier (string (name x)))
      (λ own_name. prior_at place false weight >>= (λ often. names_at place (λ k. place) 64 (names_data texts) >>= (λ acts.
      pay_table_at place goals (length acts) (table_data first) >>= (λ leads. pay_table_at place goals (length acts) (table_data second) >>= (λ follows. Ok (matrix_form own_name often acts leads follows))))))
      f1 (f2 orelse (f3 orelse (f4 orelse f5))) (name x) (is x) (new_name-string place earlier (name x)) (λ e1.
      after (prior_at place false weight)
      (λ often. names_at place (λ k. place) 64 (names_data texts) >>= (λ acts.
      pay_table_at place goals (length acts) (table_data first) >>= (λ leads. pay_table_at place goals (length acts) (table_data second) >>= (λ follows. Ok (matrix_form (name x) often acts leads follows)))))
      f2 (f3 orelse (f4 orelse f5)) (prior x) (is x) (number_at-integer place (pos 1) (prior_limit false) (prior x)) (λ e2.
      after (names_at place (λ k. place) 64 (names_data texts))
      (λ acts. pay_table_at place goals (length acts) (table_data first) >>= (λ leads. pay_table_at place goals (length acts) (table_data second) >>= (λ follows. Ok (matrix_form (name x) (prior x) acts leads follows))))
      f3 (f4 orelse f5) texts (is x) (names_at-array action place (λ k. place) 64 (actions x)) (λ e3. rw (length-map (actions x) action) tables))))

  pub matrix_types_told : (xs : List X) → All P xs → matrix_types_at goals (listed (map spell_matrix xs)) ≡ told (all_types_fault name matrix_fault (type_limit false) xs) (map is xs)
  unfolding matrix_types_at
  matrix_types_told xs own =
      let values : List Data = map spell_matrix xs in
      let some : some_at place_of.Document 8 (listed values) ≡ told (count_fault 8 place_of.Document (length xs)) (items_of values) =
      rw (← length-map xs spell_matrix) (some_at-listed place_of.Document 8 values) in
      let read : List Attacker → Data → Result Attacker GameFault = λ before. matrix_type_at (place_of.Attacker (length before + 1)) goals before in
      let one : ReadsEach name matrix_fault place_of.Attacker spell_matrix is P read =
      λ before x h. rw (length-map before is, length-map before name) (matrix_told (place_of.Attacker (length before + 1)) before x h) in
      after (some_at place_of.Document 8 (listed values)) (λ entries. each read [] entries) (count_fault 8 place_of.Document (length xs))
      (entries_fault name matrix_fault place_of.Attacker [] xs) (items_of values) (map is xs) some
      (λ e. each-entries name matrix_fault place_of.Attacker spell_matrix is P read one [] xs own)
