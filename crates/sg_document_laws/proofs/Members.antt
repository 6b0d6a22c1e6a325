-- Reading the schedules and the resources of a document that spells parts.
use Rattle.std.proofs.Common.{◌≡◌, ◌∙◌, ℕ, zero, suc, ◌+◌, ◌<◌, ◌≤◌, Bool, true, false, not, ◌&&◌, ◌==◌, List, [], ◌∷◌, ◌++◌, length, map, get_or, Option, Some, None, Result, Ok, refl, sym, ap, subst, inl, inr, arith}
use Rattle.std.specs.Prelude.{bytes_eq, codes, nat_eq, nat_le}
use Rattle.std.specs.List.{All, list_any, position_from}
use Rattle.std.proofs.lemmas.Bool.{cases_Bool, leb-true}
use Rattle.std.proofs.lemmas.Bool.Decides.{nat_tests}
use Rattle.std.proofs.lemmas.List.{append_assoc, append-nil, get_or_default, get_or_past, length-map}
use Rattle.std.proofs.lemmas.List.Elements.{All-head, All-tail, All-weaker}
use Rattle.std.proofs.lemmas.Slice.Eq.{bytes_eq-Decides}
use Rattle.toml.specs.Data.{Data, Members, no_members, member, get_member, string}
use Rattle.sg_model.specs.declared.fault.Place.{Place}
use Rattle.sg_model.specs.declared.fault.Place.TheVariants.{Document}
use Rattle.sg_model.specs.declared.fault.GameFault.{GameFault}
use Rattle.sg_model.specs.Games.{Named}
use Rattle.sg_model.specs.Names.{AreNames, is_name}
use Rattle.sg_model.specs.Sums.{nth}
use Rattle.sg_game.specs.Faults.{◌orelse◌, fault_unless, each_member_fault, member_fault, name_fault, entries_fault}
use Rattle.sg_game.proofs.Steps.{and_both}
use Rattle.sg_model.specs.Steps.{◌>>=◌}
use Rattle.sg_format.specs.Steps.{needed, passed}
use Rattle.sg_format.specs.Documents.{has_only}
use Rattle.sg_format.specs.Lists.{each, few_at, is_named_key, known_at, member_at, members_at, named_at, named_lists_at, new_name, number_of, some_at}
use Rattle.sg_format.specs.FaultExamples.{items_of, listed}
use Rattle.sg_document_laws.specs.Tables.{member_names, named_data, names_data}
use Rattle.sg_document_laws.specs.Orders.{told}
use Rattle.sg_document_laws.proofs.Told.{after, into, last_test}
use Rattle.sg_document_laws.proofs.Listed.{ReadsEach, all_any, count_fault, each-entries, few_at-listed, map_map, new_name-string, some_at-listed}

-- the number of a name

first_at : {X : Type 0} (test : X → Bool) (i : ℕ) (xs : List X) (j : ℕ) → j < length xs → ((d : X) → test (get_or xs j d) ≡ true)
    → ((k : ℕ) (d : X) → k < j → test (get_or xs k d) ≡ false) → position_from test i xs ≡ Some (i + j)
first_at test i [] j low holds before = absurd (omega (arith, low))
first_at test i (x ∷ xs) zero low holds before =
    let here : test x ≡ true = holds x in
    let e : i ≡ i + 0 = omega arith in
    rw here (ap (λ n. Some n) e)
first_at test i (x ∷ xs) (suc j) low holds before =
    let other : test x ≡ false = before 0 x (omega arith) in
    let e : i + 1 + j ≡ i + suc j = omega arith in
    rw other (first_at test (i + 1) xs j (omega (arith, low)) holds (λ k d lt. before (suc k) d (omega (arith, lt))) ∙ ap (λ n. Some n) e)

none_at : {X : Type 0} (test : X → Bool) (i : ℕ) (xs : List X) → All (λ x. test x ≡ false) xs → position_from test i xs ≡ None
none_at test i [] h = refl
none_at test i (x ∷ xs) h =
    let other : test x ≡ false = All-head (λ x. test x ≡ false) x xs h in
    rw other (none_at test (i + 1) xs (All-tail (λ x. test x ≡ false) x xs h))

not_empty : (name : List ℕ) → is_name name ≡ true → bytes_eq [] name ≡ false
unfolding is_name
not_empty [] h = absurd (cc)
not_empty (x ∷ xs) h = refl

-- the first fault of members: none of them, too many, or one of them
abbrev pub all_members_fault : ℕ → ℕ → Place → List ℕ → Option GameFault
all_members_fault count limit place ms = count_fault limit place (length ms) orelse each_member_fault count place [] ms

module _ (names : List (List ℕ)) (h : AreNames names) where
  -- the empty text is none of the names
  none_empty : number_of [] names ≡ None
  none_empty = none_at (bytes_eq []) 1 names (All-weaker (λ (name : List ℕ). is_name name ≡ true) (λ name. bytes_eq [] name ≡ false) not_empty names h.spelled)

  differs : (j k : ℕ) (d : List ℕ) → k < j → j < length names → bytes_eq (get_or names j []) (get_or names k d) ≡ false
  differs j k d lt low = elim (cases_Bool (bytes_eq (get_or names j []) (get_or names k d))) [
    | inl e ↦ (
        let same : get_or names j [] ≡ get_or names k d = (bytes_eq-Decides (get_or names j []) (get_or names k d)).0 e in
        let other : get_or names k d ≡ get_or names k [] = get_or_default names k d [] (omega (arith, lt, low)) in
        absurd (h.distinct k j [] lt low (sym (same ∙ other))))
    | inr e ↦ e
  ]

  known_number : (j : ℕ) → j < length names → number_of (get_or names j []) names ≡ Some (suc j)
  known_number j low =
      let e : 1 + j ≡ suc j = omega arith in
      first_at (bytes_eq (get_or names j [])) 1 names j low
      (λ d. (bytes_eq-Decides (get_or names j []) (get_or names j d)).1 (get_or_default names j [] d low))
      (λ k d lt. differs j k d lt low) ∙ ap (λ n. Some n) e

  known_is : (m : ℕ) → (nat_le 1 m && nat_le m (length names)) ≡ true → number_of (nth names m []) names ≡ Some m
  known_is zero e = absurd (cc)
  known_is (suc j) e = let p = and_both (nat_le 1 (suc j)) (nat_le (suc j) (length names)) e in known_number j (let q = leb-true (suc j) (length names) p.1 in omega (arith, q))

  unknown_is : (m : ℕ) → (nat_le 1 m && nat_le m (length names)) ≡ false → number_of (nth names m []) names ≡ None
  unknown_is zero e = none_empty
  unknown_is (suc j) e =
      let past : length names ≤ j = grind (arith, nat_tests) in
      let empty : get_or names j [] ≡ [] = get_or_past names j [] past in
      rw empty none_empty

  number_told : (place : Place) (m : ℕ) → needed (number_of (nth names m []) names) 7 place ≡ told (fault_unless (nat_le 1 m && nat_le m (length names)) 7 place) m
  number_told place m = elim (cases_Bool (nat_le 1 m && nat_le m (length names))) [
    | inl e ↦ (let q = known_is m e in rw (q, e) refl)
    | inr e ↦ (let q = unknown_is m e in rw (q, e) refl)
  ]

  -- members

  member_told : (place : Place) (before : List ℕ) (m : ℕ) → member_at place names before (string (nth names m [])) ≡ told (member_fault (length names) place before m) m
  unfolding member_at known_at
  member_told place before m =
      after (known_at place names (string (nth names m []))) (λ number. passed (not (list_any (λ other. other == number) before)) 8 place >>= (λ new. Ok number))
      (fault_unless (nat_le 1 m && nat_le m (length names)) 7 place) (fault_unless (not (list_any (λ known. nat_eq known m) before)) 8 place) m m (number_told place m)
      (λ e. last_test (not (list_any (λ known. nat_eq known m) before)) 8 place m)

  each_member_told : (place : Place) (before ms : List ℕ) → each (member_at place names) before (items_of (map string (member_names names ms))) ≡ told (each_member_fault (length names) place before ms) (before ++ ms)
  unfolding each
  each_member_told place before [] = rw (append-nil before) refl
  each_member_told place before (m ∷ ms) =
      let more = each_member_told place (before ++ m ∷ []) ms in
      let tail = rw (append_assoc before (m ∷ []) ms) at more in
      after (member_at place names before (string (nth names m []))) (λ y. each (member_at place names) (before ++ y ∷ []) (items_of (map string (member_names names ms))))
      (member_fault (length names) place before m) (each_member_fault (length names) place (before ++ m ∷ []) ms) m (before ++ m ∷ ms) (member_told place before m) (λ e. tail)

  pub members_told : (place : Place) (limit : ℕ) (ms : List ℕ) → members_at place names limit (names_data (member_names names ms)) ≡ told (all_members_fault (length names) limit place ms) ms
  unfolding members_at
  members_told place limit ms =
      let values : List Data = map string (member_names names ms) in
      let many : length values ≡ length ms = length-map (member_names names ms) string ∙ length-map ms (λ m. nth names m []) in
      let some : some_at place limit (listed values) ≡ told (count_fault limit place (length ms)) (items_of values) = rw (← many) (some_at-listed place limit values) in
      after (some_at place limit (listed values)) (λ items. each (member_at place names) [] items) (count_fault limit place (length ms)) (each_member_fault (length names) place [] ms)
      (items_of values) ms some (λ e. each_member_told place [] ms)

-- schedules and resources

-- the members of the table of a schedule or a resource
abbrev named_members : List ℕ → Data → Data → Members
named_members key own members = member (codes "name") own (member key members no_members)

-- the key is that of members
pub record IsMembersKey (key : List ℕ) : Type 0 where
  pub only : (own members : Data) → has_only (is_named_key key) (named_members key own members) ≡ true
  pub there : (own members : Data) → get_member key (named_members key own members) ≡ Some members

pub targets_key : IsMembersKey (codes "targets")
targets_key = record { only = λ own members. refl; there = λ own members. refl }

pub schedules_key : IsMembersKey (codes "schedules")
schedules_key = record { only = λ own members. refl; there = λ own members. refl }

module _ {X : Type 0} (name : X → List ℕ) (members : X → List ℕ) (key : List ℕ) (is_key : IsMembersKey key) (names : List (List ℕ)) (h : AreNames names) where
  -- the schedule or resource that is read
  abbrev pub read_named : X → Named
  read_named x = record { name = name x; members = members x }

  -- its table
  abbrev pub spell_named : X → Data
  spell_named x = named_data key names (name x) (members x)

  -- the first fault of its members, of which there may be so many
  abbrev pub rest_fault : ℕ → ℕ → Place → X → Option GameFault
  rest_fault count limit place x = all_members_fault count limit place (members x)

  named_told : (place : Place) (limit : ℕ) (before : List X) (x : X)
      → named_at place key names limit (map read_named before) (spell_named x) ≡ told (name_fault (map name before) place (name x) orelse rest_fault (length names) limit place x) (read_named x)
  unfolding named_at
  named_told place limit before x =
      let own : Data = string (name x) in
      let listing : Data = names_data (member_names names (members x)) in
      rw (is_key.only own listing, is_key.there own listing, map_map (λ (y : Named). y.name) read_named before)
      (after (new_name place (map name before) own) (λ read. members_at place names limit listing >>= (λ numbers. Ok (record { name = read; members = numbers })))
      (name_fault (map name before) place (name x)) (rest_fault (length names) limit place x) (name x) (read_named x) (new_name-string place (map name before) (name x))
      (λ e. into (members_at place names limit listing) (λ numbers. record { name = name x; members = numbers }) (rest_fault (length names) limit place x) (members x) (members_told names h place limit (members x))))

  -- the first fault of the list: too many, or one of them
  abbrev pub all_named_fault : ℕ → ℕ → ℕ → (ℕ → Place) → List X → Option GameFault
  all_named_fault count limit members_limit place lists = fault_unless (nat_le (length lists) limit) 10 Document orelse entries_fault name (rest_fault count members_limit) place [] lists

  each_told : (place : ℕ → Place) (limit members_limit : ℕ) (lists : List X)
      → named_lists_at place key names limit members_limit (listed (map spell_named lists)) ≡ told (all_named_fault (length names) limit members_limit place lists) (map read_named lists)
  unfolding named_lists_at
  each_told place limit members_limit lists =
      let values : List Data = map spell_named lists in
      let few : few_at Document limit (listed values) ≡ told (fault_unless (nat_le (length lists) limit) 10 Document) (items_of values) = rw (← length-map lists spell_named) (few_at-listed Document limit values) in
      let read : List Named → Data → Result Named GameFault = λ before. named_at (place (length before + 1)) key names members_limit before in
      let one : ReadsEach name (rest_fault (length names) members_limit) place spell_named read_named (λ (x : X). Unit {0}) read =
      λ before x u. rw (length-map before read_named, length-map before name) (named_told (place (length before + 1)) members_limit before x) in
      after (few_at Document limit (listed values)) (λ items. each read [] items) (fault_unless (nat_le (length lists) limit) 10 Document)
      (entries_fault name (rest_fault (length names) members_limit) place [] lists) (items_of values) (map read_named lists) few
      (λ e. each-entries name (rest_fault (length names) members_limit) place spell_named read_named (λ (x : X). Unit {0}) read one [] lists (all_any lists))

  pub lists_told : (count : ℕ) → length names ≡ count → (place : ℕ → Place) (limit members_limit : ℕ) (lists : List X)
      → named_lists_at place key names limit members_limit (listed (map spell_named lists)) ≡ told (all_named_fault count limit members_limit place lists) (map read_named lists)
  lists_told count many place limit members_limit lists =
      subst (λ (n : ℕ). named_lists_at place key names limit members_limit (listed (map spell_named lists)) ≡ told (all_named_fault n limit members_limit place lists) (map read_named lists))
      many (each_told place limit members_limit lists)
