-- What the lists that are read promise: names, members, schedules and resources.
use Rattle.std.proofs.Common.{◌≡◌, ◌≢◌, ℕ, suc, ◌<◌, ◌≤◌, ◌+◌, Bool, true, false, not, ◌==◌, nat_le, nat_lt, List, [], ◌∷◌, ◌++◌, length, map, Some, Result, Ok, sym, ap, subst, ◌∙◌, arith, cond}
use Rattle.std.specs.Prelude.{codes, bytes_eq}
use Rattle.std.specs.List.{All, AllPairs, list_any, position_from}
use Rattle.std.proofs.lemmas.Bool.{true≢false, not-true}
use Rattle.std.proofs.lemmas.Bool.Decides.{Decides-eqb}
use Rattle.std.proofs.lemmas.List.{length_push, map_push}
use Rattle.std.proofs.lemmas.List.Elements.{All-nil, All-push, All-weaker}
use Rattle.std.proofs.lemmas.List.Quantifiers.{all_pairs_push}
use Rattle.toml.specs.Data.{Data, Items, no_items, item}
use Rattle.sg_model.specs.declared.fault.Place.{Place}
use Rattle.sg_model.specs.declared.fault.Place.TheVariants.{Document}
use Rattle.sg_model.specs.declared.fault.GameFault.{GameFault}
use Rattle.sg_model.specs.Games.{Named}
use Rattle.sg_model.specs.Names.{AreNames}
use Rattle.sg_model.specs.Limits.{AreLists, AreMembers, IsCount}
use Rattle.sg_model.proofs.Deciding.{at_most}
use Rattle.sg_format.specs.Documents.{has_only, needed_at, items_at, table_at, text_at}
use Rattle.sg_format.specs.Lists.{each, few_at, item_count, is_named_key, known_at, member_at, members_at, named_at, named_lists_at, names_at, new_name, number_of, some_at}
use Rattle.sg_format.proofs.Inversion.{after, after_test, needed_is}
use Rattle.sg_format.proofs.Values.{AreNames-nil, AreNames-push, IsNewName, new_name-new, none_passes}

module _ {A : Type 0} (read : List A → Data → Result A GameFault) where
  -- what each item keeps of those before it holds of all
  pub each-keeps : (Keeps : List A → Type 0) → ((before : List A) (value : Data) (x : A) → Keeps before → read before value ≡ Ok x → Keeps (before ++ x ∷ []))
      → (before : List A) (items : Items) (xs : List A) → Keeps before → each read before items ≡ Ok xs → Keeps xs
  unfolding each
  each-keeps Keeps step before no_items xs h e = let same : before ≡ xs = cc in subst Keeps same h
  each-keeps Keeps step before (item value rest) xs h e =
      after (read before value) e (λ x first more. each-keeps Keeps step (before ++ x ∷ []) rest xs (step before value x h first) more)

  -- as many values as items
  pub length-each : (before : List A) (items : Items) (xs : List A) → each read before items ≡ Ok xs → length xs ≡ length before + item_count items
  unfolding each
  length-each before no_items xs e = let same : before ≡ xs = cc in let n = ap length same in omega (arith, n)
  length-each before (item value rest) xs e =
      after (read before value) e (λ x first more. omega (arith, length-each (before ++ x ∷ []) rest xs more, length_push before x))

pub few_at-few : (place : Place) (limit : ℕ) (value : Data) (items : Items) → few_at place limit value ≡ Ok items → item_count items ≤ limit
unfolding few_at
few_at-few place limit value items h =
    after (items_at place value) h (λ found e rest.
    after_test (nat_le (item_count found) limit) _ _ rest (λ test last.
    let same : found ≡ items = cc in
    subst (λ (x : Items). item_count x ≤ limit) same (at_most test)))

pub some_at-count : (place : Place) (limit : ℕ) (value : Data) (items : Items) → some_at place limit value ≡ Ok items → IsCount 1 limit (item_count items)
unfolding some_at
some_at-count place limit value items h =
    after (items_at place value) h (λ found e rest.
    after_test (nat_lt 0 (item_count found)) _ _ rest (λ some more.
    after_test (nat_le (item_count found) limit) _ _ more (λ test last.
    let same : found ≡ items = cc in
    let is : IsCount 1 limit (item_count found) = record { at_least = at_most some; at_most = at_most test } in
    subst (λ (x : Items). IsCount 1 limit (item_count x)) same is)))

-- the number of values that are read from one to limit items
pub each-count : {A : Type 0} (read : List A → Data → Result A GameFault) (limit : ℕ) (items : Items) (xs : List A) → IsCount 1 limit (item_count items) → each read [] items ≡ Ok xs → IsCount 1 limit (length xs)
each-count read limit items xs h e =
    let n = length-each read [] items xs e in
    record { at_least = omega (arith, n, h.at_least); at_most = omega (arith, n, h.at_most) }

-- one to limit names, no two of them the same
pub record AreSomeNames (limit : ℕ) (names : List (List ℕ)) : Type 0 where
  pub apart : AreNames names
  pub count : IsCount 1 limit (length names)

pub names_at-names : (whole : Place) (place : ℕ → Place) (limit : ℕ) (value : Data) (names : List (List ℕ)) → names_at whole place limit value ≡ Ok names → AreSomeNames limit names
unfolding names_at
names_at-names whole place limit value names h =
    after (some_at whole limit value) h (λ items e rest.
    let read : List (List ℕ) → Data → Result (List ℕ) GameFault = λ before entry. new_name (place (length before + 1)) before entry in
    record {
      apart = each-keeps read AreNames (λ before entry name is first. AreNames-push before name is (new_name-new (place (length before + 1)) before entry name first)) [] items names AreNames-nil rest;
      count = each-count read limit items names (some_at-count whole limit value items e) rest;
    })

position-within : {X : Type 0} (test : X → Bool) (i : ℕ) (xs : List X) (n : ℕ) → position_from test i xs ≡ Some n → (i ≤ n) × (n < i + length xs)
position-within test i [] n e = absurd (cc)
position-within test i (x ∷ xs) n e = position-at (test x) (position-within test (i + 1) xs n) e
  where
    position-at : (b : Bool) → (position_from test (i + 1) xs ≡ Some n → (i + 1 ≤ n) × (n < i + 1 + length xs)) → cond b (Some i) (position_from test (i + 1) xs) ≡ Some n → (i ≤ n) × (n < i + suc (length xs))
    position-at true more h = let same : i ≡ n = cc in (omega (arith, same), omega (arith, same))
    position-at false more h = let q = more h in (omega (arith, q.0), omega (arith, q.1))

pub known_at-known : (place : Place) (known : List (List ℕ)) (value : Data) (n : ℕ) → known_at place known value ≡ Ok n → IsCount 1 (length known) n
unfolding known_at
known_at-known place known value n h =
    after (text_at place value) h (λ text e rest.
    let q = position-within (bytes_eq text) 1 known n (needed_is (number_of text known) _ _ n rest) in
    record { at_least = q.0; at_most = omega (arith, q.1) })

-- a number from 1 to count that isn't among those before it
record IsNewMember (count : ℕ) (before : List ℕ) (n : ℕ) : Type 0 where
  known : IsCount 1 count n
  new : All (λ x. x ≢ n) before

member_at-new : (place : Place) (known : List (List ℕ)) (before : List ℕ) (value : Data) (n : ℕ) → member_at place known before value ≡ Ok n → IsNewMember (length known) before n
unfolding member_at
member_at-new place known before value n h =
    after (known_at place known value) h (λ found e rest.
    after_test (not (list_any (λ other. other == found) before)) _ _ rest (λ test last.
    let same : found ≡ n = cc in
    let other = none_passes (λ x. x == found) before (not-true (list_any (λ other. other == found) before) test) in
    let is : IsNewMember (length known) before found = record {
      known = known_at-known place known value found e;
      new = All-weaker (λ x. (x == found) ≡ false) (λ x. x ≢ found) (λ x differs q. true≢false (sym ((Decides-eqb x found).1 q) ∙ differs)) before other;
    } in
    subst (IsNewMember (length known) before) same is))

-- the members so far
record AreMembersSoFar (count : ℕ) (members : List ℕ) : Type 0 where
  known : All (IsCount 1 count) members
  distinct : AllPairs (λ x y. x ≢ y) members

pub members_at-members : (place : Place) (known : List (List ℕ)) (limit : ℕ) (value : Data) (members : List ℕ) → members_at place known limit value ≡ Ok members → AreMembers (length known) limit members
unfolding members_at
members_at-members place known limit value members h =
    after (some_at place limit value) h (λ items e rest.
    let none : AreMembersSoFar (length known) [] = record { known = All-nil (IsCount 1 (length known)); distinct = λ i j d low high. absurd (omega (arith, high)) } in
    let all = each-keeps (member_at place known) (AreMembersSoFar (length known)) (λ before entry n is first.
    let new = member_at-new place known before entry n first in
    record {
      known = All-push (IsCount 1 (length known)) before n is.known new.known;
      distinct = all_pairs_push (λ x y. x ≢ y) before n is.distinct new.new;
    }) [] items members none rest in
    record {
      size = each-count (member_at place known) limit items members (some_at-count place limit value items e) rest;
      known = all.known;
      distinct = all.distinct;
    })

-- a schedule or a resource with a new name
record IsNewList (count limit : ℕ) (before : List Named) (x : Named) : Type 0 where
  name : IsNewName (map (λ (x : Named). x.name) before) x.name
  members : AreMembers count limit x.members

named_at-new : (place : Place) (key : List ℕ) (known : List (List ℕ)) (limit : ℕ) (before : List Named) (value : Data) (x : Named) → named_at place key known limit before value ≡ Ok x → IsNewList (length known) limit before x
unfolding named_at
named_at-new place key known limit before value x h =
    after (table_at place value) h (λ table e1 h1.
    after_test (has_only (is_named_key key) table) _ _ h1 (λ e2 h2.
    after (needed_at place (codes "name") table) h2 (λ own e3 h3.
    after (needed_at place key table) h3 (λ listed e4 h4.
    after (new_name place (map (λ (x : Named). x.name) before) own) h4 (λ name e5 h5.
    after (members_at place known limit listed) h5 (λ members e6 last.
    let y : Named = record { name = name; members = members } in
    let same : y ≡ x = cc in
    let is : IsNewList (length known) limit before y = record {
      name = new_name-new place (map (λ (x : Named). x.name) before) own name e5;
      members = members_at-members place known limit listed members e6;
    } in
    subst (IsNewList (length known) limit before) same is))))))

-- the lists so far
record AreListsSoFar (count limit : ℕ) (lists : List Named) : Type 0 where
  names : AreNames (map (λ (x : Named). x.name) lists)
  members : All (λ (x : Named). AreMembers count limit x.members) lists

pub named_lists_at-lists : (place : ℕ → Place) (key : List ℕ) (known : List (List ℕ)) (limit members_limit : ℕ) (value : Data) (lists : List Named)
    → named_lists_at place key known limit members_limit value ≡ Ok lists → AreLists (length known) limit members_limit lists
unfolding named_lists_at
named_lists_at-lists place key known limit members_limit value lists h =
    after (few_at Document limit value) h (λ items e rest.
    let read : List Named → Data → Result Named GameFault = λ before. named_at (place (length before + 1)) key known members_limit before in
    let none : AreListsSoFar (length known) members_limit [] = record { names = AreNames-nil; members = All-nil (λ (x : Named). AreMembers (length known) members_limit x.members) } in
    let all = each-keeps read (AreListsSoFar (length known) members_limit) (λ before entry x is first.
    let new = named_at-new (place (length before + 1)) key known members_limit before entry x first in
    let names = AreNames-push (map (λ (x : Named). x.name) before) x.name is.names new.name in
    record {
      names = subst AreNames (sym (map_push (λ (x : Named). x.name) before x)) names;
      members = All-push (λ (x : Named). AreMembers (length known) members_limit x.members) before x is.members new.members;
    }) [] items lists none rest in
    let few = few_at-few Document limit value items e in
    let count = length-each read [] items lists rest in
    record {
      few = omega (arith, few, count);
      names = all.names;
      members = all.members;
    })
