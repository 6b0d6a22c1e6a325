-- The types of a document with other payoffs at one target are read with those payoffs.
use Rattle.std.proofs.Common.{◌≡◌, ℕ, zero, suc, ◌<◌, ◌+◌, ◌-◌, ◌^◌, Bool, true, ◌==◌, nat_le, nat_lt, int_le, List, [], ◌∷◌, ◌++◌, length, map, take, get_or, ℤ, pos, ◌-ℤ◌, Some, Result, Ok, refl, sym, ap, ◌∙◌, arith}
use Rattle.std.specs.Prelude.{codes}
use Rattle.std.proofs.lemmas.Int.{ints}
use Rattle.std.proofs.lemmas.Bool.Decides.{nat_tests}
use Rattle.std.proofs.lemmas.List.{length-map, length_push}
use Rattle.std.proofs.Math.Seq.{get_or-append_seam}
use Rattle.sg_model.proofs.Numbers.{nth-map}
use Rattle.toml.specs.Data.{Data, Items, Members, array, get_item, get_member, integer, item, no_items, table}
use Rattle.sg_model.specs.declared.fault.Place.{Place}
use Rattle.sg_model.specs.declared.fault.Place.TheVariants as place_of
use Rattle.sg_model.specs.declared.fault.GameFault.{GameFault}
use Rattle.sg_model.specs.Games.{Attacker, Payoff, nothing, payoff_of}
use Rattle.sg_model.specs.Limits.{IsPayoff, IsWithin}
use Rattle.sg_model.specs.Steps.{◌>>=◌}
use Rattle.sg_model.specs.declared.reason.TheConstants.{OUT_OF_RANGE}
use Rattle.sg_format.specs.Documents.{has_only, items_at, number_at}
use Rattle.sg_format.specs.Lists.{each, item_count, new_name, some_at}
use Rattle.sg_format.specs.Types.{is_security_type_key, pay_table_at, pays_at, prior_at, security_type_at, security_types_at}
use Rattle.sg_format.specs.Parts.{Changes, at_key, at_number, set_item}
use Rattle.sg_format.specs.PartLaws.{payoff_array}
use Rattle.sg_format.proofs.Inversion.{after, after_test}
use Rattle.sg_format.proofs.Keys.{changed_only}
use Rattle.sg_format.proofs.Listed.{length-each, some_at-count}
use Rattle.sg_format.proofs.Entries.{count_set, entry_at, join_nothing, join_push, some_is}
use Rattle.sg_format.proofs.Parted.{only}
use Rattle.sg_format.proofs.Tables.{stays}
use Rattle.sg_format.proofs.SecurityTables.{security_table}

pub number_right : (place : Place) (low high z : ℤ) → IsWithin low high z → number_at place low high (integer z) ≡ Ok z
unfolding number_at
number_right place low high z is =
    let a : int_le low z ≡ true = sym (omega (arith, ints, is.at_least)) in
    let b : int_le z high ≡ true = sym (omega (arith, ints, is.at_most)) in
    rw (a, b) refl

-- one entry, read with none before it
pub record IsOneEntry {A : Type 0} (read : List A → Data → Result A GameFault) (items : Items) (xs : List A) : Type 0 where
  pub entry : Data
  pub value : A
  pub is : items ≡ item entry no_items
  pub all : xs ≡ value ∷ []
  pub first : read [] entry ≡ Ok value

pub one_entry : {A : Type 0} (read : List A → Data → Result A GameFault) (items : Items) (xs : List A) → each read [] items ≡ Ok xs → item_count items ≡ 1 → IsOneEntry read items xs
unfolding each
one_entry read no_items xs h n = absurd (cc)
one_entry read (item entry no_items) xs h n = after (read [] entry) h (λ x e last. record { entry = entry; value = x; is = refl; all = cc; first = e })
one_entry read (item entry (item next rest)) xs h n = absurd (cc)

pub each_one : {A : Type 0} (read : List A → Data → Result A GameFault) (entry : Data) (x : A) → read [] entry ≡ Ok x → each read [] (item entry no_items) ≡ Ok (x ∷ [])
unfolding each
each_one read entry x e = rw e refl

pub some_one : (place : Place) (value : Data) (items : Items) → some_at place 8 value ≡ Ok items → item_count items ≡ 1 → some_at place 1 value ≡ Ok items
unfolding some_at
some_one place value items h one =
    after (items_at place value) h (λ found e rest.
    after_test (nat_lt 0 (item_count found)) _ _ rest (λ some more.
    after_test (nat_le (item_count found) 8) _ _ more (λ few last.
    let same : found ≡ items = cc in
    let count = ap item_count same in
    let still : nat_le (item_count found) 1 ≡ true = grind (arith, nat_tests) in
    rw (e, some, still) last)))

pub one_type : (targets : ℕ) (value : Data) (items : Items) (types : List Attacker) (entry : Data) (x : Attacker) → some_at place_of.Document 1 value ≡ Ok items → items ≡ item entry no_items → types ≡ x ∷ []
    → each (λ others. security_type_at (place_of.Attacker (length others + 1)) true targets others) [] (item entry no_items) ≡ Ok (x ∷ []) → security_types_at true targets value ≡ Ok types
unfolding security_types_at
one_type targets value items types entry x few a b all = rw (few, a, b) all

module _ {A : Type 0} (f : Data → Result A GameFault) where
  -- entries that are read alike after any others
  record IsFree (items : Items) : Type 0 where
    later : List A
    is : (sofar : List A) → each (λ (others : List A). f) sofar items ≡ Ok (sofar ++ later)

  free : (sofar : List A) (items : Items) (xs : List A) → each (λ (others : List A). f) sofar items ≡ Ok xs → IsFree items
  unfolding each
  free sofar no_items xs h = record { later = []; is = λ front. ap (λ (ys : List A). Ok ys) (sym (join_nothing front)) }
  free sofar (item value rest) xs h =
      after (f value) h (λ x first more.
      let g = free (sofar ++ x ∷ []) rest xs more in
      record { later = x ∷ g.later; is = λ front. rw first (g.is (front ++ x ∷ []) ∙ ap (λ (ys : List A). Ok ys) (join_push front x g.later)) })

  -- the entries with another one at an index, which is read to this value
  record IsReplaced (sofar : List A) (items : Items) (k : ℕ) (entry : Data) (x : A) : Type 0 where
    values : List A
    is : each (λ (others : List A). f) sofar (set_item k entry items) ≡ Ok values
    there : (d : A) → get_or values (length sofar + k) d ≡ x

  replaced : (sofar : List A) (items : Items) (xs : List A) (k : ℕ) (old new : Data) (x : A) → each (λ (others : List A). f) sofar items ≡ Ok xs → get_item k items ≡ Some old → f new ≡ Ok x
      → IsReplaced sofar items k new x
  unfolding each
  replaced sofar no_items xs k old new x h there e = absurd (cc)
  replaced sofar (item value rest) xs zero old new x h there e =
      after (f value) h (λ y first more.
      let g = free (sofar ++ y ∷ []) rest xs more in
      let same : length sofar + 0 ≡ length sofar = omega arith in
      record {
        values = sofar ++ x ∷ g.later;
        is = rw e (g.is (sofar ++ x ∷ []) ∙ ap (λ (ys : List A). Ok ys) (join_push sofar x g.later));
        there = λ d. rw same (get_or-append_seam sofar x g.later d);
      })
  replaced sofar (item value rest) xs (suc k) old new x h there e =
      after (f value) h (λ y first more.
      let g = replaced (sofar ++ y ∷ []) rest xs k old new x more there e in
      let same : length sofar + suc k ≡ length (sofar ++ y ∷ []) + k = omega (arith, length_push sofar y) in
      record {
        values = g.values;
        is = rw first g.is;
        there = λ d. rw same (g.there d);
      })

item_within : (k : ℕ) (items : Items) (entry : Data) → get_item k items ≡ Some entry → k < item_count items
item_within k no_items entry e = absurd (cc)
item_within zero (item first rest) entry e = omega arith
item_within (suc k) (item first rest) entry e = omega (arith, item_within k rest entry e)

-- a table of payoffs with another row
record HasRow (place : Place) (rows columns k : ℕ) (value : Data) (row : List ℤ) : Type 0 where
  values : List (List ℤ)
  is : pay_table_at place rows columns value ≡ Ok values
  there : (d : List ℤ) → get_or values k d ≡ row
  within : k < length values

other_row : (place : Place) (rows columns : ℕ) (items : Items) (xs : List (List ℤ)) (k : ℕ) (old new : Data) (row : List ℤ) → pay_table_at place rows columns (array items) ≡ Ok xs
    → get_item k items ≡ Some old → pays_at place columns new ≡ Ok row → HasRow place rows columns k (array (set_item k new items)) row
unfolding pay_table_at
other_row place rows columns items xs k old new row h there e =
    after_test (item_count items == rows) OUT_OF_RANGE place h (λ long rest.
    let read : Data → Result (List ℤ) GameFault = pays_at place columns in
    let g = replaced read [] items xs k old new row rest there e in
    let still = count_set k new items in
    let size = length-each (λ others. read) [] (set_item k new items) g.values g.is in
    record {
      values = g.values;
      is = rw (still, long) g.is;
      there = λ d. (let same : 0 + k ≡ k = omega arith in rw same at (g.there d));
      within = omega (arith, size, still, item_within k items old there);
    })

row_right : (place : Place) (p : Payoff) → IsPayoff p → pays_at place 4 (payoff_array p) ≡ Ok (p.dc ∷ p.du ∷ p.ac ∷ p.au ∷ [])
unfolding pays_at each
row_right place p is =
    let low = pos 0 -ℤ pos (2 ^ 30) in
    let high = pos (2 ^ 30) in
    let a = number_right place low high p.dc is.dc in
    let b = number_right place low high p.du is.du in
    let c = number_right place low high p.ac is.ac in
    let d = number_right place low high p.au is.au in
    rw (a, b, c, d) refl

security_right : (place : Place) (scaled : Bool) (targets : ℕ) (others : List Attacker) (t : Members) (own weight listed : Data) (text : List ℕ) (prior : ℤ) (rows : List (List ℤ))
    → has_only is_security_type_key t ≡ true → get_member (codes "name") t ≡ Some own → get_member (codes "prior") t ≡ Some weight → get_member (codes "payoffs") t ≡ Some listed
    → new_name place (map (λ (x : Attacker). x.name) others) own ≡ Ok text → prior_at place scaled weight ≡ Ok prior → pay_table_at place targets 4 listed ≡ Ok rows
    → security_type_at place scaled targets others (table t) ≡ Ok (record { name = text; prior = prior; payoffs = map payoff_of rows; actions = []; leader = []; follower = [] })
unfolding security_type_at
security_right place scaled targets others t own weight listed text prior rows a b c d n p f = rw (a, b, c, d, n, p, f) refl

-- a type with other payoffs at a target
record HasPayoffs (place : Place) (scaled : Bool) (targets : ℕ) (others : List Attacker) (value : Data) (k : ℕ) (p : Payoff) : Type 0 where
  attacker : Attacker
  is : security_type_at place scaled targets others value ≡ Ok attacker
  there : get_or attacker.payoffs k nothing ≡ p
  within : k < length attacker.payoffs

row_payoff : (values : List (List ℤ)) (k : ℕ) (p : Payoff) → k < length values → ((d : List ℤ) → get_or values k d ≡ p.dc ∷ p.du ∷ p.ac ∷ p.au ∷ []) → get_or (map payoff_of values) k nothing ≡ p
row_payoff values k p within there =
    let e = nth-map payoff_of values (suc k) nothing [] (omega arith) (omega (arith, within)) in
    let same : suc k - 1 ≡ k = omega arith in
    let at : get_or (map payoff_of values) k nothing ≡ payoff_of (get_or values k []) = rw same at e in
    at ∙ ap payoff_of (there [])

other_payoffs : (place : Place) (scaled : Bool) (targets : ℕ) (others : List Attacker) (first second : Data) (x : Attacker) (t : ℕ) (p : Payoff) → security_type_at place scaled targets others first ≡ Ok x
    → Changes (at_key (codes "payoffs") ∷ at_number t ∷ []) (payoff_array p) (Some first) second → IsPayoff p → (k : ℕ) × (HasPayoffs place scaled targets others second k p)
other_payoffs place scaled targets others first second x t p h c is =
    let key = codes "payoffs" in
    let was : first ≡ table c.old = only first (table c.old) c.was in
    let s = security_table place scaled targets others c.old x (rw was at h) in
    let change : Changes (at_number t ∷ []) (payoff_array p) (Some s.listed) c.value = rw s.listed_there at c.change in
    let array_is : s.listed ≡ array change.items = only s.listed (array change.items) change.was in
    let right : pays_at place 4 change.value ≡ Ok (p.dc ∷ p.du ∷ p.ac ∷ p.au ∷ []) = rw change.change (row_right place p is) in
    let row = other_row place targets 4 change.items s.rows change.index change.entry change.value (p.dc ∷ p.du ∷ p.ac ∷ p.au ∷ []) (rw array_is at s.rows_read) change.there right in
    let rows_is : pay_table_at place targets 4 c.value ≡ Ok row.values = ap (pay_table_at place targets 4) change.is ∙ row.is in
    let keys = changed_only is_security_type_key key (Some c.value) c.old c.new c.differs refl s.keys in
    let own = stays (codes "name") key (Some c.value) s.own c.old c.new refl c.differs s.own_there in
    let weight = stays (codes "prior") key (Some c.value) s.weight c.old c.new refl c.differs s.weight_there in
    let read = security_right place scaled targets others c.new s.own s.weight c.value s.text s.prior row.values keys own weight c.differs.here s.name_read s.prior_read rows_is in (
      change.index,
      record {
        attacker = record { name = s.text; prior = s.prior; payoffs = map payoff_of row.values; actions = []; leader = []; follower = [] };
        is = ap (security_type_at place scaled targets others) c.is ∙ read;
        there = row_payoff row.values change.index p row.within row.there;
        within = omega (arith, row.within, length-map row.values payoff_of);
      },
    )

-- the one type of a list with a scale, with other payoffs at a target
pub record HasOneType (targets : ℕ) (value : Data) (p : Payoff) : Type 0 where
  pub attacker : Attacker
  pub is : security_types_at true targets value ≡ Ok (attacker ∷ [])
  pub index : ℕ
  pub there : get_or attacker.payoffs index nothing ≡ p
  pub within : index < length attacker.payoffs

one_item : (items : Items) (k : ℕ) (old : Data) → item_count items ≡ 1 → get_item k items ≡ Some old → (new : Data) → set_item k new items ≡ item new no_items
one_item no_items k old n e new = absurd (cc)
one_item (item first no_items) zero old n e new = refl
one_item (item first no_items) (suc k) old n e new = absurd (cc)
one_item (item first (item next rest)) k old n e new = absurd (cc)

some_single : (place : Place) (value : Data) → some_at place 1 (array (item value no_items)) ≡ Ok (item value no_items)
unfolding some_at
some_single place value = refl

pub one_type_set : (targets : ℕ) (first second : Data) (types : List Attacker) (p : Payoff) (t : ℕ) → security_types_at true targets first ≡ Ok types
    → Changes (at_number 1 ∷ at_key (codes "payoffs") ∷ at_number t ∷ []) (payoff_array p) (Some first) second → IsPayoff p → HasOneType targets second p
unfolding security_types_at
one_type_set targets first second types p t h c is =
    let read : List Attacker → Data → Result Attacker GameFault = λ others. security_type_at (place_of.Attacker (length others + 1)) true targets others in
    let was : first ≡ array c.items = only first (array c.items) c.was in
    let start : (some_at place_of.Document 1 (array c.items) >>= (λ items. each read [] items)) ≡ Ok types = rw was at h in
    after (some_at place_of.Document 1 (array c.items)) start (λ found e1 rest.
    let found_is = some_is place_of.Document 1 c.items found e1 in
    let count = some_at-count place_of.Document 1 (array c.items) found e1 in
    let size : item_count c.items ≡ 1 = omega (arith, count.at_least, count.at_most, ap item_count found_is) in
    let whole_is : each read [] c.items ≡ Ok types = rw found_is at rest in
    let entry = entry_at read c.items types c.index c.entry whole_is c.there in
    let zero_is : c.index ≡ 0 = (let n = c.number in omega (arith, n)) in
    let front : take c.index types ≡ [] = ap (λ (k : ℕ). take k types) zero_is in
    let own : security_type_at (place_of.Attacker 1) true targets [] c.entry ≡ Ok entry.value = rw front at entry.is in
    let made = other_payoffs (place_of.Attacker 1) true targets [] c.entry c.value entry.value t p own c.change is in
    let alone = one_item c.items c.index c.entry size c.there c.value in
    let second_is : second ≡ array (item c.value no_items) = c.is ∙ ap (λ (i : Items). array i) alone in
    let few : some_at place_of.Document 1 second ≡ Ok (item c.value no_items) = ap (some_at place_of.Document 1) second_is ∙ some_single place_of.Document c.value in
    record {
      attacker = made.1.attacker;
      is = one_type targets second (item c.value no_items) (made.1.attacker ∷ []) c.value made.1.attacker few refl refl (each_one read c.value made.1.attacker made.1.is);
      index = made.0;
      there = made.1.there;
      within = made.1.within;
    })
