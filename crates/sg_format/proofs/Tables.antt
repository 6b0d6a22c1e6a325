-- Tables that differ at one key, and a schedule or a resource in which one part breaks its rule.
use Rattle.std.proofs.Common.{◌≡◌, ◌≢◌, ℕ, Bool, true, false, ◌||◌, List, [], ◌∷◌, Option, Some, None, Result, Ok, is_some, refl, sym, ap, subst, ◌∙◌, inl, inr}
use Rattle.std.proofs.lemmas.Bool.{cases_Bool}
use Rattle.std.proofs.lemmas.Slice.Eq.{bytes_eq-Decides}
use Rattle.std.specs.Prelude.{bytes_eq, codes}
use Rattle.std.specs.List.{AllPairs, list_any}
use Rattle.toml.specs.Data.{Data, Members, no_members, member, as_table, get_member, table}
use Rattle.sg_model.specs.declared.fault.Place.{Place}
use Rattle.sg_model.specs.declared.fault.GameFault.{GameFault}
use Rattle.sg_model.specs.Games.{Named}
use Rattle.sg_model.specs.Steps.{◌>>=◌}
use Rattle.sg_format.specs.Steps.{needed, refused}
use Rattle.sg_model.specs.declared.reason.TheConstants.{MISSING_KEY, WRONG_KIND, UNKNOWN_KEY}
use Rattle.sg_format.specs.Documents.{has_only, needed_at}
use Rattle.sg_format.specs.Lists.{is_named_key, members_at, named_at, new_name}
use Rattle.sg_format.specs.Changes.{DiffersAt}
use Rattle.sg_format.specs.Parts.{Agrees, is_read_before, Group, NamedPart, members, members_key, named_path, named_rule, names_of, own_name, resources, schedules, table_with, whole_named}
use Rattle.sg_format.proofs.Inversion.{after, after_test, needed_is}
use Rattle.sg_format.proofs.Keys.{apart, known_found, only_from, same}
use Rattle.sg_format.proofs.Broken.{need_fails, new_name_fails, no_reason, reason_of, test_fails, tested}
use Rattle.sg_format.proofs.Parted.{members_part_fails, only}

-- tests that agree on each key agree on a table
pub same_keys : (p q : List ℕ → Bool) → ((key : List ℕ) → p key ≡ q key) → (t : Members) → has_only p t ≡ has_only q t
same_keys p q h no_members = refl
same_keys p q h (member key value rest) = let a = h key in let b = same_keys p q h rest in rw (a, b) refl

or_none : (a : Bool) → (a || false) ≡ a
or_none true = refl
or_none false = refl

or_join : (a b c : Bool) → (a || (b || c)) ≡ ((a || b) || c)
or_join true b c = refl
or_join false b c = refl

two_keys : (a b : Bool) → (a || (b || false)) ≡ (a || b)
two_keys a b = ap (λ x. a || x) (or_none b)

pub three_keys : (a b c : Bool) → (a || (b || (c || false))) ≡ ((a || b) || c)
three_keys a b c = ap (λ x. a || x) (two_keys b c) ∙ or_join a b c

pub five_keys : (a b c d e : Bool) → (a || (b || (c || (d || (e || false))))) ≡ ((((a || b) || c) || d) || e)
five_keys true b c d e = refl
five_keys false true c d e = refl
five_keys false false c d e = three_keys c d e

-- a key that isn't there, or a fault of what comes after it
pub lack_fails : {B : Type 0} (o : Option Data) (later : Option ℕ) (place : Place) (next : Data → Result B GameFault) (r : ℕ) → tested (is_some o) MISSING_KEY later ≡ Some r
    → ((x : Data) → later ≡ Some r → next x ≡ refused r place) → (needed o MISSING_KEY place >>= next) ≡ refused r place
lack_fails None later place next r e k = let one : MISSING_KEY ≡ r = cc in rw one refl
lack_fails (Some x) later place next r e k = k x e

named_table_fails : (place : Place) (key : List ℕ) (known : List (List ℕ)) (limit : ℕ) (others : List Named) (value : Data) (r : ℕ) → reason_of (table_with (codes "name" ∷ key ∷ [])) value ≡ Some r
    → named_at place key known limit others value ≡ refused r place
unfolding named_at
named_table_fails place key known limit others value r e =
    need_fails (as_table value) WRONG_KIND _ place _ r e (λ t here e1.
    let keys = same_keys (λ k. list_any (bytes_eq k) (codes "name" ∷ key ∷ [])) (is_named_key key) (λ k. two_keys (bytes_eq k (codes "name")) (bytes_eq k key)) t in
    test_fails (has_only (is_named_key key) t) UNKNOWN_KEY _ place _ r (rw keys at e1) (λ fine e2.
    lack_fails (get_member (codes "name") t) _ place _ r e2 (λ own e3.
    lack_fails (get_member key t) _ place _ r e3 (λ listed e4. no_reason r e4))))

-- a value that is there
there_by : (o : Option Data) → is_some o ≡ true → (x : Data) × (o ≡ Some x)
there_by None e = absurd (cc)
there_by (Some x) e = (x, refl)

-- some value stands at another key than the one at which two tables part
pub later_there : (other_name key : List ℕ) (old new : Members) (x : Data) → ((other : List ℕ) → other ≢ key → is_some (get_member other new) ≡ is_some (get_member other old)) → bytes_eq other_name key ≡ false
    → get_member other_name old ≡ Some x → (y : Data) × (get_member other_name new ≡ Some y)
later_there other_name key old new x keys e there = there_by (get_member other_name new) (keys other_name (apart other_name key e) ∙ ap is_some there)

-- where the other keys stay, all keys stay known
pub agreed_only : (p : List ℕ → Bool) (key : List ℕ) (old new : Members) → ((other : List ℕ) → other ≢ key → is_some (get_member other new) ≡ is_some (get_member other old)) → p key ≡ true
    → has_only p old ≡ true → has_only p new ≡ true
agreed_only p key old new keys known all =
    only_from p new (λ k w e. elim (cases_Bool (bytes_eq k key)) [
      | inl holds ↦ subst (λ (x : List ℕ). p x ≡ true) (sym (same k key holds)) known
      | inr other ↦ (
          let was = there_by (get_member k old) (sym (keys k (apart k key other)) ∙ ap is_some e) in
          known_found p k old was.0 all was.1)
    ])

-- the value at another key than the changed one
pub stays : (key changed : List ℕ) (value : Option Data) (x : Data) (first second : Members) → bytes_eq key changed ≡ false → DiffersAt changed value first second
    → get_member key first ≡ Some x → get_member key second ≡ Some x
stays key changed value x first second e d there = d.elsewhere key (apart key changed e) ∙ there

-- what stands at the keys of a schedule or a resource
record IsNamedTable (place : Place) (key : List ℕ) (known : List (List ℕ)) (limit : ℕ) (others : List Named) (t : Members) (x : Named) : Type 0 where
  own : Data
  listed : Data
  keys : has_only (is_named_key key) t ≡ true
  own_there : get_member (codes "name") t ≡ Some own
  listed_there : get_member key t ≡ Some listed
  name_read : new_name place (names_of others) own ≡ Ok x.name
  members_read : members_at place known limit listed ≡ Ok x.members

named_table : (place : Place) (key : List ℕ) (known : List (List ℕ)) (limit : ℕ) (others : List Named) (t : Members) (x : Named) → named_at place key known limit others (table t) ≡ Ok x
    → IsNamedTable place key known limit others t x
unfolding named_at
named_table place key known limit others t x h =
    after_test (has_only (is_named_key key) t) _ _ h (λ e2 h2.
    after (needed_at place (codes "name") t) h2 (λ own e3 h3.
    after (needed_at place key t) h3 (λ listed e4 h4.
    after (new_name place (names_of others) own) h4 (λ text e5 h5.
    after (members_at place known limit listed) h5 (λ numbers e6 last.
    let y : Named = record { name = text; members = numbers } in
    let same : y ≡ x = cc in
    let is : IsNamedTable place key known limit others t y = record {
      own = own;
      listed = listed;
      keys = e2;
      own_there = needed_is (get_member (codes "name") t) _ _ own e3;
      listed_there = needed_is (get_member key t) _ _ listed e4;
      name_read = e5;
      members_read = e6;
    } in
    subst (IsNamedTable place key known limit others t) same is)))))

named_name_fails : (place : Place) (key : List ℕ) (known : List (List ℕ)) (limit : ℕ) (others : List Named) (t : Members) (own listed : Data) (r : ℕ) → has_only (is_named_key key) t ≡ true
    → get_member (codes "name") t ≡ Some own → get_member key t ≡ Some listed → new_name place (names_of others) own ≡ refused r place
    → named_at place key known limit others (table t) ≡ refused r place
unfolding named_at
named_name_fails place key known limit others t own listed r a b c f = rw (a, b, c, f) refl

named_members_fail : (place : Place) (key : List ℕ) (known : List (List ℕ)) (limit : ℕ) (others : List Named) (t : Members) (own listed : Data) (text : List ℕ) (r : ℕ)
    → has_only (is_named_key key) t ≡ true → get_member (codes "name") t ≡ Some own → get_member key t ≡ Some listed → new_name place (names_of others) own ≡ Ok text
    → members_at place known limit listed ≡ refused r place → named_at place key known limit others (table t) ≡ refused r place
unfolding named_at
named_members_fail place key known limit others t own listed text r a b c n f = rw (a, b, c, n, f) refl

or_second : (a b : Bool) → b ≡ true → (a || b) ≡ true
or_second true b e = refl
or_second false b e = e

key_self : (key : List ℕ) → bytes_eq key key ≡ true
key_self key = (bytes_eq-Decides key key).1 refl

own_key : (key : List ℕ) → is_named_key key (codes "name") ≡ true
own_key key = refl

members_own : (key : List ℕ) → is_named_key key key ≡ true
members_own key = or_second (bytes_eq key (codes "name")) (bytes_eq key key) (key_self key)

other_key : (group : Group) → bytes_eq (members_key group) (codes "name") ≡ false
other_key schedules = refl
other_key resources = refl

name_first : (group : Group) → is_read_before (codes "name") (members_key group) ≡ true
name_first schedules = refl
name_first resources = refl

pub named_part_fails : (place : Place) (group : Group) (known : List (List ℕ)) (limit : ℕ) (others : List Named) (first second : Data) (x : Named) (part : NamedPart) (value : Data) (r : ℕ)
    → AllPairs (λ x y. x ≢ y) known → named_at place (members_key group) known limit others first ≡ Ok x → Agrees (named_path group part) value (Some first) second
    → reason_of (named_rule (members_key group) limit known x.members (names_of others) part) value ≡ Some r → named_at place (members_key group) known limit others second ≡ refused r place
named_part_fails place group known limit others first second x whole_named value r distinct h c e =
    rw c (named_table_fails place (members_key group) known limit others value r e)
named_part_fails place group known limit others first second x own_name value r distinct h c e =
    let key = members_key group in
    let was : first ≡ table c.old = only first (table c.old) c.was in
    let t = named_table place key known limit others c.old x (rw was at h) in
    let is = c.is in
    let keys = agreed_only (is_named_key key) (codes "name") c.old c.new c.keys (own_key key) t.keys in
    let listed = later_there key (codes "name") c.old c.new t.listed c.keys (other_key group) t.listed_there in
    rw is (named_name_fails place key known limit others c.new c.value listed.0 r keys c.here listed.1 (new_name_fails place (names_of others) c.value r (rw (sym c.agree) at e)))
named_part_fails place group known limit others first second x (members part) value r distinct h c e =
    let key = members_key group in
    let was : first ≡ table c.old = only first (table c.old) c.was in
    let t = named_table place key known limit others c.old x (rw was at h) in
    let is = c.is in
    let keys = agreed_only (is_named_key key) key c.old c.new c.keys (members_own key) t.keys in
    let own = c.earlier (codes "name") (name_first group) ∙ t.own_there in
    let broken = members_part_fails place known limit t.listed c.value x.members part value r distinct t.members_read (rw t.listed_there at c.agree) e in
    rw is (named_members_fail place key known limit others c.new t.own c.value x.name r keys own c.here t.name_read broken)
