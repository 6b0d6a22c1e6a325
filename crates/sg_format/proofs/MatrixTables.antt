-- A type in matrix form in which one part breaks its rule is refused for it.
use Rattle.std.proofs.Common.{◌≡◌, ℕ, ◌^◌, true, false, List, [], ◌∷◌, length, map, ℤ, pos, Some, Result, Ok, refl, sym, subst, ◌∙◌}
use Rattle.std.specs.Prelude.{bytes_eq, codes}
use Rattle.std.specs.List.{list_any}
use Rattle.toml.specs.Data.{Data, Members, as_table, get_member, table}
use Rattle.sg_model.specs.declared.fault.Place.{Place}
use Rattle.sg_model.specs.declared.fault.GameFault.{GameFault}
use Rattle.sg_model.specs.Games.{Attacker}
use Rattle.sg_model.specs.Steps.{◌>>=◌}
use Rattle.sg_format.specs.Steps.{refused}
use Rattle.sg_model.specs.declared.reason.TheConstants.{WRONG_KIND, UNKNOWN_KEY}
use Rattle.sg_format.specs.Documents.{has_only, needed_at}
use Rattle.sg_format.specs.Lists.{names_at, new_name}
use Rattle.sg_format.specs.Types.{is_matrix_type_key, matrix_type_at, pay_table_at, prior_at}
use Rattle.sg_format.specs.Parts.{Agrees, NamesPart, TypePart, matrix_type_rule, name, names, of_follower, of_leader, of_targets, table_with, type_actions, type_name, type_path, type_pays, type_prior, whole_type}
use Rattle.sg_format.proofs.Inversion.{after, after_test, needed_is}
use Rattle.sg_format.proofs.Broken.{need_fails, new_name_fails, no_reason, number_fails, reason_of, test_fails}
use Rattle.sg_format.proofs.Parted.{names_part_fails, names_place, only, pays_part_fails}
use Rattle.sg_format.proofs.Tables.{agreed_only, five_keys, lack_fails, later_there, same_keys}

matrix_table_fails : (place : Place) (rows : ℕ) (others : List Attacker) (value : Data) (r : ℕ)
    → reason_of (table_with (codes "name" ∷ codes "prior" ∷ codes "actions" ∷ codes "leader" ∷ codes "follower" ∷ [])) value ≡ Some r → matrix_type_at place rows others value ≡ refused r place
unfolding matrix_type_at
matrix_table_fails place rows others value r e =
    need_fails (as_table value) WRONG_KIND _ place _ r e (λ t here e1.
    let keys = same_keys (λ k. list_any (bytes_eq k) (codes "name" ∷ codes "prior" ∷ codes "actions" ∷ codes "leader" ∷ codes "follower" ∷ [])) is_matrix_type_key
    (λ k. five_keys (bytes_eq k (codes "name")) (bytes_eq k (codes "prior")) (bytes_eq k (codes "actions")) (bytes_eq k (codes "leader")) (bytes_eq k (codes "follower"))) t in
    test_fails (has_only is_matrix_type_key t) UNKNOWN_KEY _ place _ r (rw keys at e1) (λ fine e2.
    lack_fails (get_member (codes "name") t) _ place _ r e2 (λ own e3.
    lack_fails (get_member (codes "prior") t) _ place _ r e3 (λ weight e4.
    lack_fails (get_member (codes "actions") t) _ place _ r e4 (λ named e5.
    lack_fails (get_member (codes "leader") t) _ place _ r e5 (λ leader e6.
    lack_fails (get_member (codes "follower") t) _ place _ r e6 (λ follower e7. no_reason r e7)))))))

-- what stands at the keys of a type in matrix form
record IsMatrixTable (place : Place) (rows : ℕ) (others : List Attacker) (t : Members) (x : Attacker) : Type 0 where
  own : Data
  weight : Data
  named : Data
  one : Data
  two : Data
  keys : has_only is_matrix_type_key t ≡ true
  own_there : get_member (codes "name") t ≡ Some own
  weight_there : get_member (codes "prior") t ≡ Some weight
  named_there : get_member (codes "actions") t ≡ Some named
  one_there : get_member (codes "leader") t ≡ Some one
  two_there : get_member (codes "follower") t ≡ Some two
  name_read : new_name place (map (λ (x : Attacker). x.name) others) own ≡ Ok x.name
  prior_read : prior_at place false weight ≡ Ok x.prior
  actions_read : names_at place (λ n. place) 64 named ≡ Ok x.actions
  leader_read : pay_table_at place rows (length x.actions) one ≡ Ok x.leader
  follower_read : pay_table_at place rows (length x.actions) two ≡ Ok x.follower

matrix_table : (place : Place) (rows : ℕ) (others : List Attacker) (t : Members) (x : Attacker) → matrix_type_at place rows others (table t) ≡ Ok x → IsMatrixTable place rows others t x
unfolding matrix_type_at
matrix_table place rows others t x h =
    after_test (has_only is_matrix_type_key t) _ _ h (λ e2 h2.
    after (needed_at place (codes "name") t) h2 (λ own e3 h3.
    after (needed_at place (codes "prior") t) h3 (λ weight e4 h4.
    after (needed_at place (codes "actions") t) h4 (λ named e5 h5.
    after (needed_at place (codes "leader") t) h5 (λ one e6 h6.
    after (needed_at place (codes "follower") t) h6 (λ two e7 h7.
    after (new_name place (map (λ (x : Attacker). x.name) others) own) h7 (λ text e8 h8.
    after (prior_at place false weight) h8 (λ prior e9 h9.
    after (names_at place (λ n. place) 64 named) h9 (λ actions e10 h10.
    after (pay_table_at place rows (length actions) one) h10 (λ leader e11 h11.
    after (pay_table_at place rows (length actions) two) h11 (λ follower e12 last.
    let y : Attacker = record { name = text; prior = prior; payoffs = []; actions = actions; leader = leader; follower = follower } in
    let same : y ≡ x = cc in
    let is : IsMatrixTable place rows others t y = record {
      own = own;
      weight = weight;
      named = named;
      one = one;
      two = two;
      keys = e2;
      own_there = needed_is (get_member (codes "name") t) _ _ own e3;
      weight_there = needed_is (get_member (codes "prior") t) _ _ weight e4;
      named_there = needed_is (get_member (codes "actions") t) _ _ named e5;
      one_there = needed_is (get_member (codes "leader") t) _ _ one e6;
      two_there = needed_is (get_member (codes "follower") t) _ _ two e7;
      name_read = e8;
      prior_read = e9;
      actions_read = e10;
      leader_read = e11;
      follower_read = e12;
    } in
    subst (IsMatrixTable place rows others t) same is)))))))))))

-- the values at the keys of a table in matrix form
record HasMatrixKeys (t : Members) (own weight named one two : Data) : Type 0 where
  keys : has_only is_matrix_type_key t ≡ true
  own_there : get_member (codes "name") t ≡ Some own
  weight_there : get_member (codes "prior") t ≡ Some weight
  named_there : get_member (codes "actions") t ≡ Some named
  one_there : get_member (codes "leader") t ≡ Some one
  two_there : get_member (codes "follower") t ≡ Some two

-- the steps of a type in matrix form after its keys
matrix_rest : Place → ℕ → List Attacker → Data → Data → Data → Data → Data → Result Attacker GameFault
matrix_rest place rows others own weight named one two = do
  text ← new_name place (map (λ (x : Attacker). x.name) others) own
  prior ← prior_at place false weight
  actions ← names_at place (λ n. place) 64 named
  leader ← pay_table_at place rows (length actions) one
  follower ← pay_table_at place rows (length actions) two
  Ok (record { name = text; prior = prior; payoffs = []; actions = actions; leader = leader; follower = follower })

matrix_steps : (place : Place) (rows : ℕ) (others : List Attacker) (t : Members) (own weight named one two : Data) → HasMatrixKeys t own weight named one two
    → matrix_type_at place rows others (table t) ≡ matrix_rest place rows others own weight named one two
unfolding matrix_type_at matrix_rest
matrix_steps place rows others t own weight named one two h =
    let a = h.keys in
    let b = h.own_there in
    let c = h.weight_there in
    let d = h.named_there in
    let e = h.one_there in
    let f = h.two_there in
    rw (a, b, c, d, e, f) refl

matrix_name_fails : (place : Place) (rows : ℕ) (others : List Attacker) (own weight named one two : Data) (r : ℕ) → new_name place (map (λ (x : Attacker). x.name) others) own ≡ refused r place
    → matrix_rest place rows others own weight named one two ≡ refused r place
unfolding matrix_rest
matrix_name_fails place rows others own weight named one two r f = rw f refl

matrix_prior_fails : (place : Place) (rows : ℕ) (others : List Attacker) (own weight named one two : Data) (text : List ℕ) (r : ℕ) → new_name place (map (λ (x : Attacker). x.name) others) own ≡ Ok text
    → prior_at place false weight ≡ refused r place → matrix_rest place rows others own weight named one two ≡ refused r place
unfolding matrix_rest
matrix_prior_fails place rows others own weight named one two text r n f = rw (n, f) refl

matrix_actions_fail : (place : Place) (rows : ℕ) (others : List Attacker) (own weight named one two : Data) (text : List ℕ) (prior : ℤ) (r : ℕ)
    → new_name place (map (λ (x : Attacker). x.name) others) own ≡ Ok text → prior_at place false weight ≡ Ok prior → names_at place (λ n. place) 64 named ≡ refused r place
    → matrix_rest place rows others own weight named one two ≡ refused r place
unfolding matrix_rest
matrix_actions_fail place rows others own weight named one two text prior r n p f = rw (n, p, f) refl

matrix_leader_fails : (place : Place) (rows : ℕ) (others : List Attacker) (own weight named one two : Data) (text : List ℕ) (prior : ℤ) (actions : List (List ℕ)) (r : ℕ)
    → new_name place (map (λ (x : Attacker). x.name) others) own ≡ Ok text → prior_at place false weight ≡ Ok prior → names_at place (λ n. place) 64 named ≡ Ok actions
    → pay_table_at place rows (length actions) one ≡ refused r place → matrix_rest place rows others own weight named one two ≡ refused r place
unfolding matrix_rest
matrix_leader_fails place rows others own weight named one two text prior actions r n p a f = rw (n, p, a, f) refl

matrix_follower_fails : (place : Place) (rows : ℕ) (others : List Attacker) (own weight named one two : Data) (text : List ℕ) (prior : ℤ) (actions : List (List ℕ)) (leader : List (List ℤ)) (r : ℕ)
    → new_name place (map (λ (x : Attacker). x.name) others) own ≡ Ok text → prior_at place false weight ≡ Ok prior → names_at place (λ n. place) 64 named ≡ Ok actions
    → pay_table_at place rows (length actions) one ≡ Ok leader → pay_table_at place rows (length actions) two ≡ refused r place → matrix_rest place rows others own weight named one two ≡ refused r place
unfolding matrix_rest
matrix_follower_fails place rows others own weight named one two text prior actions leader r n p a l f = rw (n, p, a, l, f) refl

-- the place of a fault is that of the type
one_place : (place : Place) (part : NamesPart) → names_place place (λ n. place) part ≡ place
one_place place names = refl
one_place place (name n) = refl

pub matrix_part_fails : (place : Place) (rows : ℕ) (others : List Attacker) (first second : Data) (x : Attacker) (part : TypePart) (value : Data) (r : ℕ)
    → matrix_type_at place rows others first ≡ Ok x → Agrees (type_path part) value (Some first) second
    → reason_of (matrix_type_rule rows x.actions (map (λ (x : Attacker). x.name) others) part) value ≡ Some r → matrix_type_at place rows others second ≡ refused r place
matrix_part_fails place rows others first second x whole_type value r h c e =
    rw c (matrix_table_fails place rows others value r e)
matrix_part_fails place rows others first second x type_name value r h c e =
    let key = codes "name" in
    let was : first ≡ table c.old = only first (table c.old) c.was in
    let t = matrix_table place rows others c.old x (rw was at h) in
    let is = c.is in
    let weight = later_there (codes "prior") key c.old c.new t.weight c.keys refl t.weight_there in
    let named = later_there (codes "actions") key c.old c.new t.named c.keys refl t.named_there in
    let one = later_there (codes "leader") key c.old c.new t.one c.keys refl t.one_there in
    let two = later_there (codes "follower") key c.old c.new t.two c.keys refl t.two_there in
    let has : HasMatrixKeys c.new c.value weight.0 named.0 one.0 two.0 = record {
      keys = agreed_only is_matrix_type_key key c.old c.new c.keys refl t.keys;
      own_there = c.here;
      weight_there = weight.1;
      named_there = named.1;
      one_there = one.1;
      two_there = two.1;
    } in
    rw is (matrix_steps place rows others c.new c.value weight.0 named.0 one.0 two.0 has
    ∙ matrix_name_fails place rows others c.value weight.0 named.0 one.0 two.0 r (new_name_fails place (map (λ (x : Attacker). x.name) others) c.value r (rw (sym c.agree) at e)))
matrix_part_fails place rows others first second x type_prior value r h c e =
    let key = codes "prior" in
    let was : first ≡ table c.old = only first (table c.old) c.was in
    let t = matrix_table place rows others c.old x (rw was at h) in
    let is = c.is in
    let named = later_there (codes "actions") key c.old c.new t.named c.keys refl t.named_there in
    let one = later_there (codes "leader") key c.old c.new t.one c.keys refl t.one_there in
    let two = later_there (codes "follower") key c.old c.new t.two c.keys refl t.two_there in
    let has : HasMatrixKeys c.new t.own c.value named.0 one.0 two.0 = record {
      keys = agreed_only is_matrix_type_key key c.old c.new c.keys refl t.keys;
      own_there = c.earlier (codes "name") refl ∙ t.own_there;
      weight_there = c.here;
      named_there = named.1;
      one_there = one.1;
      two_there = two.1;
    } in
    rw is (matrix_steps place rows others c.new t.own c.value named.0 one.0 two.0 has
    ∙ matrix_prior_fails place rows others t.own c.value named.0 one.0 two.0 x.name r t.name_read (number_fails place (pos 1) (pos (2 ^ 20)) c.value r (rw (sym c.agree) at e)))
matrix_part_fails place rows others first second x (type_actions part) value r h c e =
    let key = codes "actions" in
    let was : first ≡ table c.old = only first (table c.old) c.was in
    let t = matrix_table place rows others c.old x (rw was at h) in
    let is = c.is in
    let one = later_there (codes "leader") key c.old c.new t.one c.keys refl t.one_there in
    let two = later_there (codes "follower") key c.old c.new t.two c.keys refl t.two_there in
    let has : HasMatrixKeys c.new t.own t.weight c.value one.0 two.0 = record {
      keys = agreed_only is_matrix_type_key key c.old c.new c.keys refl t.keys;
      own_there = c.earlier (codes "name") refl ∙ t.own_there;
      weight_there = c.earlier (codes "prior") refl ∙ t.weight_there;
      named_there = c.here;
      one_there = one.1;
      two_there = two.1;
    } in
    let broken = names_part_fails place (λ n. place) 64 t.named c.value x.actions part value r t.actions_read (rw t.named_there at c.agree) e in
    rw is (matrix_steps place rows others c.new t.own t.weight c.value one.0 two.0 has
    ∙ matrix_actions_fail place rows others t.own t.weight c.value one.0 two.0 x.name x.prior r t.name_read t.prior_read (rw (one_place place part) at broken))
matrix_part_fails place rows others first second x (type_pays of_targets part) value r h c e = no_reason r e
matrix_part_fails place rows others first second x (type_pays of_leader part) value r h c e =
    let key = codes "leader" in
    let was : first ≡ table c.old = only first (table c.old) c.was in
    let t = matrix_table place rows others c.old x (rw was at h) in
    let is = c.is in
    let two = later_there (codes "follower") key c.old c.new t.two c.keys refl t.two_there in
    let has : HasMatrixKeys c.new t.own t.weight t.named c.value two.0 = record {
      keys = agreed_only is_matrix_type_key key c.old c.new c.keys refl t.keys;
      own_there = c.earlier (codes "name") refl ∙ t.own_there;
      weight_there = c.earlier (codes "prior") refl ∙ t.weight_there;
      named_there = c.earlier (codes "actions") refl ∙ t.named_there;
      one_there = c.here;
      two_there = two.1;
    } in
    let broken = pays_part_fails place rows (length x.actions) t.one c.value x.leader part value r t.leader_read (rw t.one_there at c.agree) e in
    rw is (matrix_steps place rows others c.new t.own t.weight t.named c.value two.0 has
    ∙ matrix_leader_fails place rows others t.own t.weight t.named c.value two.0 x.name x.prior x.actions r t.name_read t.prior_read t.actions_read broken)
matrix_part_fails place rows others first second x (type_pays of_follower part) value r h c e =
    let key = codes "follower" in
    let was : first ≡ table c.old = only first (table c.old) c.was in
    let t = matrix_table place rows others c.old x (rw was at h) in
    let is = c.is in
    let has : HasMatrixKeys c.new t.own t.weight t.named t.one c.value = record {
      keys = agreed_only is_matrix_type_key key c.old c.new c.keys refl t.keys;
      own_there = c.earlier (codes "name") refl ∙ t.own_there;
      weight_there = c.earlier (codes "prior") refl ∙ t.weight_there;
      named_there = c.earlier (codes "actions") refl ∙ t.named_there;
      one_there = c.earlier (codes "leader") refl ∙ t.one_there;
      two_there = c.here;
    } in
    let broken = pays_part_fails place rows (length x.actions) t.two c.value x.follower part value r t.follower_read (rw t.two_there at c.agree) e in
    rw is (matrix_steps place rows others c.new t.own t.weight t.named t.one c.value has
    ∙ matrix_follower_fails place rows others t.own t.weight t.named t.one c.value x.name x.prior x.actions x.leader r t.name_read t.prior_read t.actions_read t.leader_read broken)
