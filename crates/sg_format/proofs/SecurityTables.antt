-- A type in security form in which one part breaks its rule is refused for it.
use Rattle.std.proofs.Common.{◌≡◌, ℕ, ◌^◌, Bool, true, List, [], ◌∷◌, map, ℤ, pos, Some, Ok, refl, sym, ◌∙◌}
use Rattle.std.specs.Prelude.{bytes_eq, codes, if◌then◌else◌}
use Rattle.std.specs.List.{list_any}
use Rattle.toml.specs.Data.{Data, Members, as_table, get_member, table}
use Rattle.sg_model.specs.declared.fault.Place.{Place}
use Rattle.sg_model.specs.Games.{Attacker}
use Rattle.sg_format.specs.Steps.{refused}
use Rattle.sg_model.specs.declared.reason.TheConstants.{WRONG_KIND, UNKNOWN_KEY}
use Rattle.sg_format.specs.Documents.{has_only, needed_at}
use Rattle.sg_format.specs.Lists.{new_name}
use Rattle.sg_format.specs.Types.{is_security_type_key, pay_table_at, prior_at, security_type_at}
use Rattle.sg_format.specs.Parts.{Agrees, TypePart, of_follower, of_leader, of_targets, security_type_rule, table_with, type_actions, type_name, type_path, type_pays, type_prior, whole_type}
use Rattle.sg_format.proofs.Inversion.{after, after_test, needed_is}
use Rattle.sg_format.proofs.Broken.{need_fails, new_name_fails, no_reason, number_fails, reason_of, test_fails}
use Rattle.sg_format.proofs.Parted.{only, pays_part_fails}
use Rattle.sg_format.proofs.Tables.{agreed_only, lack_fails, later_there, same_keys, three_keys}

security_table_fails : (place : Place) (scaled : Bool) (targets : ℕ) (others : List Attacker) (value : Data) (r : ℕ)
    → reason_of (table_with (codes "name" ∷ codes "prior" ∷ codes "payoffs" ∷ [])) value ≡ Some r → security_type_at place scaled targets others value ≡ refused r place
unfolding security_type_at
security_table_fails place scaled targets others value r e =
    need_fails (as_table value) WRONG_KIND _ place _ r e (λ t here e1.
    let keys = same_keys (λ k. list_any (bytes_eq k) (codes "name" ∷ codes "prior" ∷ codes "payoffs" ∷ [])) is_security_type_key
    (λ k. three_keys (bytes_eq k (codes "name")) (bytes_eq k (codes "prior")) (bytes_eq k (codes "payoffs"))) t in
    test_fails (has_only is_security_type_key t) UNKNOWN_KEY _ place _ r (rw keys at e1) (λ fine e2.
    lack_fails (get_member (codes "name") t) _ place _ r e2 (λ own e3.
    lack_fails (get_member (codes "prior") t) _ place _ r e3 (λ weight e4.
    lack_fails (get_member (codes "payoffs") t) _ place _ r e4 (λ listed e5. no_reason r e5)))))

-- what stands at the keys of a type in security form
pub record IsSecurityTable (place : Place) (scaled : Bool) (targets : ℕ) (others : List Attacker) (t : Members) : Type 0 where
  pub own : Data
  pub weight : Data
  pub listed : Data
  pub text : List ℕ
  pub prior : ℤ
  pub rows : List (List ℤ)
  pub keys : has_only is_security_type_key t ≡ true
  pub own_there : get_member (codes "name") t ≡ Some own
  pub weight_there : get_member (codes "prior") t ≡ Some weight
  pub listed_there : get_member (codes "payoffs") t ≡ Some listed
  pub name_read : new_name place (map (λ (x : Attacker). x.name) others) own ≡ Ok text
  pub prior_read : prior_at place scaled weight ≡ Ok prior
  pub rows_read : pay_table_at place targets 4 listed ≡ Ok rows

pub security_table : (place : Place) (scaled : Bool) (targets : ℕ) (others : List Attacker) (t : Members) (x : Attacker) → security_type_at place scaled targets others (table t) ≡ Ok x
    → IsSecurityTable place scaled targets others t
unfolding security_type_at
security_table place scaled targets others t x h =
    after_test (has_only is_security_type_key t) _ _ h (λ e2 h2.
    after (needed_at place (codes "name") t) h2 (λ own e3 h3.
    after (needed_at place (codes "prior") t) h3 (λ weight e4 h4.
    after (needed_at place (codes "payoffs") t) h4 (λ listed e5 h5.
    after (new_name place (map (λ (x : Attacker). x.name) others) own) h5 (λ text e6 h6.
    after (prior_at place scaled weight) h6 (λ prior e7 h7.
    after (pay_table_at place targets 4 listed) h7 (λ rows e8 last.
    record {
      own = own;
      weight = weight;
      listed = listed;
      text = text;
      prior = prior;
      rows = rows;
      keys = e2;
      own_there = needed_is (get_member (codes "name") t) _ _ own e3;
      weight_there = needed_is (get_member (codes "prior") t) _ _ weight e4;
      listed_there = needed_is (get_member (codes "payoffs") t) _ _ listed e5;
      name_read = e6;
      prior_read = e7;
      rows_read = e8;
    })))))))

security_name_fails : (place : Place) (scaled : Bool) (targets : ℕ) (others : List Attacker) (t : Members) (own weight listed : Data) (r : ℕ) → has_only is_security_type_key t ≡ true
    → get_member (codes "name") t ≡ Some own → get_member (codes "prior") t ≡ Some weight → get_member (codes "payoffs") t ≡ Some listed
    → new_name place (map (λ (x : Attacker). x.name) others) own ≡ refused r place → security_type_at place scaled targets others (table t) ≡ refused r place
unfolding security_type_at
security_name_fails place scaled targets others t own weight listed r a b c d f = rw (a, b, c, d, f) refl

security_prior_fails : (place : Place) (scaled : Bool) (targets : ℕ) (others : List Attacker) (t : Members) (own weight listed : Data) (text : List ℕ) (r : ℕ) → has_only is_security_type_key t ≡ true
    → get_member (codes "name") t ≡ Some own → get_member (codes "prior") t ≡ Some weight → get_member (codes "payoffs") t ≡ Some listed
    → new_name place (map (λ (x : Attacker). x.name) others) own ≡ Ok text → prior_at place scaled weight ≡ refused r place → security_type_at place scaled targets others (table t) ≡ refused r place
unfolding security_type_at
security_prior_fails place scaled targets others t own weight listed text r a b c d n f = rw (a, b, c, d, n, f) refl

security_pays_fail : (place : Place) (scaled : Bool) (targets : ℕ) (others : List Attacker) (t : Members) (own weight listed : Data) (text : List ℕ) (prior : ℤ) (r : ℕ)
    → has_only is_security_type_key t ≡ true → get_member (codes "name") t ≡ Some own → get_member (codes "prior") t ≡ Some weight → get_member (codes "payoffs") t ≡ Some listed
    → new_name place (map (λ (x : Attacker). x.name) others) own ≡ Ok text → prior_at place scaled weight ≡ Ok prior → pay_table_at place targets 4 listed ≡ refused r place
    → security_type_at place scaled targets others (table t) ≡ refused r place
unfolding security_type_at
security_pays_fail place scaled targets others t own weight listed text prior r a b c d n p f = rw (a, b, c, d, n, p, f) refl

pub security_part_fails : (place : Place) (scaled : Bool) (targets : ℕ) (others : List Attacker) (first second : Data) (x : Attacker) (part : TypePart) (value : Data) (r : ℕ)
    → security_type_at place scaled targets others first ≡ Ok x → Agrees (type_path part) value (Some first) second
    → reason_of (security_type_rule scaled targets (map (λ (x : Attacker). x.name) others) part) value ≡ Some r → security_type_at place scaled targets others second ≡ refused r place
security_part_fails place scaled targets others first second x whole_type value r h c e =
    rw c (security_table_fails place scaled targets others value r e)
security_part_fails place scaled targets others first second x type_name value r h c e =
    let key = codes "name" in
    let was : first ≡ table c.old = only first (table c.old) c.was in
    let t = security_table place scaled targets others c.old x (rw was at h) in
    let is = c.is in
    let keys = agreed_only is_security_type_key key c.old c.new c.keys refl t.keys in
    let weight = later_there (codes "prior") key c.old c.new t.weight c.keys refl t.weight_there in
    let listed = later_there (codes "payoffs") key c.old c.new t.listed c.keys refl t.listed_there in
    rw is (security_name_fails place scaled targets others c.new c.value weight.0 listed.0 r keys c.here weight.1 listed.1
    (new_name_fails place (map (λ (x : Attacker). x.name) others) c.value r (rw (sym c.agree) at e)))
security_part_fails place scaled targets others first second x type_prior value r h c e =
    let key = codes "prior" in
    let was : first ≡ table c.old = only first (table c.old) c.was in
    let t = security_table place scaled targets others c.old x (rw was at h) in
    let is = c.is in
    let keys = agreed_only is_security_type_key key c.old c.new c.keys refl t.keys in
    let own = c.earlier (codes "name") refl ∙ t.own_there in
    let listed = later_there (codes "payoffs") key c.old c.new t.listed c.keys refl t.listed_there in
    rw is (security_prior_fails place scaled targets others c.new t.own c.value listed.0 t.text r keys own c.here listed.1 t.name_read
    (number_fails place (pos 1) (if scaled then pos 1 else pos (2 ^ 20)) c.value r (rw (sym c.agree) at e)))
security_part_fails place scaled targets others first second x (type_actions part) value r h c e = no_reason r e
security_part_fails place scaled targets others first second x (type_pays of_leader part) value r h c e = no_reason r e
security_part_fails place scaled targets others first second x (type_pays of_follower part) value r h c e = no_reason r e
security_part_fails place scaled targets others first second x (type_pays of_targets part) value r h c e =
    let key = codes "payoffs" in
    let was : first ≡ table c.old = only first (table c.old) c.was in
    let t = security_table place scaled targets others c.old x (rw was at h) in
    let is = c.is in
    let keys = agreed_only is_security_type_key key c.old c.new c.keys refl t.keys in
    let own = c.earlier (codes "name") refl ∙ t.own_there in
    let weight = c.earlier (codes "prior") refl ∙ t.weight_there in
    let broken = pays_part_fails place targets 4 t.listed c.value t.rows part value r t.rows_read (rw t.listed_there at c.agree) e in
    rw is (security_pays_fail place scaled targets others c.new t.own t.weight c.value t.text t.prior r keys own weight c.here t.name_read t.prior_read broken)
