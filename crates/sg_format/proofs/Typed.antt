-- What the types of attacker that are read promise.
use Rattle.std.proofs.Common.{◌≡◌, ℕ, ◌+◌, ◌^◌, Bool, true, false, ◌==◌, List, [], length, map, ℤ, pos, ◌-ℤ◌, Result, Ok, refl, sym, subst, ◌∙◌, arith, slice_index_or}
use Rattle.std.specs.Prelude.{codes, if◌then◌else◌}
use Rattle.std.specs.List.{All}
use Rattle.std.proofs.lemmas.Int.{ints}
use Rattle.std.proofs.lemmas.Bool.Decides.{Decides-eqb}
use Rattle.std.proofs.lemmas.List.{length-map, map_push}
use Rattle.std.proofs.lemmas.List.Elements.{All-nil, All-push, All-map}
use Rattle.toml.specs.Data.{Data}
use Rattle.sg_model.specs.declared.fault.Place.{Place}
use Rattle.sg_model.specs.declared.fault.Place.TheVariants as place_of
use Rattle.sg_model.specs.declared.fault.GameFault.{GameFault}
use Rattle.sg_model.specs.Games.{Attacker, payoff_of}
use Rattle.sg_model.specs.Names.{AreNames}
use Rattle.sg_model.specs.Limits.{AreTypes, IsCount, IsMatrixType, IsPay, IsPayoff, IsSecurityType, IsTable, IsWithin}
use Rattle.sg_format.specs.Documents.{has_only, items_at, needed_at, table_at}
use Rattle.sg_format.specs.Lists.{item_count, names_at, new_name, some_at}
use Rattle.sg_format.specs.Types.{is_matrix_type_key, is_security_type_key, matrix_type_at, matrix_types_at, pay_at, pay_table_at, pays_at, prior_at, security_type_at, security_types_at}
use Rattle.sg_format.proofs.Inversion.{after, after_test}
use Rattle.sg_format.proofs.Values.{AreNames-nil, AreNames-push, IsNewName, new_name-new, number_at-within}
use Rattle.sg_format.proofs.Listed.{each-count, each-keeps, length-each, names_at-names, some_at-count}

-- so many payoffs
pub record ArePays (count : ℕ) (pays : List ℤ) : Type 0 where
  pub long : length pays ≡ count
  pub all : All IsPay pays

pub pays_at-pays : (place : Place) (count : ℕ) (value : Data) (pays : List ℤ) → pays_at place count value ≡ Ok pays → ArePays count pays
unfolding pays_at
pays_at-pays place count value pays h =
    after (items_at place value) h (λ items e rest.
    after_test (item_count items == count) _ _ rest (λ test last.
    let read : List ℤ → Data → Result ℤ GameFault = λ before. pay_at place in
    let long = length-each read [] items pays last in
    let asked = (Decides-eqb (item_count items) count).0 test in
    record {
      long = omega (arith, long, asked);
      all = each-keeps read (All IsPay) (λ before entry z is first. All-push IsPay before z is (number_at-within place (pos 0 -ℤ pos (2 ^ 30)) (pos (2 ^ 30)) entry z first)) [] items pays (All-nil IsPay) last;
    }))

-- the rows so far
record AreRows (columns : ℕ) (rows : List (List ℤ)) : Type 0 where
  lengths : All (λ row. length row ≡ columns) rows
  pays : All (λ row. All IsPay row) rows

pub pay_table_at-table : (place : Place) (rows columns : ℕ) (value : Data) (table : List (List ℤ)) → pay_table_at place rows columns value ≡ Ok table → IsTable rows columns table
unfolding pay_table_at
pay_table_at-table place rows columns value table h =
    after (items_at place value) h (λ items e rest.
    after_test (item_count items == rows) _ _ rest (λ test last.
    let read : List (List ℤ) → Data → Result (List ℤ) GameFault = λ before. pays_at place columns in
    let long = length-each read [] items table last in
    let asked = (Decides-eqb (item_count items) rows).0 test in
    let none : AreRows columns [] = record { lengths = All-nil (λ row. length row ≡ columns); pays = All-nil (λ row. All IsPay row) } in
    let all = each-keeps read (AreRows columns) (λ before entry row is first.
    let new = pays_at-pays place columns entry row first in
    record {
      lengths = All-push (λ row. length row ≡ columns) before row is.lengths new.long;
      pays = All-push (λ row. All IsPay row) before row is.pays new.all;
    }) [] items table none last in
    record {
      rows = omega (arith, long, asked);
      columns = all.lengths;
      pays = all.pays;
    }))

payoff_of-payoff : (row : List ℤ) → length row ≡ 4 → All IsPay row → IsPayoff (payoff_of row)
payoff_of-payoff row n h = record {
  dc = h 0 (pos 0) (omega (arith, n));
  du = h 1 (pos 0) (omega (arith, n));
  ac = h 2 (pos 0) (omega (arith, n));
  au = h 3 (pos 0) (omega (arith, n));
}

table-payoffs : (targets : ℕ) (table : List (List ℤ)) → IsTable targets 4 table → All IsPayoff (map payoff_of table)
table-payoffs targets table h = All-map IsPayoff payoff_of table (λ k d within. payoff_of-payoff (slice_index_or table k d) (h.columns k d within) (h.pays k d within))

-- a prior from 1 to 2^20, or 1 where a scale is declared
record IsPrior (scaled : Bool) (z : ℤ) : Type 0 where
  range : IsWithin (pos 1) (pos (2 ^ 20)) z
  one : scaled ≡ true → z ≡ pos 1

prior_at-prior : (place : Place) (scaled : Bool) (value : Data) (z : ℤ) → prior_at place scaled value ≡ Ok z → IsPrior scaled z
prior_at-prior place true value z h =
    let is = number_at-within place (pos 1) (pos 1) value z h in
    record { range = record { at_least = is.at_least; at_most = omega (arith, ints, is.at_most) }; one = λ e. omega (arith, ints, is.at_least, is.at_most) }
prior_at-prior place false value z h = record { range = number_at-within place (pos 1) (pos (2 ^ 20)) value z h; one = λ e. absurd (cc) }

-- a type of attacker in security form, with a new name
record IsNewSecurityType (scaled : Bool) (targets : ℕ) (before : List Attacker) (x : Attacker) : Type 0 where
  name : IsNewName (map (λ (x : Attacker). x.name) before) x.name
  type : IsSecurityType targets x
  one : scaled ≡ true → x.prior ≡ pos 1

security_type_at-new : (place : Place) (scaled : Bool) (targets : ℕ) (before : List Attacker) (value : Data) (x : Attacker)
    → security_type_at place scaled targets before value ≡ Ok x → IsNewSecurityType scaled targets before x
unfolding security_type_at
security_type_at-new place scaled targets before value x h =
    after (table_at place value) h (λ table e1 h1.
    after_test (has_only is_security_type_key table) _ _ h1 (λ e2 h2.
    after (needed_at place (codes "name") table) h2 (λ own e3 h3.
    after (needed_at place (codes "prior") table) h3 (λ weight e4 h4.
    after (needed_at place (codes "payoffs") table) h4 (λ listed e5 h5.
    after (new_name place (map (λ (x : Attacker). x.name) before) own) h5 (λ name e6 h6.
    after (prior_at place scaled weight) h6 (λ prior e7 h7.
    after (pay_table_at place targets 4 listed) h7 (λ payoffs e8 last.
    let y : Attacker = record { name = name; prior = prior; payoffs = map payoff_of payoffs; actions = []; leader = []; follower = [] } in
    let same : y ≡ x = cc in
    let often = prior_at-prior place scaled weight prior e7 in
    let pays = pay_table_at-table place targets 4 listed payoffs e8 in
    let is : IsNewSecurityType scaled targets before y = record {
      name = new_name-new place (map (λ (x : Attacker). x.name) before) own name e6;
      type = record {
        prior = often.range;
        one_each = length-map payoffs payoff_of ∙ pays.rows;
        pays = table-payoffs targets payoffs pays;
        no_actions = refl;
        no_leader = refl;
        no_follower = refl;
      };
      one = often.one;
    } in
    subst (IsNewSecurityType scaled targets before) same is))))))))

-- the types so far in security form
record AreSecurityTypesSoFar (scaled : Bool) (targets : ℕ) (types : List Attacker) : Type 0 where
  names : AreNames (map (λ (x : Attacker). x.name) types)
  all : All (IsSecurityType targets) types
  one : scaled ≡ true → All (λ (x : Attacker). x.prior ≡ pos 1) types

-- types in security form, of which there is one of prior 1 where a scale is declared
pub record AreSecurityTypes (scaled : Bool) (targets : ℕ) (types : List Attacker) : Type 0 where
  pub apart : AreTypes types
  pub all : All (IsSecurityType targets) types
  pub one_type : scaled ≡ true → length types ≡ 1
  pub prior_one : scaled ≡ true → All (λ (x : Attacker). x.prior ≡ pos 1) types

up_to_eight : (scaled : Bool) (n : ℕ) → IsCount 1 (if scaled then 1 else 8) n → IsCount 1 8 n × (scaled ≡ true → n ≡ 1)
up_to_eight true n h = (record { at_least = h.at_least; at_most = omega (arith, h.at_most) }, λ e. omega (arith, h.at_least, h.at_most))
up_to_eight false n h = (h, λ e. absurd (cc))

pub security_types_at-types : (scaled : Bool) (targets : ℕ) (value : Data) (types : List Attacker) → security_types_at scaled targets value ≡ Ok types → AreSecurityTypes scaled targets types
unfolding security_types_at
security_types_at-types scaled targets value types h =
    after (some_at place_of.Document (if scaled then 1 else 8) value) h (λ items e rest.
    let read : List Attacker → Data → Result Attacker GameFault = λ before. security_type_at (place_of.Attacker (length before + 1)) scaled targets before in
    let none : AreSecurityTypesSoFar scaled targets [] = record { names = AreNames-nil; all = All-nil (IsSecurityType targets); one = λ e. All-nil (λ (x : Attacker). x.prior ≡ pos 1) } in
    let so_far = each-keeps read (AreSecurityTypesSoFar scaled targets) (λ before entry x is first.
    let new = security_type_at-new (place_of.Attacker (length before + 1)) scaled targets before entry x first in
    let names = AreNames-push (map (λ (x : Attacker). x.name) before) x.name is.names new.name in
    record {
      names = subst AreNames (sym (map_push (λ (x : Attacker). x.name) before x)) names;
      all = All-push (IsSecurityType targets) before x is.all new.type;
      one = λ e. All-push (λ (x : Attacker). x.prior ≡ pos 1) before x (is.one e) (new.one e);
    }) [] items types none rest in
    let limit : ℕ = if scaled then 1 else 8 in
    let count = up_to_eight scaled (length types) (each-count read limit items types (some_at-count place_of.Document limit value items e) rest) in
    record {
      apart = record { count = count.0; names = so_far.names };
      all = so_far.all;
      one_type = count.1;
      prior_one = so_far.one;
    })

-- a type of attacker in matrix form, with a new name
record IsNewMatrixType (rows : ℕ) (before : List Attacker) (x : Attacker) : Type 0 where
  name : IsNewName (map (λ (x : Attacker). x.name) before) x.name
  type : IsMatrixType rows x

matrix_type_at-new : (place : Place) (rows : ℕ) (before : List Attacker) (value : Data) (x : Attacker) → matrix_type_at place rows before value ≡ Ok x → IsNewMatrixType rows before x
unfolding matrix_type_at
matrix_type_at-new place rows before value x h =
    after (table_at place value) h (λ table e1 h1.
    after_test (has_only is_matrix_type_key table) _ _ h1 (λ e2 h2.
    after (needed_at place (codes "name") table) h2 (λ own e3 h3.
    after (needed_at place (codes "prior") table) h3 (λ weight e4 h4.
    after (needed_at place (codes "actions") table) h4 (λ named e5 h5.
    after (needed_at place (codes "leader") table) h5 (λ one e6 h6.
    after (needed_at place (codes "follower") table) h6 (λ two e7 h7.
    after (new_name place (map (λ (x : Attacker). x.name) before) own) h7 (λ name e8 h8.
    after (prior_at place false weight) h8 (λ prior e9 h9.
    after (names_at place (λ n. place) 64 named) h9 (λ actions e10 h10.
    after (pay_table_at place rows (length actions) one) h10 (λ leader e11 h11.
    after (pay_table_at place rows (length actions) two) h11 (λ follower e12 last.
    let y : Attacker = record { name = name; prior = prior; payoffs = []; actions = actions; leader = leader; follower = follower } in
    let same : y ≡ x = cc in
    let names = names_at-names place (λ n. place) 64 named actions e10 in
    let is : IsNewMatrixType rows before y = record {
      name = new_name-new place (map (λ (x : Attacker). x.name) before) own name e8;
      type = record {
        prior = (prior_at-prior place false weight prior e9).range;
        no_payoffs = refl;
        action_count = names.count;
        action_names = names.apart;
        leader = pay_table_at-table place rows (length actions) one leader e11;
        follower = pay_table_at-table place rows (length actions) two follower e12;
      };
    } in
    subst (IsNewMatrixType rows before) same is))))))))))))

-- the types so far in matrix form
record AreMatrixTypesSoFar (rows : ℕ) (types : List Attacker) : Type 0 where
  names : AreNames (map (λ (x : Attacker). x.name) types)
  all : All (IsMatrixType rows) types

-- types in matrix form
pub record AreMatrixTypes (rows : ℕ) (types : List Attacker) : Type 0 where
  pub apart : AreTypes types
  pub all : All (IsMatrixType rows) types

pub matrix_types_at-types : (rows : ℕ) (value : Data) (types : List Attacker) → matrix_types_at rows value ≡ Ok types → AreMatrixTypes rows types
unfolding matrix_types_at
matrix_types_at-types rows value types h =
    after (some_at place_of.Document 8 value) h (λ items e rest.
    let read : List Attacker → Data → Result Attacker GameFault = λ before. matrix_type_at (place_of.Attacker (length before + 1)) rows before in
    let none : AreMatrixTypesSoFar rows [] = record { names = AreNames-nil; all = All-nil (IsMatrixType rows) } in
    let so_far = each-keeps read (AreMatrixTypesSoFar rows) (λ before entry x is first.
    let new = matrix_type_at-new (place_of.Attacker (length before + 1)) rows before entry x first in
    let names = AreNames-push (map (λ (x : Attacker). x.name) before) x.name is.names new.name in
    record {
      names = subst AreNames (sym (map_push (λ (x : Attacker). x.name) before x)) names;
      all = All-push (IsMatrixType rows) before x is.all new.type;
    }) [] items types none rest in
    let count = each-count read 8 items types (some_at-count place_of.Document 8 value items e) rest in
    record { apart = record { count = count; names = so_far.names }; all = so_far.all })
