-- What it means that tables, names, schedules and resources have no fault.
use Rattle.std.proofs.Common.{◌≡◌, ◌∙◌, ℕ, ◌^◌, Bool, true, ◌&&◌, List, [], ◌∷◌, length, map, get_or, ℤ, pos, ◌-ℤ◌, None, String, Global, string_bytes, refl, ap, sym, arith}
use Rattle.std.specs.Prelude.{nat_eq, nat_le, int_le, Vec}
use Rattle.std.specs.List.{All, list_all}
use Rattle.std.proofs.lemmas.Bool.{leb-true, le-leb, and_from, eqb-true, eq-eqb}
use Rattle.std.proofs.lemmas.Int.{ints}
use Rattle.std.proofs.lemmas.List.{length-map}
use Rattle.std.proofs.lemmas.List.Elements.{All-nil, All-cons, All-head, All-tail, All-map, All-weaker}
use Rattle.std.proofs.lemmas.List.Sums.{AllPass-from_list_all, list_all-from_AllPass}
use Rattle.sg_model.specs.declared.fault.Place.{Place}
use Rattle.sg_model.specs.declared.fault.Place.TheVariants.{Document}
use Rattle.sg_model.specs.Games.{Named}
use Rattle.sg_model.specs.Limits.{IsCount, IsWithin, IsPay, IsTable, AreMembers, AreLists}
use Rattle.sg_model.specs.Names.{AreNames}
use Rattle.sg_game.specs.declared.parts.ListParts.{ListParts}
use Rattle.sg_game.specs.Seen.{number_lists, texts, named_of}
use Rattle.sg_game.specs.Faults.{◌orelse◌, fault_unless, is_within, is_pay, is_table, names_fault, entries_fault, each_member_fault, members_fault, lists_fault}
use Rattle.sg_game.proofs.Fresh.{fresh_first}
use Rattle.sg_game.proofs.Steps.{neither, both, holds, fine, and_both}
use Rattle.sg_game.proofs.Entered.{entered, enters, entered_names, names_entered, known, knows}
use Rattle.std.proofs.lemmas.Bool.Decides.{Decides-eqb}

-- numbers in range

pub within : (low high z : ℤ) → is_within low high z ≡ true → IsWithin low high z
within low high z h = let p = and_both (int_le low z) (int_le z high) h in record { at_least = (let q = p.0 in omega (arith, ints, q)); at_most = (let q = p.1 in omega (arith, ints, q)) }

pub is-within : (low high z : ℤ) → IsWithin low high z → is_within low high z ≡ true
is-within low high z h =
    let a : int_le low z ≡ true = sym (omega (arith, ints, h.at_least)) in
    let b : int_le z high ≡ true = sym (omega (arith, ints, h.at_most)) in and_from (int_le low z) (int_le z high) a b

pub counted : (low high n : ℕ) → nat_le low n ≡ true → nat_le n high ≡ true → IsCount low high n
counted low high n h i = record { at_least = leb-true low n h; at_most = leb-true n high i }

-- tables

pub pays : (row : List ℤ) → list_all is_pay row ≡ true → All IsPay row
pays row h = All-weaker (λ (z : ℤ). is_pay z ≡ true) IsPay (λ z. within (pos 0 -ℤ pos (2 ^ 30)) (pos (2 ^ 30)) z) row (AllPass-from_list_all is_pay row h)

pub are-pays : (row : List ℤ) → All IsPay row → list_all is_pay row ≡ true
are-pays row h = list_all-from_AllPass is_pay row (All-weaker IsPay (λ (z : ℤ). is_pay z ≡ true) (λ z. is-within (pos 0 -ℤ pos (2 ^ 30)) (pos (2 ^ 30)) z) row h)

abbrev row_passes : ℕ → Vec ℤ Global → Bool
row_passes n row = nat_eq (length row.items) n && list_all is_pay row.items

pub table : (m n : ℕ) (lists : List (Vec ℤ Global)) → is_table m n lists ≡ true → IsTable m n (number_lists lists)
table m n lists h =
    let p = and_both (nat_eq (length lists) m) (list_all (row_passes n) lists) h in
    let each = AllPass-from_list_all (row_passes n) lists p.1 in
    record {
      rows = length-map lists (λ (v : Vec ℤ Global). v.items) ∙ eqb-true (length lists) m p.0;
      columns = All-map (λ (row : List ℤ). length row ≡ n) (λ (v : Vec ℤ Global). v.items) lists
          (All-weaker (λ (v : Vec ℤ Global). row_passes n v ≡ true) (λ (v : Vec ℤ Global). length v.items ≡ n) (λ v t. eqb-true (length v.items) n (and_both (nat_eq (length v.items) n) (list_all is_pay v.items) t).0) lists each);
      pays = All-map (λ (row : List ℤ). All IsPay row) (λ (v : Vec ℤ Global). v.items) lists
          (All-weaker (λ (v : Vec ℤ Global). row_passes n v ≡ true) (λ (v : Vec ℤ Global). All IsPay v.items) (λ v t. pays v.items (and_both (nat_eq (length v.items) n) (list_all is_pay v.items) t).1) lists each);
    }

pub All-unmap : {X Y : Type 0} (P : Y → Type 0) (f : X → Y) (xs : List X) → All P (map f xs) → All (λ x. P (f x)) xs
All-unmap P f [] h = All-nil (λ x. P (f x))
All-unmap P f (x ∷ xs) h = All-cons (λ x. P (f x)) x xs (All-head P (f x) (map f xs) h) (All-unmap P f xs (All-tail P (f x) (map f xs) h))

pub is-table : (m n : ℕ) (lists : List (Vec ℤ Global)) → IsTable m n (number_lists lists) → is_table m n lists ≡ true
is-table m n lists h =
    let columns = All-unmap (λ (row : List ℤ). length row ≡ n) (λ (v : Vec ℤ Global). v.items) lists h.columns in
    let each = All-unmap (λ (row : List ℤ). All IsPay row) (λ (v : Vec ℤ Global). v.items) lists h.pays in
    and_from (nat_eq (length lists) m) (list_all (row_passes n) lists) (eq-eqb (length lists) m (sym (length-map lists (λ (v : Vec ℤ Global). v.items)) ∙ h.rows))
    (list_all-from_AllPass (row_passes n) lists (λ i d lt.
    and_from (nat_eq (length (get_or lists i d).items) n) (list_all is_pay (get_or lists i d).items)
    (eq-eqb (length (get_or lists i d).items) n (columns i d lt)) (are-pays (get_or lists i d).items (each i d lt))))

-- names

pub named : (place : ℕ → Place) (names : List (String Global)) → names_fault place names ≡ None → AreNames (texts names)
named place names h = entered_names string_bytes (λ here name. None) place (λ (x : String Global). Unit {0}) names (entered string_bytes (λ here name. None) place (λ (x : String Global). Unit {0}) (λ here x e. tt) [] names h)

pub names : (place : ℕ → Place) (strings : List (String Global)) → AreNames (texts strings) → names_fault place strings ≡ None
names place strings h =
    enters string_bytes (λ here name. None) place (λ (x : String Global). Unit {0}) (λ here x e. refl) [] strings
    (names_entered string_bytes (λ here name. None) place (λ (x : String Global). Unit {0}) strings h (λ i d lt. tt))

-- schedules and resources

pub members : (count limit : ℕ) (place : Place) (x : ListParts) → members_fault count limit place x ≡ None → AreMembers count limit x.members.items
members count limit place x h =
    let ms : List ℕ = x.members.items in
    let some = fault_unless (nat_le 1 (length ms)) 6 place in
    let few = fault_unless (nat_le (length ms) limit) 10 place in
    let p = neither (some orelse few) (each_member_fault count place [] ms) h in
    let q = neither some few p.0 in
    let each = known count place [] ms p.1 in
    record { size = counted 1 limit (length ms) (holds (nat_le 1 (length ms)) 6 place q.0) (holds (nat_le (length ms) limit) 10 place q.1); known = each.known; distinct = each.fresh.distinct }

pub are-members : (count limit : ℕ) (place : Place) (x : ListParts) → AreMembers count limit x.members.items → members_fault count limit place x ≡ None
are-members count limit place x h =
    let ms : List ℕ = x.members.items in
    let some = fault_unless (nat_le 1 (length ms)) 6 place in
    let few = fault_unless (nat_le (length ms) limit) 10 place in
    both (some orelse few) (each_member_fault count place [] ms)
    (both some few (fine (nat_le 1 (length ms)) 6 place (le-leb 1 (length ms) h.size.at_least)) (fine (nat_le (length ms) limit) 10 place (le-leb (length ms) limit h.size.at_most)))
    (knows count place [] ms (record { known = h.known; fresh = fresh_first nat_eq Decides-eqb ms h.distinct }))

name_of : ListParts → List ℕ
name_of x = string_bytes x.name

same_names : (lists : List ListParts) → map (λ (x : Named). x.name) (map named_of lists) ≡ map (λ (x : ListParts). string_bytes x.name) lists
same_names [] = refl
same_names (x ∷ xs) = ap (λ (ns : List (List ℕ)). string_bytes x.name ∷ ns) (same_names xs)

module _ (count limit members_limit : ℕ) (place : ℕ → Place) (lists : List ListParts) where
  pub listed : lists_fault count limit members_limit place lists ≡ None → AreLists count limit members_limit (map named_of lists)
  unfolding lists_fault
  listed h =
      let few = fault_unless (nat_le (length lists) limit) 10 Document in
      let p = neither few (entries_fault (λ (x : ListParts). string_bytes x.name) (members_fault count members_limit) place [] lists) h in
      let all = entered (λ (x : ListParts). string_bytes x.name) (members_fault count members_limit) place (λ (x : ListParts). AreMembers count members_limit x.members.items) (members count members_limit) [] lists p.1 in
      let names : AreNames (map (λ (x : ListParts). string_bytes x.name) lists) = record { spelled = all.spelled; distinct = all.fresh.distinct } in
      record {
        few = omega (arith, length-map lists named_of, leb-true (length lists) limit (holds (nat_le (length lists) limit) 10 Document p.0));
        names = rw (same_names lists) names;
        members = All-map (λ (x : Named). AreMembers count members_limit x.members) named_of lists all.each;
      }

  pub are-lists : AreLists count limit members_limit (map named_of lists) → lists_fault count limit members_limit place lists ≡ None
  unfolding lists_fault
  are-lists h =
      let few = fault_unless (nat_le (length lists) limit) 10 Document in
      let names : AreNames (map (λ (x : ListParts). string_bytes x.name) lists) = rw (← same_names lists) h.names in
      let each = All-unmap (λ (x : Named). AreMembers count members_limit x.members) named_of lists h.members in
      both few (entries_fault (λ (x : ListParts). string_bytes x.name) (members_fault count members_limit) place [] lists)
      (fine (nat_le (length lists) limit) 10 Document (le-leb (length lists) limit (omega (arith, length-map lists named_of, h.few))))
      (enters (λ (x : ListParts). string_bytes x.name) (members_fault count members_limit) place (λ (x : ListParts). AreMembers count members_limit x.members.items) (are-members count members_limit) [] lists
      (names_entered (λ (x : ListParts). string_bytes x.name) (members_fault count members_limit) place (λ (x : ListParts). AreMembers count members_limit x.members.items) lists names each))
