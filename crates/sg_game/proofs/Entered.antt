-- What it means that entries have no fault.
use Rattle.std.proofs.Common.{◌≡◌, ℕ, ◌+◌, true, false, not, ◌&&◌, List, [], ◌∷◌, ◌++◌, length, map, Option, None, refl}
use Rattle.std.specs.Prelude.{bytes_eq, nat_eq, nat_le}
use Rattle.std.specs.List.{All}
use Rattle.std.proofs.lemmas.Bool.{not-true, not_from_false, leb-true, le-leb, and_from}
use Rattle.std.proofs.lemmas.Bool.Decides.{Decides-eqb}
use Rattle.std.proofs.lemmas.Slice.Eq.{bytes_eq-Decides}
use Rattle.std.proofs.lemmas.List.Elements.{All-nil, All-cons, All-head, All-tail}
use Rattle.sg_model.specs.declared.fault.GameFault.{GameFault}
use Rattle.sg_model.specs.declared.fault.Place.{Place}
use Rattle.sg_model.specs.Limits.{IsCount}
use Rattle.sg_model.specs.Names.{AreNames, is_name}
use Rattle.sg_game.specs.Faults.{◌orelse◌, fault_unless, each_member_fault, entries_fault, member_fault, name_fault}
use Rattle.sg_game.proofs.Fresh.{AreFresh, stands, fresh_tail, fresh_cons, fresh_nil, fresh_first}
use Rattle.sg_game.proofs.Steps.{neither, both, holds, fine, and_both}

-- entries with new names that are spelled right, and with P
pub record AreEntered {X : Type 0} (name : X → List ℕ) (P : X → Type 0) (before : List (List ℕ)) (xs : List X) : Type 0 where
  pub spelled : All (λ n. is_name n ≡ true) (map name xs)
  pub fresh : AreFresh bytes_eq before (map name xs)
  pub each : All P xs

module _ {X : Type 0} (name : X → List ℕ) (rest : Place → X → Option GameFault) (place : ℕ → Place) (P : X → Type 0) where
  pub entered : ((here : Place) (x : X) → rest here x ≡ None → P x) → (before : List (List ℕ)) (xs : List X) → entries_fault name rest place before xs ≡ None → AreEntered name P before xs
  entered sound before [] h = record { spelled = All-nil (λ (n : List ℕ). is_name n ≡ true); fresh = fresh_nil bytes_eq bytes_eq-Decides before; each = All-nil P }
  entered sound before (x ∷ xs) h =
      let here : Place = place (length before + 1) in
      let parts = neither (name_fault before here (name x) orelse rest here x) (entries_fault name rest place (before ++ name x ∷ []) xs) h in
      let first = neither (name_fault before here (name x)) (rest here x) parts.0 in
      let names = neither (fault_unless (is_name (name x)) 9 here) (fault_unless (not (stands bytes_eq before (name x))) 8 here) first.0 in
      let tail = entered sound (before ++ name x ∷ []) xs parts.1 in
      record {
        spelled = All-cons (λ (n : List ℕ). is_name n ≡ true) (name x) (map name xs) (holds (is_name (name x)) 9 here names.0) tail.spelled;
        fresh = fresh_cons bytes_eq bytes_eq-Decides before (name x) (map name xs) (not-true (stands bytes_eq before (name x)) (holds (not (stands bytes_eq before (name x))) 8 here names.1)) tail.fresh;
        each = All-cons P x xs (sound here x first.1) tail.each;
      }

  pub enters : ((here : Place) (x : X) → P x → rest here x ≡ None) → (before : List (List ℕ)) (xs : List X) → AreEntered name P before xs → entries_fault name rest place before xs ≡ None
  enters complete before [] h = refl
  enters complete before (x ∷ xs) h =
      let here : Place = place (length before + 1) in
      let spelled : is_name (name x) ≡ true = All-head (λ (n : List ℕ). is_name n ≡ true) (name x) (map name xs) h.spelled in
      let new : stands bytes_eq before (name x) ≡ false = All-head (λ (n : List ℕ). stands bytes_eq before n ≡ false) (name x) (map name xs) h.fresh.new in
      let tail : AreEntered name P (before ++ name x ∷ []) xs =
      record {
        spelled = All-tail (λ (n : List ℕ). is_name n ≡ true) (name x) (map name xs) h.spelled;
        fresh = fresh_tail bytes_eq bytes_eq-Decides before (name x) (map name xs) h.fresh;
        each = All-tail P x xs h.each;
      } in
      both (name_fault before here (name x) orelse rest here x) (entries_fault name rest place (before ++ name x ∷ []) xs)
      (both (name_fault before here (name x)) (rest here x)
      (both (fault_unless (is_name (name x)) 9 here) (fault_unless (not (stands bytes_eq before (name x))) 8 here)
      (fine (is_name (name x)) 9 here spelled) (fine (not (stands bytes_eq before (name x))) 8 here (not_from_false (stands bytes_eq before (name x)) new)))
      (complete here x (All-head P x xs h.each)))
      (enters complete (before ++ name x ∷ []) xs tail)

  pub entered_names : (xs : List X) → AreEntered name P [] xs → AreNames (map name xs)
  entered_names xs h = record { spelled = h.spelled; distinct = h.fresh.distinct }

  pub names_entered : (xs : List X) → AreNames (map name xs) → All P xs → AreEntered name P [] xs
  names_entered xs h each = record { spelled = h.spelled; fresh = fresh_first bytes_eq bytes_eq-Decides (map name xs) h.distinct; each = each }

-- members that are known and new
pub record AreKnown (count : ℕ) (before ms : List ℕ) : Type 0 where
  pub known : All (IsCount 1 count) ms
  pub fresh : AreFresh nat_eq before ms

counted : (count m : ℕ) → (nat_le 1 m && nat_le m count) ≡ true → IsCount 1 count m
counted count m h = let p = and_both (nat_le 1 m) (nat_le m count) h in record { at_least = leb-true 1 m p.0; at_most = leb-true m count p.1 }

counts : (count m : ℕ) → IsCount 1 count m → (nat_le 1 m && nat_le m count) ≡ true
counts count m h = and_from (nat_le 1 m) (nat_le m count) (le-leb 1 m h.at_least) (le-leb m count h.at_most)

module _ (count : ℕ) (place : Place) where
  pub known : (before ms : List ℕ) → each_member_fault count place before ms ≡ None → AreKnown count before ms
  known before [] h = record { known = All-nil (IsCount 1 count); fresh = fresh_nil nat_eq Decides-eqb before }
  known before (m ∷ ms) h =
      let parts = neither (member_fault count place before m) (each_member_fault count place (before ++ m ∷ []) ms) h in
      let first = neither (fault_unless (nat_le 1 m && nat_le m count) 7 place) (fault_unless (not (stands nat_eq before m)) 8 place) parts.0 in
      let tail = known (before ++ m ∷ []) ms parts.1 in
      record {
        known = All-cons (IsCount 1 count) m ms (counted count m (holds (nat_le 1 m && nat_le m count) 7 place first.0)) tail.known;
        fresh = fresh_cons nat_eq Decides-eqb before m ms (not-true (stands nat_eq before m) (holds (not (stands nat_eq before m)) 8 place first.1)) tail.fresh;
      }

  pub knows : (before ms : List ℕ) → AreKnown count before ms → each_member_fault count place before ms ≡ None
  knows before [] h = refl
  knows before (m ∷ ms) h =
      let new : stands nat_eq before m ≡ false = All-head (λ (n : ℕ). stands nat_eq before n ≡ false) m ms h.fresh.new in
      let tail : AreKnown count (before ++ m ∷ []) ms = record { known = All-tail (IsCount 1 count) m ms h.known; fresh = fresh_tail nat_eq Decides-eqb before m ms h.fresh } in
      both (member_fault count place before m) (each_member_fault count place (before ++ m ∷ []) ms)
      (both (fault_unless (nat_le 1 m && nat_le m count) 7 place) (fault_unless (not (stands nat_eq before m)) 8 place)
      (fine (nat_le 1 m && nat_le m count) 7 place (counts count m (All-head (IsCount 1 count) m ms h.known)))
      (fine (not (stands nat_eq before m)) 8 place (not_from_false (stands nat_eq before m) new)))
      (knows (before ++ m ∷ []) ms tail)
