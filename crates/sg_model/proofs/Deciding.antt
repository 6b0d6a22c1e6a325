-- Tests of what a commitment and a game are, for those that are written out.
use Rattle.std.proofs.Common.{◌≡◌, ◌≢◌, ℕ, zero, suc, ◌+◌, ◌<◌, ◌≤◌, Bool, true, false, cond, not, ◌&&◌, List, [], ◌∷◌, length, map, ℤ, pos, ◌-ℤ◌, ◌^◌, ◌≤ℤ◌, ap, subst, sym, ◌∙◌, refl, arith, eqb, nat_le, int_le, int_lt, int_rem, MatchBool, slice_index, bytes_eq, true≢false}
use Rattle.std.specs.List.{All, AllPairs, list_all}
use Rattle.std.specs.Ordering.{int_eq}
use Rattle.std.proofs.lemmas.Int.{ints}
use Rattle.std.proofs.lemmas.Bool.Decides.{nat_tests, Decides-eqb, Decides-int_eq}
use Rattle.std.proofs.lemmas.List.Elements.{All-weaker}
use Rattle.std.proofs.lemmas.List.Kept.{AllPairs-cons}
use Rattle.std.proofs.lemmas.List.Sums.{AllPass-from_list_all}
use Rattle.std.proofs.lemmas.Slice.Eq.{bytes_eq-Decides}
use Rattle.sg_model.specs.declared.ticket.Ticket.{Ticket}
use Rattle.sg_model.specs.Games.{Game, Named, Payoff, is_matrix, resource_count, resource_schedules}
use Rattle.sg_model.specs.Plays.{IsLegal, IsLegalJoint, IsRow}
use Rattle.sg_model.specs.Commitments.{IsCommitment}
use Rattle.sg_model.specs.Origami.{IsScaled, gap}
use Rattle.sg_model.specs.Names.{AreNames, is_name}
use Rattle.sg_model.specs.Limits.{AreLists, AreMembers, IsCount, IsPay, IsPayoff, IsTable, IsWithin}

pub at_most : {a b : ℕ} → nat_le a b ≡ true → a ≤ b
at_most e = grind (arith, nat_tests, e)

pub at_most_z : {a b : ℤ} → int_le a b ≡ true → a ≤ℤ b
at_most_z e = omega (arith, ints, e)

pub at_most-either : (b : Bool) (k x y : ℕ) → k ≤ x → k ≤ y → k ≤ cond b x y
at_most-either true k x y p q = p
at_most-either false k x y p q = q

both : (a b : Bool) → (a && b) ≡ true → (a ≡ true) × (b ≡ true)
both true b e = (refl, e)
both false b e = absurd (true≢false (sym e))

unless : (b : Bool) → not b ≡ true → b ≡ false
unless true e = sym e
unless false e = refl

pub all_pass : {X : Type 0} (P : X → Type 0) (p : X → Bool) → ((x : X) → p x ≡ true → P x) → (xs : List X) → list_all p xs ≡ true → All P xs
all_pass P p h xs e = All-weaker (λ x. p x ≡ true) P h xs (AllPass-from_list_all p xs e)

-- no two items the same
abbrev pub apart : {X : Type 0} → (X → X → Bool) → List X → Bool
apart same [] = true
apart same (x ∷ xs) = list_all (λ y. not (same x y)) xs && apart same xs

pub apart_by : {X : Type 0} (R : X → X → Type 0) (same : X → X → Bool) → ((x y : X) → same x y ≡ false → R x y) → (xs : List X) → apart same xs ≡ true → AllPairs R xs
apart_by R same h [] e = λ i j d low high. absurd (omega (arith, high))
apart_by R same h (x ∷ xs) e =
    let q = both (list_all (λ y. not (same x y)) xs) (apart same xs) e in
    AllPairs-cons R x xs (all_pass (R x) (λ y. not (same x y)) (λ y q. h x y (unless (same x y) q)) xs q.0) (apart_by R same h xs q.1)

pub bytes_apart : (x y : List ℕ) → bytes_eq x y ≡ false → x ≢ y
bytes_apart x y e = λ q. true≢false (sym ((bytes_eq-Decides x y).1 q) ∙ e)

numbers_apart : (x y : ℕ) → eqb x y ≡ false → x ≢ y
numbers_apart x y e = λ q. true≢false (sym ((Decides-eqb x y).1 q) ∙ e)

-- choices within the lists of the resources from r on
abbrev within : Game → ℕ → List ℕ → Bool
within g r [] = true
within g r (c ∷ cs) = nat_le c (length (resource_schedules g r)) && within g (r + 1) cs

within-at : (g : Game) (r : ℕ) (play : List ℕ) → within g r play ≡ true → (k : ℕ) → k < length play → slice_index play k ≤ length (resource_schedules g (k + r))
within-at g r [] e k lt = absurd (omega (arith, lt))
within-at g r (c ∷ cs) e zero lt = subst (λ (m : ℕ). c ≤ length (resource_schedules g m)) (omega arith) (at_most (both (nat_le c (length (resource_schedules g r))) (within g (r + 1) cs) e).0)
within-at g r (c ∷ cs) e (suc k) lt =
    let p : k + (r + 1) ≡ suc k + r = omega arith in
    subst (λ (m : ℕ). slice_index cs k ≤ length (resource_schedules g m)) p (within-at g (r + 1) cs (both (nat_le c (length (resource_schedules g r))) (within g (r + 1) cs) e).1 k (omega (arith, lt)))

abbrev row_test : Game → List ℕ → Bool
row_test g play = eqb (length play) 1 && (nat_le 1 (slice_index play 0) && nat_le (slice_index play 0) (length g.goals))

abbrev joint_test : Game → List ℕ → Bool
joint_test g play = eqb (length play) (resource_count g) && within g 1 play

abbrev pub legal_test : Game → List ℕ → Bool
legal_test g play = cond (is_matrix g) (row_test g play) (joint_test g play)

legal_either : (g : Game) (play : List ℕ) (b : Bool) → cond b (row_test g play) (joint_test g play) ≡ true → MatchBool b (IsRow g play) (IsLegalJoint g play)
legal_either g play true e =
    let c : ℕ = slice_index play 0 in
    let q = both (eqb (length play) 1) (nat_le 1 c && nat_le c (length g.goals)) e in
    let r = both (nat_le 1 c) (nat_le c (length g.goals)) q.1 in
    record { one = (Decides-eqb (length play) 1).0 q.0; from_one = at_most r.0; in_list = at_most r.1 }
legal_either g play false e =
    let q = both (eqb (length play) (resource_count g)) (within g 1 play) e in
    record { one_each = (Decides-eqb (length play) (resource_count g)).0 q.0; in_list = within-at g 1 play q.1 }

pub legal_by : (g : Game) (play : List ℕ) → legal_test g play ≡ true → IsLegal g play
legal_by g play e = legal_either g play (is_matrix g) e

abbrev pub commitment_test : Game → List Ticket → Bool
commitment_test g k =
    (nat_le 1 (length k) && list_all (λ (x : Ticket). legal_test g x.play.code) k)
    && (list_all (λ (x : Ticket). int_le (pos 1) x.weight) k && apart (λ (x y : Ticket). bytes_eq x.play.code y.play.code) k)

pub commitment_by : (g : Game) (k : List Ticket) → commitment_test g k ≡ true → IsCommitment g k
commitment_by g k e =
    let some = nat_le 1 (length k) in
    let legal = list_all (λ (x : Ticket). legal_test g x.play.code) k in
    let positive = list_all (λ (x : Ticket). int_le (pos 1) x.weight) k in
    let distinct = apart (λ (x y : Ticket). bytes_eq x.play.code y.play.code) k in
    let q = both (some && legal) (positive && distinct) e in
    let r = both some legal q.0 in
    let s = both positive distinct q.1 in
    let low : 1 ≤ length k = at_most r.0 in
    record {
      some = λ none. omega (arith, low, ap length none);
      legal = all_pass (λ (x : Ticket). IsLegal g x.play.code) (λ (x : Ticket). legal_test g x.play.code) (λ x q. legal_by g x.play.code q) k r.1;
      positive = all_pass (λ (x : Ticket). pos 1 ≤ℤ x.weight) (λ (x : Ticket). int_le (pos 1) x.weight) (λ x q. at_most_z q) k s.0;
      distinct = apart_by (λ (x y : Ticket). x.play.code ≢ y.play.code) (λ (x y : Ticket). bytes_eq x.play.code y.play.code) (λ x y q. bytes_apart x.play.code y.play.code q) k s.1;
    }

abbrev pub names_test : List (List ℕ) → Bool
names_test names = list_all is_name names && apart bytes_eq names

pub names_by : (names : List (List ℕ)) → names_test names ≡ true → AreNames names
names_by names e =
    let q = both (list_all is_name names) (apart bytes_eq names) e in
    record { spelled = AllPass-from_list_all is_name names q.0; distinct = apart_by (λ (x y : List ℕ). x ≢ y) bytes_eq bytes_apart names q.1 }

abbrev pub count_test : ℕ → ℕ → ℕ → Bool
count_test low high n = nat_le low n && nat_le n high

pub count_by : (low high n : ℕ) → count_test low high n ≡ true → IsCount low high n
count_by low high n e = let q = both (nat_le low n) (nat_le n high) e in record { at_least = at_most q.0; at_most = at_most q.1 }

abbrev pub range_test : ℤ → ℤ → ℤ → Bool
range_test low high z = int_le low z && int_le z high

pub range_by : (low high z : ℤ) → range_test low high z ≡ true → IsWithin low high z
range_by low high z e = let q = both (int_le low z) (int_le z high) e in record { at_least = at_most_z q.0; at_most = at_most_z q.1 }

abbrev pub pay_test : ℤ → Bool
pay_test z = range_test (pos 0 -ℤ pos (2 ^ 30)) (pos (2 ^ 30)) z

pub pay_by : (z : ℤ) → pay_test z ≡ true → IsPay z
pay_by z e = range_by (pos 0 -ℤ pos (2 ^ 30)) (pos (2 ^ 30)) z e

abbrev pub payoff_test : Payoff → Bool
payoff_test p = (pay_test p.dc && pay_test p.du) && (pay_test p.ac && pay_test p.au)

pub payoff_by : (p : Payoff) → payoff_test p ≡ true → IsPayoff p
payoff_by p e =
    let q = both (pay_test p.dc && pay_test p.du) (pay_test p.ac && pay_test p.au) e in
    let d = both (pay_test p.dc) (pay_test p.du) q.0 in
    let a = both (pay_test p.ac) (pay_test p.au) q.1 in
    record { dc = pay_by p.dc d.0; du = pay_by p.du d.1; ac = pay_by p.ac a.0; au = pay_by p.au a.1 }

abbrev pub scaled_test : ℤ → Payoff → Bool
scaled_test scale p = (int_lt p.du p.dc && int_lt p.ac p.au) && int_eq (int_rem scale (gap p)) (pos 0)

pub scaled_by : (scale : ℤ) (p : Payoff) → scaled_test scale p ≡ true → IsScaled scale p
scaled_by scale p e =
    let q = both (int_lt p.du p.dc && int_lt p.ac p.au) (int_eq (int_rem scale (gap p)) (pos 0)) e in
    let r = both (int_lt p.du p.dc) (int_lt p.ac p.au) q.0 in
    record { defender_gains = omega (arith, ints, r.0); attacker_loses = omega (arith, ints, r.1); divides = (Decides-int_eq (int_rem scale (gap p)) (pos 0)).0 q.1 }

abbrev pub members_test : ℕ → ℕ → List ℕ → Bool
members_test count limit members = count_test 1 limit (length members) && (list_all (count_test 1 count) members && apart eqb members)

pub members_by : (count limit : ℕ) (members : List ℕ) → members_test count limit members ≡ true → AreMembers count limit members
members_by count limit members e =
    let known = list_all (count_test 1 count) members in
    let q = both (count_test 1 limit (length members)) (known && apart eqb members) e in
    let r = both known (apart eqb members) q.1 in
    record {
      size = count_by 1 limit (length members) q.0;
      known = all_pass (IsCount 1 count) (count_test 1 count) (count_by 1 count) members r.0;
      distinct = apart_by (λ (x y : ℕ). x ≢ y) eqb numbers_apart members r.1;
    }

abbrev pub lists_test : ℕ → ℕ → ℕ → List Named → Bool
lists_test count limit members_limit lists = nat_le (length lists) limit && (names_test (map (λ (x : Named). x.name) lists) && list_all (λ (x : Named). members_test count members_limit x.members) lists)

pub lists_by : (count limit members_limit : ℕ) (lists : List Named) → lists_test count limit members_limit lists ≡ true → AreLists count limit members_limit lists
lists_by count limit members_limit lists e =
    let names = map (λ (x : Named). x.name) lists in
    let members = list_all (λ (x : Named). members_test count members_limit x.members) lists in
    let q = both (nat_le (length lists) limit) (names_test names && members) e in
    let r = both (names_test names) members q.1 in
    record {
      few = at_most q.0;
      names = names_by names r.0;
      members = all_pass (λ (x : Named). AreMembers count members_limit x.members) (λ (x : Named). members_test count members_limit x.members) (λ x q. members_by count members_limit x.members q) lists r.1;
    }

abbrev pub table_test : ℕ → ℕ → List (List ℤ) → Bool
table_test m n table = eqb (length table) m && (list_all (λ row. eqb (length row) n) table && list_all (λ row. list_all pay_test row) table)

pub table_by : (m n : ℕ) (table : List (List ℤ)) → table_test m n table ≡ true → IsTable m n table
table_by m n table e =
    let columns = list_all (λ (row : List ℤ). eqb (length row) n) table in
    let cells = list_all (λ (row : List ℤ). list_all pay_test row) table in
    let q = both (eqb (length table) m) (columns && cells) e in
    let r = both columns cells q.1 in
    record {
      rows = (Decides-eqb (length table) m).0 q.0;
      columns = all_pass (λ row. length row ≡ n) (λ row. eqb (length row) n) (λ row q. (Decides-eqb (length row) n).0 q) table r.0;
      pays = all_pass (λ row. All IsPay row) (λ row. list_all pay_test row) (λ row q. all_pass IsPay pay_test pay_by row q) table r.1;
    }
