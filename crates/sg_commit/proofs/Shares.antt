-- Weights divided by their common divisor.
use Rattle.std.proofs.Common.{◌≡◌, ◌≢◌, ℕ, zero, suc, ◌+◌, ◌*◌, ◌/◌, ◌<◌, ◌≤◌, Bool, ◌&&◌, List, [], ◌∷◌, ◌++◌, take, drop, length, ℤ, pos, negsuc, ◌*ℤ◌, ◌≤ℤ◌, sym, ◌∙◌, ap, subst, refl, arith, slice_index_or}
use Rattle.std.specs.List.{All}
use Rattle.std.specs.Int.{◌∣◌, IsGcd}
use Rattle.std.specs.Prelude.{None, slice_set, unsigned_abs, int_div}
use Rattle.std.proofs.lemmas.Int.{ints, unsigned_abs-mul}
use Rattle.std.specs.List.Sorted.{IsPermutation, IsSortedBy}
use Rattle.std.proofs.lemmas.List.{drop_more, take_all, take_more, take_more_set, drop-set-lt, map-append, append_assoc, nil_from_length}
use Rattle.std.proofs.lemmas.List.Sorted.{All-permutation, length_permutation}
use Rattle.std.proofs.lemmas.List.Elements.{All-nil, All-cons, All-head, All-tail, All-append}
use Rattle.std.proofs.lemmas.Nat.Gcd.{dvd_refl, dvd_trans, le_of_dvd, dvd_antisymm}
use Rattle.std.proofs.Math.Nat.{mul-div_cancel', mul-dvd-mul_left, dvd_of_mul-dvd-mul_left, dvd-mul_right}
use Rattle.sg_model.specs.declared.ticket.Ticket.{Ticket}
use Rattle.sg_model.specs.declared.kind.Kind.TheVariants.{Security}
use Rattle.sg_model.specs.Games.{Game}
use Rattle.sg_model.specs.Commitments.{scaled, weight_on, weight_total, AreLowest}
use Rattle.sg_model.specs.OptimalityLaws.{AreOneMix}
use Rattle.sg_model.proofs.Ints.{factor_positive, v, times, same_by, cancel, product_nonneg}
use Rattle.sg_model.proofs.Joined.{mix-permuted, same_weight_total}
use Rattle.sg_model.proofs.Scaled.{weight_total-scaled}
use Rattle.sg_commit.specs.Committed.{IsCommitted, is_rising}
use Rattle.sg_model.specs.Orders.{is_before}
use Rattle.sg_commit.specs.Joining.{IsCommonDivisor, joined, no_ticket}
use Rattle.sg_commit.specs.Parts.{AreMultiple}
use Rattle.sg_commit.proofs.Orders.{comes_before}
use Rattle.sg_commit.proofs.Joins.{mix-joined_all, positive-joined, rising-joined, some-joined}
use Rattle.sg_model.proofs.Covers.{ArePositive, weight_total-nonneg}
use Rattle.sg_commit.proofs.Standing.{All-back, All-front}

-- ---- the common divisor

one_divisor : (x : Ticket) → IsCommonDivisor (x ∷ []) (unsigned_abs x.weight)
one_divisor x = record {
  divides = All-cons (λ (y : Ticket). unsigned_abs x.weight ∣ unsigned_abs y.weight) x [] (dvd_refl (unsigned_abs x.weight)) (All-nil (λ (y : Ticket). unsigned_abs x.weight ∣ unsigned_abs y.weight));
  greatest = λ e h. All-head (λ (y : Ticket). e ∣ unsigned_abs y.weight) x [] h;
}

-- of the first ticket
pub first_divisor : (k : List Ticket) (d : ℕ) → 0 < length k → d ≡ unsigned_abs (slice_index_or k 0 no_ticket).weight → IsCommonDivisor (take 1 k) d
first_divisor [] d some e = absurd (omega (arith, some))
first_divisor (x ∷ xs) d some e = subst (λ (d : ℕ). IsCommonDivisor (x ∷ []) d) (sym e) (one_divisor x)

divisor-push : (k : List Ticket) (x : Ticket) (d r : ℕ) → IsCommonDivisor k d → IsGcd d (unsigned_abs x.weight) r → IsCommonDivisor (k ++ x ∷ []) r
divisor-push k x d r i h = record {
  divides = All-append (λ (y : Ticket). r ∣ unsigned_abs y.weight) k (x ∷ [])
      (λ j e lt. dvd_trans r h.0 (i.divides j e lt))
      (All-cons (λ (y : Ticket). r ∣ unsigned_abs y.weight) x [] h.1 (All-nil (λ (y : Ticket). r ∣ unsigned_abs y.weight)));
  greatest = λ e all. h.2 e
      (i.greatest e (All-front (λ (y : Ticket). e ∣ unsigned_abs y.weight) k (x ∷ []) all))
      (All-head (λ (y : Ticket). e ∣ unsigned_abs y.weight) x [] (All-back (λ (y : Ticket). e ∣ unsigned_abs y.weight) k (x ∷ []) all));
}

-- of one ticket more
pub more_divisor : (k : List Ticket) (i d w r : ℕ) → i < length k → IsCommonDivisor (take i k) d → w ≡ unsigned_abs (slice_index_or k i no_ticket).weight → IsGcd d w r → IsCommonDivisor (take (i + 1) k) r
more_divisor k i d w r lt c e h =
    subst (λ (xs : List Ticket). IsCommonDivisor xs r) (sym (take_more k i no_ticket lt))
    (divisor-push (take i k) (slice_index_or k i no_ticket) d r c (subst (λ (w : ℕ). IsGcd d w r) e h))

-- it is from 1 to the first weight
pub divisor_range : (k : List Ticket) (d : ℕ) → 0 < length k → ArePositive k → IsCommonDivisor k d → (0 < d) × (d ≤ unsigned_abs (slice_index_or k 0 no_ticket).weight)
divisor_range k d some p c =
    let w : ℤ = (slice_index_or k 0 no_ticket).weight in
    let low : pos 1 ≤ℤ w = p 0 no_ticket some in
    let up : 0 < unsigned_abs w = above w low in
    let divides : d ∣ unsigned_abs w = c.divides 0 no_ticket some in
    (some_divisor d (unsigned_abs w) up divides, le_of_dvd up divides)
  where
    above : (w : ℤ) → pos 1 ≤ℤ w → 0 < unsigned_abs w
    above (pos n) h = omega (arith, ints, h)
    above (negsuc n) h = absurd (omega (arith, ints, h))

    some_divisor : (d n : ℕ) → 0 < n → d ∣ n → 0 < d
    some_divisor zero n h e = absurd (let q = mul-div_cancel' 0 {m = n} e in omega (arith, q, h))
    some_divisor (suc d) n h e = omega arith

-- of all tickets
pub all_of : (k : List Ticket) (i d : ℕ) → length k ≤ i → IsCommonDivisor (take i k) d → IsCommonDivisor k d
all_of k i d h c = subst (λ (xs : List Ticket). IsCommonDivisor xs d) (take_all i k h) c

-- ---- the quotients

pub quotient-exact : (w by : ℤ) → pos 0 ≤ℤ w → pos 1 ≤ℤ by → unsigned_abs by ∣ unsigned_abs w → by *ℤ int_div w by ≡ w
quotient-exact (pos a) (pos b) p q d = let e : b * (a / b) ≡ a = mul-div_cancel' b d in omega (arith, ints, e)
quotient-exact (pos a) (negsuc b) p q d = absurd (omega (arith, ints, q))
quotient-exact (negsuc a) by p q d = absurd (omega (arith, ints, p))

quotient-product : (by s : ℤ) → pos 1 ≤ℤ by → pos 0 ≤ℤ s → int_div (by *ℤ s) by ≡ s
quotient-product by s h k =
    let whole : by *ℤ int_div (by *ℤ s) by ≡ by *ℤ s = quotient-exact (by *ℤ s) by (product_nonneg by s (omega (arith, ints, h)) k) h
    (subst (λ (n : ℕ). unsigned_abs by ∣ n) (sym (unsigned_abs-mul by s)) (dvd-mul_right (unsigned_abs by) (unsigned_abs s))) in
    cancel (int_div (by *ℤ s) by) s by
    (same_by (times (v (int_div (by *ℤ s) by)) (v by)) (times (v by) (v (int_div (by *ℤ s) by))) (omega arith)
    ∙ (whole ∙ same_by (times (v by) (v s)) (times (v s) (v by)) (omega arith))) h

-- a ticket with so many times its weight
abbrev weigh : ℤ → Ticket → Ticket
weigh by x = record x { weight = by *ℤ x.weight }

-- one weight more is divided
pub divide_one : (by : ℤ) (k old : List Ticket) (i : ℕ) (q : ℤ) → i < length k → pos 1 ≤ℤ by → ArePositive old → IsCommonDivisor old (unsigned_abs by)
    → scaled by (take i k) ++ drop i k ≡ old → q ≡ int_div (slice_index_or k i no_ticket).weight by
    → scaled by (take (i + 1) (slice_set k i (record { play = (slice_index_or k i no_ticket).play; weight = q }))) ++ drop (i + 1) (slice_set k i (record { play = (slice_index_or k i no_ticket).play; weight = q })) ≡ old
divide_one by k old i q lt h p c e is =
    let x : Ticket = slice_index_or k i no_ticket in
    let z : Ticket = record { play = x.play; weight = q } in
    let front : List Ticket = scaled by (take i k) in
    let back : List Ticket = drop (i + 1) k in
    let cut : old ≡ front ++ x ∷ back = sym e ∙ ap (λ (ys : List Ticket). front ++ ys) (drop_more k i no_ticket lt) in
    let low : pos 1 ≤ℤ x.weight = All-head (λ (y : Ticket). pos 1 ≤ℤ y.weight) x back (All-back (λ (y : Ticket). pos 1 ≤ℤ y.weight) front (x ∷ back) (subst ArePositive cut p)) in
    let divides : unsigned_abs by ∣ unsigned_abs x.weight =
    All-head (λ (y : Ticket). unsigned_abs by ∣ unsigned_abs y.weight) x back
    (All-back (λ (y : Ticket). unsigned_abs by ∣ unsigned_abs y.weight) front (x ∷ back) (subst (λ (ys : List Ticket). All (λ (y : Ticket). unsigned_abs by ∣ unsigned_abs y.weight) ys) cut c.divides)) in
    let whole : by *ℤ q ≡ x.weight = ap (λ (z : ℤ). by *ℤ z) is ∙ quotient-exact x.weight by (omega (arith, ints, low)) h divides in
    let again : weigh by z ≡ x = λ i. record { play = x.play; weight = whole i } in
    let a : scaled by (take (i + 1) (slice_set k i z)) ≡ front ++ weigh by z ∷ [] = ap (scaled by) (take_more_set k i z lt) ∙ map-append (weigh by) (take i k) (z ∷ []) in
    let b : drop (i + 1) (slice_set k i z) ≡ back = drop-set-lt (i + 1) k i z (omega arith) in
    let d : (front ++ weigh by z ∷ []) ++ back ≡ front ++ weigh by z ∷ back = append_assoc front (weigh by z ∷ []) back in
    (λ j. a j ++ b j) ∙ (d ∙ (ap (λ (y : Ticket). front ++ y ∷ back) again ∙ sym cut))

-- ---- what was divided

multiples : (by : ℤ) (d : ℕ) (k : List Ticket) → All (λ (x : Ticket). d ∣ unsigned_abs x.weight) k → All (λ (x : Ticket). (unsigned_abs by * d) ∣ unsigned_abs x.weight) (scaled by k)
multiples by d [] h = All-nil (λ (x : Ticket). (unsigned_abs by * d) ∣ unsigned_abs x.weight)
multiples by d (x ∷ xs) h =
    All-cons (λ (x : Ticket). (unsigned_abs by * d) ∣ unsigned_abs x.weight) (record x { weight = by *ℤ x.weight }) (scaled by xs)
    (subst (λ (n : ℕ). (unsigned_abs by * d) ∣ n) (sym (unsigned_abs-mul by x.weight)) (mul-dvd-mul_left d (unsigned_abs by) (All-head (λ (x : Ticket). d ∣ unsigned_abs x.weight) x xs h)))
    (multiples by d xs (All-tail (λ (x : Ticket). d ∣ unsigned_abs x.weight) x xs h))

pub lowest-divided : (by : ℤ) (k : List Ticket) → pos 1 ≤ℤ by → IsCommonDivisor (scaled by k) (unsigned_abs by) → AreLowest k
lowest-divided (pos b) k h c = λ d all.
    let m : (b * d) ∣ b = c.greatest (b * d) (multiples (pos b) d k all) in
    let e : b * 1 ≡ b = omega arith in
    let one : d ∣ 1 = dvd_of_mul-dvd-mul_left {k = b} d {n = 1} (omega (arith, ints, h)) (subst (λ (n : ℕ). (b * d) ∣ n) (sym e) m) in
    dvd_antisymm one (dvd-one d)
  where
    dvd-one : (d : ℕ) → 1 ∣ d
    dvd-one d = let e : 1 * d ≡ d = omega arith in subst (λ (n : ℕ). 1 ∣ n) e (dvd-mul_right 1 d)
lowest-divided (negsuc b) k h c = absurd (omega (arith, ints, h))

pub positive-divided : (by : ℤ) (k : List Ticket) → pos 1 ≤ℤ by → ArePositive (scaled by k) → ArePositive k
positive-divided by [] h p = All-nil (λ (x : Ticket). pos 1 ≤ℤ x.weight)
positive-divided by (x ∷ xs) h p =
    let P = λ (x : Ticket). pos 1 ≤ℤ x.weight in
    let y : Ticket = record x { weight = by *ℤ x.weight } in
    All-cons P x xs
    (factor_positive x.weight by (by *ℤ x.weight) (same_by (times (v x.weight) (v by)) (times (v by) (v x.weight)) (omega arith)) (All-head P y (scaled by xs) p) (omega (arith, ints, h)))
    (positive-divided by xs h (All-tail P y (scaled by xs) p))

pub rising-scaled : (by : ℤ) (k : List Ticket) → is_rising (scaled by k) ≡ is_rising k
rising-scaled by [] = refl
rising-scaled by (x ∷ []) = refl
rising-scaled by (x ∷ y ∷ ys) = ap (λ (b : Bool). is_before x.play.code y.play.code && b) (rising-scaled by (y ∷ ys))

-- ---- all together

-- a game, whichever
no_game : Game
no_game = record { kind = Security; scale = pos 0; patrols = None; goals = []; schedules = []; resources = []; types = [] }

pub record IsMade (parts k : List Ticket) (total : ℤ) : Type 0 where
  pub committed : IsCommitted (record { tickets = k; total = total })
  pub multiple : AreMultiple parts k

pub made : (parts ordered k : List Ticket) (by total q : ℤ) → parts ≢ [] → ArePositive parts → total ≡ weight_total parts → IsPermutation parts ordered
    → IsSortedBy comes_before ordered → pos 1 ≤ℤ by → IsCommonDivisor (joined ordered) (unsigned_abs by) → scaled by k ≡ joined ordered → q ≡ int_div total by → IsMade parts k q
made parts ordered k by total q some positive sum moved sorted h divisor same is =
    let mix : AreOneMix parts (scaled by k) = λ play. mix-permuted parts ordered moved play ∙ (mix-joined_all ordered play ∙ ap (λ (xs : List Ticket). weight_on xs play) (sym same)) in
    let all : ArePositive (scaled by k) = subst ArePositive (sym same) (positive-joined ordered (All-permutation (λ (x : Ticket). pos 1 ≤ℤ x.weight) parts ordered moved positive)) in
    let low : ArePositive k = positive-divided by k h all in
    record {
      multiple = (by, h, mix);
      committed = record {
        some = λ e. nonempty parts ordered some moved (sym same ∙ ap (scaled by) e);
        positive = low;
        rising = sym (rising-scaled by k) ∙ (ap is_rising same ∙ rising-joined ordered sorted);
        lowest = lowest-divided by k h (subst (λ (xs : List Ticket). IsCommonDivisor xs (unsigned_abs by)) (sym same) divisor);
        sum =
            let a : total ≡ by *ℤ weight_total k = sum ∙ (same_weight_total no_game parts (scaled by k) mix ∙ weight_total-scaled by k) in
            is ∙ (ap (λ (z : ℤ). int_div z by) a ∙ quotient-product by (weight_total k) h (weight_total-nonneg k low));
      };
    }
  where
    nonempty : (parts ordered : List Ticket) → parts ≢ [] → IsPermutation parts ordered → joined ordered ≢ []
    nonempty parts [] some moved e = some (nil_from_length parts (sym (length_permutation parts [] moved)))
    nonempty parts (x ∷ xs) some moved e = some-joined x xs e

pub some-permuted : (parts ordered : List Ticket) → parts ≢ [] → IsPermutation parts ordered → 1 ≤ length ordered
some-permuted parts [] some moved = absurd (some (nil_from_length parts (sym (length_permutation parts [] moved))))
some-permuted parts (x ∷ xs) some moved = omega arith

pub some_joined : (ordered : List Ticket) → 1 ≤ length ordered → 1 ≤ length (joined ordered)
some_joined [] h = absurd (omega (arith, h))
some_joined (x ∷ xs) h = some_length (joined (x ∷ xs)) (some-joined x xs)
  where
    some_length : (k : List Ticket) → k ≢ [] → 1 ≤ length k
    some_length [] e = absurd (e refl)
    some_length (y ∷ ys) e = omega arith
